pub mod Text
pub mod Written
pub mod Line
pub mod Kinds
pub mod History
pub mod Laws
