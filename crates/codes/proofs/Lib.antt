pub mod Sound
pub mod Fixed
pub mod Demand
pub mod Items
pub mod Put
pub mod Stores
pub mod Number
pub mod Signed
