pub mod Elements
pub mod Every
pub mod Rows
pub mod Sorted
