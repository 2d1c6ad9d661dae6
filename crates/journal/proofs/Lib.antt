pub mod Pieces
pub mod Lines
pub mod Records
pub mod Whole
pub mod Instances
