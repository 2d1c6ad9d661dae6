pub mod Layout
pub mod Record
pub mod Fresh
pub mod WellFormed
