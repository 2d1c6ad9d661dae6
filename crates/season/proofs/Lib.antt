pub mod Sums
pub mod Adds
pub mod Whole
pub mod Farms
pub mod Worked
pub mod Instances
