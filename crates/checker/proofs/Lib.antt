pub mod Counting
pub mod Tested
pub mod Comparing
pub mod Judging
pub mod Laws
pub mod Instances
