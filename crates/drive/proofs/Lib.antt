pub mod Signed
pub mod Find
pub mod Number
pub mod Proper
pub mod Quiet
pub mod Laws
pub mod Worked
pub mod Instances
