pub mod Address
pub mod Read
pub mod Change
pub mod Work
pub mod Walk
pub mod Laws
