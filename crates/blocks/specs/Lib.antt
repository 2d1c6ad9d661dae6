pub mod Block
pub mod Request
pub mod Response
pub mod Page
pub mod Place
pub mod Reader
pub mod Walk
pub mod Laws
