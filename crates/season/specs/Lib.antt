pub mod Season
pub mod Report
pub mod Laws
