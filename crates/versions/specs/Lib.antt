pub mod Low
pub mod Layout
pub mod Fit
pub mod Keep
pub mod Version
pub mod Laws
