pub mod Speed
pub mod Faults
pub mod States
pub mod Cycle
pub mod Motion
pub mod Laws
pub mod Worked
