pub mod Table
pub mod Element
