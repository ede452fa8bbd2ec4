pub mod Shape
pub mod Names
