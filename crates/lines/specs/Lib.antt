pub mod Lines
pub mod LineSize
