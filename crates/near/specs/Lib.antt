pub mod Near
pub mod Returns
pub mod Steps
pub mod Sides
pub mod Settling
pub mod Gate
