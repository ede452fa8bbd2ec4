pub mod Rescue
pub mod Swept
pub mod Unique
