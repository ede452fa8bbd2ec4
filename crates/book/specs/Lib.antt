pub mod Stored
pub mod Shelving
pub mod Tested
pub mod Turning
