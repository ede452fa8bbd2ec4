pub mod Purse
pub mod Account
pub mod Post
pub mod Rules
pub mod Seen
