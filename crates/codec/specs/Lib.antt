pub mod Codec
pub mod Whole
pub mod Columns
pub mod Cursor
pub mod Cursors
pub mod Puts
pub mod Weight
pub mod OneResult
