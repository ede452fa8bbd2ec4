-- How much of its buffer a snapshot takes.
pub mod Size
