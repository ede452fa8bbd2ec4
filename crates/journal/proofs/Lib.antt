pub mod Ahead
pub mod Canonical
pub mod OwnBytes
