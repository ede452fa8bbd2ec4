pub mod Seats
pub mod Counting
