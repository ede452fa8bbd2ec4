pub mod Walk
pub mod Answers
pub mod Laws
pub mod Room
pub mod Sweeping
pub mod Trips
