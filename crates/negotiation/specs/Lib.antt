pub mod Rounds
pub mod Whole
pub mod Laws
pub mod Latest
