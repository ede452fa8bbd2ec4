pub mod Settlement
pub mod Parties
pub mod Laws
