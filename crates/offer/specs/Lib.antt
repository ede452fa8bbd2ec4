pub mod Offer
pub mod Rules
pub mod Laws
pub mod Kept
pub mod Seen
