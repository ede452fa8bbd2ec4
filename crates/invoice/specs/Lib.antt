pub mod Invoice
pub mod Laws
pub mod Seen
