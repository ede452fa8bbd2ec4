pub mod Status
pub mod Terms
pub mod Kind
pub mod Installment
pub mod Schedule
pub mod Due
pub mod Answers
pub mod Laws
