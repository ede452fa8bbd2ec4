pub mod Model
pub mod Rules
pub mod Keys
pub mod Agreeing
pub mod Rooms
pub mod Fitting
pub mod Touching
