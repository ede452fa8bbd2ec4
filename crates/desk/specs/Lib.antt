-- The listing from a given book has room.
pub mod From
