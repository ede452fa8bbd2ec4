pub mod JournalLaws
pub mod Replayed
pub mod Parts
pub mod Snapshots
