pub mod Answers
pub mod AnswerLaws
pub mod Snapshots
pub mod SnapshotLaws
