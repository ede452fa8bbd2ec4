pub mod Numbers
pub mod Reads
pub mod Says
pub mod Answers
pub mod Held
pub mod Questions
pub mod QuestionLaws
pub mod Asking
