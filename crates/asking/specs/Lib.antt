pub mod Answers
pub mod AnswerLaws
pub mod Questions
pub mod QuestionLaws
pub mod ReplyLaws
