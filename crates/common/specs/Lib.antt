pub mod Limits
pub mod Bytes
pub mod Answers
pub mod RefusalLaws
pub mod LimitFacts
pub mod ByteLaws
pub mod AnswerLaws
