pub mod Answers
pub mod Pairs
