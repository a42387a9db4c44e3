pub mod Answers
pub mod Sessions
pub mod steps
pub mod Meanings
