pub mod Tape
pub mod Answers
