-- An answer in bytes.
pub mod Answers
