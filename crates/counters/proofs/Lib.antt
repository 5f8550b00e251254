-- What several proofs of this crate cite, and the theorems over runs.
pub mod Answers
pub mod Counting
pub mod Places
pub mod Sums
