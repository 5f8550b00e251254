-- What several proofs of this crate cite, and the example.
pub mod Counting
pub mod Adding
pub mod Example
