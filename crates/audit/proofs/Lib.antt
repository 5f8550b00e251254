-- Laws of the audit's tests that several proofs cite.
pub mod Classes
pub mod Places
pub mod Pairs
pub mod Tested
pub mod Fine
pub mod Columns
