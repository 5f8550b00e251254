-- Laws of truth values, words and accesses that several proofs cite, here and in the crates above.
pub mod Bools
pub mod Merge
pub mod Effects
