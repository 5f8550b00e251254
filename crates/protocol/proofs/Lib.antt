-- Laws of the protocol that several proofs cite, here and in the crates above.
pub mod Finite
pub mod States
pub mod Numbers
pub mod Kept
