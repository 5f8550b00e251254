-- Laws of the shape that proofs above cite.
pub mod Bounds
pub mod Ranges
pub mod Refusals
