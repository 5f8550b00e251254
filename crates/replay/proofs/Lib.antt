-- Laws of a trace that several proofs cite, and document 01's example.
pub mod Refusing
pub mod Running
pub mod Playing
pub mod Example
