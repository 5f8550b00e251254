-- What the proofs of this crate cite.
pub mod Numbers
pub mod Modes
