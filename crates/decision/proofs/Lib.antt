-- Laws of a decision, that the proofs of functions cite.
pub mod Supplied
pub mod Decisions
