-- Laws of the answers on the bus, that several proofs cite.
pub mod Answers
