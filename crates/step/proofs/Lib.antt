-- Laws of one order that several proofs cite.
pub mod Orders
pub mod Lines
