-- Laws of the conversion, and the proofs of what is claimed of it.
pub mod Loops
pub mod Conversions
pub mod Rules
pub mod Claims
