-- Laws of a line's entries in bytes, that several proofs cite.
pub mod Bytes
pub mod Places
pub mod Masks
pub mod Rotations
pub mod Surveys
