-- Laws that the proofs of finding cite.
pub mod Links
pub mod Holders
pub mod Finds
