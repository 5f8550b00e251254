-- Laws of one order on a line, that the proofs of functions cite.
pub mod Applied
pub mod Carried
pub mod Flushes
pub mod Devices
