-- What the proofs of this crate cite.
pub mod Host
pub mod ReadBack
pub mod Totals
pub mod Records
pub mod Calls
pub mod Runs
pub mod Example
pub mod Refused
