-- Laws of the refusals' numbers that proofs above cite.
pub mod Numbers
