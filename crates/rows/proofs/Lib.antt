-- The proofs of the published tables' claims.
pub mod Cells
pub mod Arising
pub mod Examples
pub mod Places
pub mod Counts
pub mod Design
