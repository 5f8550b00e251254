-- What a decision carried out leaves.
pub mod Carried
