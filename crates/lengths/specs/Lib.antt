-- Refusals 2, 3 and 12 of what a host lends.
pub mod Lengths
