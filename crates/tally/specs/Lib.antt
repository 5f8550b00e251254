-- The totals of a trace and of several.
pub mod Tally
pub mod Example
