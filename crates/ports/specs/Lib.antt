-- The three tables as little-endian bytes, and what the code on one line's entries computes.
pub mod Bytes
pub mod Entry
pub mod Line
pub mod Masks
