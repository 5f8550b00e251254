-- The shape: its limits, sizes and places, and its ranges.
pub mod Range
pub mod Shape
pub mod Claims
