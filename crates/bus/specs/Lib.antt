-- A bus command in numbers, and the answers to it.
pub mod Bus
