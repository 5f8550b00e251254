-- Truth values as numbers, words by their bytes, and accesses.
pub mod Bools
pub mod Word
pub mod Access
