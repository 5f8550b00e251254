-- What a C host sees of the model, and of totals; and what is proved of its calls.
pub mod Host
pub mod ReadBack
pub mod Totals
pub mod Calls
pub mod Runs
pub mod Example
pub mod Refused
