-- What is proved of all entry points together.
pub mod Refused
