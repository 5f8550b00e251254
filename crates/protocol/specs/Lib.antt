-- The definitions of the protocol, from states and words up to the two rule tables, and numbers of commands and modes.
pub mod State
pub mod Rules
pub mod Coded
