-- Tables of the old edition: the conversion of tables both ways, the audit's rules on the letters, and what is proved of them.
pub mod Convert
pub mod Rules
pub mod Claims
