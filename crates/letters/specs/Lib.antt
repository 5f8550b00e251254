-- The five letters of the old edition, and what is proved of their bytes.
pub mod Letters
pub mod Claims
