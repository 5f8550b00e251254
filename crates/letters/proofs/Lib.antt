-- Laws of the letters and their bytes.
pub mod Letters
