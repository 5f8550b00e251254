-- What the attributes of this crate name.
pub mod Parts
