-- Numbers as little-endian bytes: the one definition of the encoding, over the width.
pub mod Little
