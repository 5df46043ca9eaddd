-- What a buyer reads: a signed number of four bytes and of two, and a range of bytes.
pub mod Word
pub mod Range
