-- Laws of truth values, of ranges and tables, and of integers.
pub mod Bools
pub mod Ranges
pub mod Table
pub mod Signed
pub mod Ints
-- Computed examples.
pub mod Examples
