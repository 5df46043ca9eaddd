-- What a buyer reads: digits and their pairs, the log line with refusal 15, the lines of the earlier edition and their converter,
-- the lines of a log and the walk over them.
pub mod Digit
pub mod Pair
pub mod Line
pub mod Earlier
pub mod Walk
