-- That the numbers fix the answer.
pub mod Fixed
-- The headline statements.
pub mod Main
