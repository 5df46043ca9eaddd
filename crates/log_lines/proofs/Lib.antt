-- Lines: values of digits, pairs, notes and places, what a line's answer says.
mod Values
mod Digits
mod Pairs
mod Lines
mod Exactly
mod Cases
mod Answers
-- Lines of the earlier edition: digits of numbers, notes that fit, what is lost, both conversions and their refusals.
mod Spelled
mod NoteLaws
mod Losses
mod Copies
mod Converting
mod Conversions
mod Refusals
-- A log of many lines.
mod Walking
mod Readers
-- Computed examples.
mod Examples
mod EarlierExamples
-- The headline statements, which other crates cite too.
pub mod Main
