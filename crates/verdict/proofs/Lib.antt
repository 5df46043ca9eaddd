-- References and truth values: what a reference is found to be, Kleene's tables, what later lines leave.
mod Resolve
mod Tables
mod Own
mod Stays
-- The evaluator: integers, kinds, trees that frames build, bounds, its loop, and what it answers.
mod Numbers
mod ByKind
mod Built
mod Bounds
mod Loop
mod Mirror
mod Means
-- Decimals: products of integers, relations of multiples, and the value by rational numbers.
mod Products
mod Scaling
mod Exact
-- Computed examples.
mod Marked
mod Examples
mod ExactExamples
-- What other crates cite, and the headline statements.
pub mod Laws
pub mod Main
