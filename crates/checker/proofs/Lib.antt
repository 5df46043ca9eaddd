-- Laws of choices, of the window's words and their sum, of bases, of tallies, and of what 12, 13 and 27 let through.
mod Choices
mod Ring
mod SumLaws
mod Bases
mod ProfileLaws
mod Tallies
mod Admissions
-- The plain machine and the checker: one call, a fresh checker, every list of calls.
mod Simulation
mod Fresh
mod Lists
mod Stays
mod Passes
-- What follows for verdicts, totals, answers and reports: the third demand, and two lists for one rule.
mod Final
mod Sums
mod Value
mod Text
mod Agree
mod Order
mod Reports
mod Never
mod Exactly
mod Openings
mod Unchanged
mod RefusalLaws
mod Told
-- Points of document 02: windows that differ in one word, views, logs of the earlier edition, the rework tariff.
mod OneWord
mod Views
mod Earlier
mod Prices
mod Charges
-- Computed examples.
mod Marked
mod CallExamples
mod StartExamples
mod BoardExamples
mod SumExamples
mod ViewExamples
mod TariffExamples
-- What the proofs of functions cite: opening, bases, the window, 12, feeding.
mod CodeBase
mod CodeRing
mod CodeStateTest
mod CodeOpen
mod CodeFeed
-- What the proofs of functions cite: marks and notes, the report, pulling.
mod PullFound
mod PullReport
mod PullOffer
-- What other crates cite, and the headline statements.
pub mod Laws
pub mod Main
