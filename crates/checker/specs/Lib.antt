-- What a buyer reads: limits and answers, desk and board, bases, the state, the window and its sum, the report, the three calls,
-- the plain machine, the words of the third demand, windows that differ in one word, the view of a report, logs of the earlier
-- edition, and the rework tariff.
pub mod Limits
pub mod Refusals
pub mod Answer
pub mod Profile
pub mod Base
pub mod State
pub mod Ring
pub mod Sum
pub mod Found
pub mod Report
pub mod Open
pub mod StateTest
pub mod Admission
pub mod Feed
pub mod Pull
pub mod Calls
pub mod Machine
pub mod Demand
pub mod OneWord
pub mod View
pub mod Earlier
pub mod Tariff
-- What the contracts of inner functions are said by; no contract of open, feed or pull cites it. Crates bench and dillplatter call
-- by Parts, and bench by Ready too.
pub mod Parts
pub mod Decided
pub mod InWindow
pub mod BasePass
pub mod BaseLow
pub mod Sights
pub mod Offer
pub mod Ready
