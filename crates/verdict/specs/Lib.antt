-- What a buyer reads: what a reference is found to be, three truth values, the value of a rule, the same by rational numbers,
-- settled instances, what later lines may change, and the report's marks.
pub mod Found
pub mod Kleene
pub mod Value
pub mod Rational
pub mod Settled
pub mod Later
pub mod Marks
-- What the contracts of the evaluator and of inner functions are said by; `judge_accepted` in proofs/Main ties it to the
-- definitions above.
pub mod Pass
pub mod Stacks
