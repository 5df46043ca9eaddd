-- What proofs of crates above may use of this crate beside Main. Assumes nothing.

-- a fresh checker beside the plain machine
pub use Rattle.checker.proofs.Fresh.{both-opened}
-- states and windows that 12, 13 and 27 let through
pub use Rattle.checker.proofs.Admissions.{let_in, in_good}
pub use Rattle.checker.proofs.Stays.{opened-stays, fed-stays, pulled-stays, feed-rule, pull-rule}
-- bytes of a state's frames
pub use Rattle.checker.proofs.CodeBase.{bytes_take}
