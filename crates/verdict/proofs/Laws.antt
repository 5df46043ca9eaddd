-- What proofs of crates above may use of this crate beside Main. Assumes nothing.

-- the magnitude of a sum of integers
pub use Rattle.verdict.proofs.Numbers.{nat_abs_add}
-- what a reference is in two lookups, and at a late instance
pub use Rattle.verdict.proofs.Resolve.{found-same, found-gains, resolve-late}
-- two that say the same of each of the references, and none of which something holds
pub use Rattle.verdict.proofs.Own.{SameOn, none_so}
