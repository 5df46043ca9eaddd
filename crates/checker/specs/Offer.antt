-- What a pull's inner functions require. No public contract cites it. Assumes nothing: definitions.
use Rattle.std.specs.Prelude.{ℕ, ◌≤◌}
use Rattle.verdict.specs.Found.{instance_limit}
use Rattle.checker.specs.State.{totals_sum}
use Rattle.checker.specs.declared.Totals.{Totals}

-- of totals and p: "The totals sum to p less that start", so at most to p
pub record Countable (t : Totals) (p : ℕ) : Type 0 where
  pub sum : totals_sum t ≤ p
  pub low : p ≤ instance_limit
