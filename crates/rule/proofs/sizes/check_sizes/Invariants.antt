-- `rule::sizes::check_sizes` meets its contract. Assumes nothing.
use mathlib.Core.Path.{◌≡◌}
use Rattle.rule.specs.Sizes.{size_at, fits}
use Rattle.rule.proofs.sizes.check_sizes.Given as goal

abbrev pub invariant-loop-i : goal.invariant-loop-i
invariant-loop-i l = size_at l.scale l.frames l.i ≡ fits l.magnitudes
