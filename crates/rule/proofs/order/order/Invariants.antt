-- `rule::order::order` meets its contract. Assumes nothing.
use mathlib.Core.Path.{◌≡◌}
use Rattle.rule.specs.References.{references_to, one_more}
use Rattle.rule.specs.Order.{prefix_at, viable}
use Rattle.rule.proofs.order.order.Given as goal

abbrev pub invariant-loop-i : goal.invariant-loop-i
invariant-loop-i l =
    (prefix_at l.most l.frames l.i ≡ viable l.made.conditions l.made.sums) × (references_to one_more l.frames 0 l.i ≡ l.references)
