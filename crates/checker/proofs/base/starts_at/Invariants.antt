-- `checker::base::starts_at` meets its contract. Assumes nothing.
use Rattle.checker.proofs.CodeBase.{PassHolds}
use Rattle.checker.proofs.base.starts_at.Given as goal

abbrev pub invariant-loop-k : goal.invariant-loop-k
invariant-loop-k l = PassHolds l.frames l.p.0 l.k l.starts.bases l.starts.first.0
