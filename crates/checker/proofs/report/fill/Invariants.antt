-- `checker::report::fill` meets its contract. Assumes nothing.
use Rattle.checker.proofs.PullReport.{Kept}
use Rattle.checker.proofs.report.fill.Given as goal

abbrev pub invariant-loop-k : goal.invariant-loop-k
invariant-loop-k l = Kept l.frames l.marks l.notes l.initial.report l.report l.at l.k
