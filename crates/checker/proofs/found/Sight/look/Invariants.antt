-- `checker::found::Sight::look` meets its contract. The invariant: the arrays show each reference passed.
use Rattle.checker.specs.Found.{found_in_window}
use Rattle.checker.proofs.PullFound.{LookedTo}
use Rattle.checker.proofs.found.Sight.look.Given as goal

abbrev pub invariant-loop-k : goal.invariant-loop-k
invariant-loop-k l = LookedTo l.frames (found_in_window l.self.width l.self.counts l.self.window.now l.self.p.0) l.marks l.notes l.k
