-- `checker::sum::sum_of` meets its contract: after k steps the sum is that of the first k words. Assumes nothing.
use Rattle.std.proofs.Common.{◌≡◌, take}
use Rattle.checker.specs.Sum.{sum_of}
use Rattle.checker.proofs.sum.sum_of.Given as goal

abbrev pub invariant-loop-word : goal.invariant-loop-word
invariant-loop-word l = l.sum ≡ sum_of (take l.word-index l.window)
