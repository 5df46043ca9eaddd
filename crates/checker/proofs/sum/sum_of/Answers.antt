-- `checker::sum::sum_of` meets its contract: after k steps the sum is that of the first k words. Assumes nothing.
use Rattle.std.proofs.Common.{◌≡◌, ℤ, get_or, pos, w32, to_z, of_z, to_z-of_z, rules}
use Rattle.checker.proofs.SumLaws.{sum-none, sum_more}
use Rattle.checker.proofs.sum.sum_of.Goals as goal

pub loop-word-init : goal.loop-word-init
loop-word-init c = sum-none c.args.window.now

pub loop-word-preserved : goal.loop-word-preserved
loop-word-preserved c =
    let win = c.args.window.now in
    let l = c.loop-word in
    let z : ℤ = get_or win l.word-index (pos 0) in
    let same : to_z w32 (of_z w32 z) ≡ z = to_z-of_z {w = w32} (search rules) in
    rw (c.cast_unsigned-sum.ensures, same) (sum_more win l.word-index l.sum c.loop-word-test.true l.invariant)
