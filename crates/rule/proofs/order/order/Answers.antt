-- `rule::order::order` meets its contract. Assumes nothing.
use native.Mathlib.Omega.{arith}
use Rattle.std.proofs.lemmas.Bool.Decides.{nat_tests}
use Rattle.rule.proofs.FrameOrder.{order_ended}
use Rattle.rule.proofs.order.order.Goals as goal

pub returns-then-made-eq0 : goal.returns-then-made-eq0
returns-then-made-eq0 c =
    let l = c.loop-i in
    let e = order_ended c.args.most c.args.frames.now l.i _ _ _ (omega arith) l.invariant.0 l.invariant.1 in
    grind (arith, nat_tests)

pub returns-else-made-eq1 : goal.returns-else-made-eq1
returns-else-made-eq1 c =
    let l = c.loop-i in
    let e = order_ended c.args.most c.args.frames.now l.i _ _ _ (omega arith) l.invariant.0 l.invariant.1 in
    grind (arith, nat_tests)
