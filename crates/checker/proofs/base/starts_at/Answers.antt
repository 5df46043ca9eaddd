-- `checker::base::starts_at` meets its contract. Assumes nothing.
use Rattle.std.proofs.Common.{arith}
use Rattle.rule.proofs.Laws.{bytes-by}
use Rattle.checker.proofs.CodeBase.{startable, pass-found}
use Rattle.checker.proofs.base.starts_at.Goals as goal

pub take-requires : goal.take-requires
take-requires c =
    let x = c.frame_at in
    let a = c.args in
    (startable a.frames.now a.p.0 c.loop-k.k c.requires (omega arith) x.result x.ensures, c.loop-k.invariant.long)

pub returns : goal.returns
returns c =
    let l = c.loop-k in
    let a = c.args in
    pass-found (bytes-by a.frames.now (λ i _. (c.type_inv.frames i).fits)) a.p.0 l.k c.requires (omega arith) l.starts.bases l.starts.first.0 l.invariant
