use borrow.Author.Tests.{ne_eqb}
use mathlib.Core.Path.{refl}
use native.Mathlib.Omega.{arith}
use Rattle.rule.specs.Machine.{step, finish}
use Rattle.rule.specs.Machine as machine
use Rattle.rule.proofs.ReaderParts.{idle, missed, acted, take-to, in-names, stands-in, stays}
use Rattle.rule.proofs.text.Reader.name_of.Goals as goal

pub returns-in_err-t : goal.returns-in_err-t
unfolding step finish
returns-in_err-t c = λ n. missed (in-names n c.requires) c.in_err-t.ensures c.from_residual.ensures (λ t h s. rw (ne_eqb _ _ h)) (λ s. refl)

pub returns : goal.returns
unfolding step
returns c =
    let a = c.in_ok-t.ensures in
    let e = a.kind in
    λ n. take-to (stands-in (in-names n c.requires) a.stands) (omega arith) (acted (machine.declare c.args.role c.from.result) a.taken c.declare.ensures) (stays n _ (omega arith)) idle
    (λ s. rw (e, c.from.ensures))
