use borrow.Author.Tests.{ne_eqb}
use mathlib.Core.Path.{refl}
use native.Mathlib.Omega.{arith}
use Rattle.rule.specs.Machine.{step, finish, out, sized}
use Rattle.rule.specs.Draft.{ref}
use Rattle.rule.specs.declared.parts.Limit.TheVariants.{OfOffset}
use Rattle.rule.specs.declared.parts.Shift.TheVariants.{By}
use Rattle.rule.specs.ReadsPart.{in_body}
use Rattle.rule.proofs.ReaderParts.{idle, missed, acted, take}
use Rattle.rule.proofs.text.Reader.ref_by.Goals as goal

pub returns-in_err-take_kind : goal.returns-in_err-take_kind
unfolding step finish
returns-in_err-take_kind c = missed in_body c.in_err-take_kind.ensures c.from_residual.ensures (λ t h s. rw (ne_eqb _ _ h)) (λ s. refl)

pub returns : goal.returns
unfolding step
returns c =
    let a = c.args in
    let p = c.from-p.result in
    let t = c.in_ok-take_kind.ensures in
    let k = t.kind in
    take t.stands (omega arith) (acted (out (ref a.n a.e a.f (By a.g p))) (acted (sized OfOffset p) t.taken c.sized.ensures) c.emit_reference.ensures) idle
    (λ s. rw (k, c.from-p.ensures))
