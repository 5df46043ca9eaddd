use borrow.Author.Tests.{ne_eqb}
use mathlib.Core.Path.{refl}
use native.Mathlib.Omega.{arith}
use Rattle.rule.specs.Machine.{step, finish, out}
use Rattle.rule.specs.Draft.{ref}
use Rattle.rule.specs.declared.parts.Shift.TheVariants.{Unshifted}
use Rattle.rule.proofs.ReaderParts.{idle, fewer, same, then-does, here, take}
use Rattle.rule.proofs.text.Reader.ref_shift.Goals as goal

pub returns-then-t-eq43 : goal.returns-then-t-eq43
unfolding step
returns-then-t-eq43 c = fewer (take c.peek-t.ensures (omega arith) here (fewer c.ref_by.ensures) (λ s. rw c.if-t-eq43.true))

pub returns-then-t-eq45 : goal.returns-then-t-eq45
unfolding step
returns-then-t-eq45 c = fewer (take c.peek-t.ensures (omega arith) here (fewer c.ref_by-then-t-eq45.ensures) (λ s. rw c.if-t-eq45.true))

pub returns : goal.returns
unfolding step finish
returns c =
    let a = c.args in
    same c.peek-t.ensures.is (then-does (out (ref a.n a.e a.f Unshifted)) idle c.emit_reference.ensures) (λ s. rw (ne_eqb _ _ c.if-t-eq43.false, ne_eqb _ _ c.if-t-eq45.false)) (λ s. refl)
