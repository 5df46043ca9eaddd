use borrow.Author.Tests.{ne_eqb}
use mathlib.Core.Path.{refl}
use native.Mathlib.Omega.{arith}
use Rattle.rule.specs.Machine.{step, finish, sized}
use Rattle.rule.specs.declared.parts.Limit.TheVariants.{OfFactor}
use Rattle.rule.proofs.ReaderParts.{fail, acted, take}
use Rattle.rule.proofs.text.Reader.ref_index.Goals as goal

pub returns-then-t-eq-NUMBER_KIND : goal.returns-then-t-eq-NUMBER_KIND
unfolding step
returns-then-t-eq-NUMBER_KIND c =
    take c.take-t.ensures.next (omega arith) (acted (sized OfFactor c.from-p.result) c.take-t.ensures.taken c.sized.ensures) c.ref_times.ensures (λ s. rw (c.if-t-eq-NUMBER_KIND.true, c.from-p.ensures))

pub returns-then-t-eq-INDEX_KIND : goal.returns-then-t-eq-INDEX_KIND
unfolding step
returns-then-t-eq-INDEX_KIND c = take c.take-t.ensures.next (omega arith) c.take-t.ensures.taken c.ref_shift.ensures (λ s. rw c.if-t-eq-INDEX_KIND.true)

pub returns : goal.returns
unfolding step finish
returns c = fail c.take-t.ensures.next.is c.take-t.ensures.taken.same c.from.ensures (λ s. rw (ne_eqb _ _ c.if-t-eq-NUMBER_KIND.false, ne_eqb _ _ c.if-t-eq-INDEX_KIND.false)) (λ s. refl)
