use borrow.Author.Tests.{eq-eqb, ne_eqb}
use mathlib.Core.Path.{refl}
use native.Mathlib.Omega.{arith}
use Rattle.rule.specs.Machine.{step, finish}
use Rattle.rule.proofs.ReaderParts.{idle, missed, take-to, stands-in}
use Rattle.rule.proofs.text.Reader.expect.Goals as goal

pub returns-in_err-take_kind : goal.returns-in_err-take_kind
unfolding step finish
returns-in_err-take_kind c = λ md m. missed m c.in_err-take_kind.ensures c.from_residual.ensures (λ t h s. rw (ne_eqb _ _ h)) (λ s. refl)

pub returns : goal.returns
unfolding step
returns c = λ md m. let a = c.in_ok-take_kind.ensures in let e = a.kind in take-to (stands-in m a.stands) (omega arith) a.taken (rw e) idle (λ s. rw (eq-eqb _ _ e))
