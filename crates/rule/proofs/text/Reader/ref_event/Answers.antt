use borrow.Author.Tests.{ne_eqb}
use mathlib.Core.Path.{refl}
use native.Mathlib.Omega.{arith}
use Rattle.rule.specs.Machine.{step, finish, uses}
use Rattle.rule.specs.declared.parts.Role.TheVariants.{Event}
use Rattle.rule.specs.ReadsPart.{in_body}
use Rattle.rule.proofs.ReaderParts.{missed, acted, take}
use Rattle.rule.proofs.text.Reader.ref_event.Goals as goal

pub returns-in_err-take_kind : goal.returns-in_err-take_kind
unfolding step finish
returns-in_err-take_kind c = missed in_body c.in_err-take_kind.ensures c.from_residual.ensures (λ t h s. rw (ne_eqb _ _ h)) (λ s. refl)

pub returns : goal.returns
unfolding step
returns c =
    let t = c.in_ok-take_kind.ensures in
    let k = t.kind in
    take t.stands (omega arith) (acted (uses Event c.from-e.result) t.taken c.named.ensures) c.ref_brackets.ensures (λ s. rw (k, c.from-e.ensures))
