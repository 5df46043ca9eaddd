use mathlib.Core.Path.{refl, sym, ◌∙◌}
use mathlib.Core.List.{◌∷◌}
use Rattle.rule.specs.Machine.{finish, out, doing}
use Rattle.rule.specs.Draft.{plain}
use Rattle.rule.proofs.ReaderParts.{stop, then-does, fewer, fail, take}
use Rattle.rule.proofs.ReaderMarks.{rel_some, rel_stuck, rel_step}
use Rattle.rule.proofs.text.Reader.compare.Goals as goal

pub returns-in_default : goal.returns-in_default
unfolding finish
returns-in_default c =
    fail c.take-t.ensures.next.is c.take-t.ensures.taken.same c.from.ensures (λ s. rel_stuck _ _ _ _ _ _ _ (sym c.rel_kind.ensures ∙ c.in_default.is)) (λ s. refl)

pub returns-in_err-sum : goal.returns-in_err-sum
returns-in_err-sum c =
    let e = sym c.rel_kind.ensures ∙ c.in-Some.is in
    take c.take-t.ensures.next (rel_some _ _ e) c.take-t.ensures.taken (stop (λ s. doing (out (plain c.in-Some.kind)) ∷ s) c.in_err-sum.ensures c.from_residual.ensures) (λ s. rel_step _ _ _ _ _ _ _ _ e)

pub returns : goal.returns
returns c =
    let e = sym c.rel_kind.ensures ∙ c.in-Some.is in
    take c.take-t.ensures.next (rel_some _ _ e) c.take-t.ensures.taken (fewer (then-does (out (plain c.in-Some.kind)) c.in_ok-sum.ensures c.emit_kind.ensures)) (λ s. rel_step _ _ _ _ _ _ _ _ e)
