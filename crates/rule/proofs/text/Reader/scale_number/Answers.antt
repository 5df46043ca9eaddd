use borrow.Author.Tests.{ne_eqb}
use mathlib.Core.Path.{◌≡◌, refl, ◌∙◌}
use native.Mathlib.Omega.{arith}
use Rattle.rule.specs.Token.{Mode, next}
use Rattle.rule.specs.Machine.{step, finish, out, sized}
use Rattle.rule.specs.Draft.{head}
use Rattle.rule.specs.declared.parts.Limit.TheVariants.{OfClause}
use Rattle.rule.proofs.ReaderParts.{fewer, missed, acted-twice, take-to, in-clause, stands-in}
use Rattle.rule.proofs.text.Reader.scale_number.Goals as goal

pub returns-in_err-t : goal.returns-in_err-t
unfolding step finish
returns-in_err-t c = missed (in-clause c.requires) c.in_err-t.ensures c.from_residual.ensures (λ t h s. rw (ne_eqb _ _ h)) (λ s. refl)

pub returns : goal.returns
unfolding step
returns c =
    let a = c.in_ok-t.ensures in
    let k = a.kind in
    let on : next Mode.clause c.in_ok-t.t.kind ≡ Mode.clause = rw k in
    let e = c.emit_head.ensures.same.same_points ∙ (a.taken.same.same_points ∙ c.requires) in
    fewer (take-to (stands-in (in-clause c.requires) a.stands) (omega arith) (acted-twice (sized OfClause c.from.result) (out (head c.from.result)) a.taken c.emit_head.ensures) on (fewer (c.expect.ensures _ (in-clause e)))
    (λ s. rw (k, c.from.ensures)))
