use borrow.Author.Tests.{ne_eqb}
use mathlib.Core.Path.{refl, sym, ◌∙◌}
use native.Mathlib.Omega.{arith}
use mathlib.Core.List.{◌∷◌}
use mathlib.Core.Logic.{inl, inr}
use Rattle.rule.specs.Frames.{Arithmetic, Kind}
use Rattle.rule.specs.Class.{close_paren}
use Rattle.rule.specs.Machine.{step, finish, start_factor, out, want, doing, sized, uses, enter, deeper}
use Rattle.rule.specs.Machine as machine
use Rattle.rule.specs.Draft.{alone, plain, lit, index_var}
use Rattle.rule.specs.declared.parts.Limit.TheVariants.{OfLiteral}
use Rattle.rule.specs.declared.parts.Role.TheVariants.{Note}
use Rattle.rule.proofs.ReaderParts.{ate, passed, then, stop, then-does, idle, fewer, same, fail, here, acted, acted-twice, take, expected, same-left, instance-out}
use Rattle.rule.proofs.ReaderMarks.{sign_some, sign_pass, sign_step}
use Rattle.rule.proofs.text.Reader.+absolute_adds_factor_muls_parens_prod_sum.Goals as goal

pub muls-returns-then-not-eat : goal.muls-returns-then-not-eat
unfolding step finish
muls-returns-then-not-eat t c = passed c.eat.ensures c.if-not-eat.true (λ t h s. rw (ne_eqb _ _ h)) (λ s. refl)

pub muls-returns-in_err-factor : goal.muls-returns-in_err-factor
unfolding step
muls-returns-in_err-factor t c =
    let a = ate c.eat.ensures c.if-not-eat.false in
    let k = a.kind in
    fewer (take a.stands (omega arith) a.taken (stop (λ s. doing (out (alone (Kind.arithmetic Arithmetic.multiply))) ∷ machine.muls c.args.d ∷ s) c.in_err-factor.ensures c.from_residual.ensures) (λ s. rw k))

pub muls-returns : goal.muls-returns
unfolding step
muls-returns t c =
    let a = ate c.eat.ensures c.if-not-eat.false in
    let k = a.kind in
    fewer (take a.stands (omega arith) a.taken (then (then-does (out (alone (Kind.arithmetic Arithmetic.multiply))) c.in_ok-factor.ensures c.emit_kind.ensures) c.muls.ensures (omega arith)) (λ s. rw k))

pub parens-returns-in_err-sum : goal.parens-returns-in_err-sum
parens-returns-in_err-sum t c = stop (λ s. want close_paren ∷ s) c.in_err-sum.ensures c.from_residual.ensures

pub parens-returns : goal.parens-returns
parens-returns t c = then c.in_ok-sum.ensures (expected c.expect.ensures) (omega arith)

pub prod-returns-in_err-factor : goal.prod-returns-in_err-factor
prod-returns-in_err-factor t c = stop (λ s. machine.muls c.args.d ∷ s) c.in_err-factor.ensures c.from_residual.ensures

pub prod-returns : goal.prod-returns
prod-returns t c = then c.in_ok-factor.ensures c.muls.ensures (omega arith)

pub sum-returns-in_err-prod : goal.sum-returns-in_err-prod
sum-returns-in_err-prod t c = stop (λ s. machine.adds c.args.d ∷ s) c.in_err-prod.ensures c.from_residual.ensures

pub sum-returns : goal.sum-returns
sum-returns t c = then c.in_ok-prod.ensures c.adds.ensures (omega arith)

pub absolute-returns-in_err-expect : goal.absolute-returns-in_err-expect
absolute-returns-in_err-expect t c =
    stop (λ s. machine.sum c.args.d (want close_paren ∷ doing (out (alone Kind.absolute)) ∷ s)) (expected c.in_err-expect.ensures) c.from_residual.ensures

pub absolute-returns-in_err-parens : goal.absolute-returns-in_err-parens
absolute-returns-in_err-parens t c =
    then (expected c.in_ok-expect.ensures) (stop (λ s. doing (out (alone Kind.absolute)) ∷ s) {k = 0} c.in_err-parens.ensures c.from_residual-in_err-parens.ensures) (omega arith)

pub absolute-returns : goal.absolute-returns
absolute-returns t c =
    then (expected c.in_ok-expect.ensures) (then-does (out (alone Kind.absolute)) c.in_ok-parens.ensures c.emit_kind.ensures) (omega arith)

pub absolute-parens-requires : goal.absolute-parens-requires
absolute-parens-requires t c = let e = (expected c.in_ok-expect.ensures).took in (omega arith, tt)

pub adds-returns-in_default : goal.adds-returns-in_default
unfolding finish
adds-returns-in_default t c = same c.peek-t.ensures.is idle (λ s. sign_pass _ _ _ _ _ _ _ (sym c.sign_kind.ensures ∙ c.in_default.is)) (λ s. refl)

pub adds-prod-requires : goal.adds-prod-requires
adds-prod-requires t c =
    let m = c.peek-t.ensures.moves (sign_some _ _ (sym c.sign_kind.ensures ∙ c.in-Some.is)) in
    (omega arith, tt)

pub adds-returns-in_err-prod : goal.adds-returns-in_err-prod
adds-returns-in_err-prod t c =
    let e = sym c.sign_kind.ensures ∙ c.in-Some.is in
    fewer (take c.peek-t.ensures (sign_some _ _ e) here (stop (λ s. doing (out (plain c.in-Some.kind)) ∷ machine.adds c.args.d ∷ s) c.in_err-prod.ensures c.from_residual.ensures) (λ s. sign_step _ _ _ _ _ _ _ _ e))

pub adds-adds-requires : goal.adds-adds-requires
adds-adds-requires t c =
    let m = c.peek-t.ensures.moves (sign_some _ _ (sym c.sign_kind.ensures ∙ c.in-Some.is)) in
    let k = c.in_ok-prod.ensures.took in
    let l = same-left c.emit_kind.ensures in
    (omega arith, tt)

pub adds-returns : goal.adds-returns
adds-returns t c =
    let e = sym c.sign_kind.ensures ∙ c.in-Some.is in
    fewer (take c.peek-t.ensures (sign_some _ _ e) here (then (then-does (out (plain c.in-Some.kind)) c.in_ok-prod.ensures c.emit_kind.ensures) c.adds.ensures (omega arith)) (λ s. sign_step _ _ _ _ _ _ _ _ e))

pub factor-returns-in-2 : goal.factor-returns-in-2
unfolding step start_factor
factor-returns-in-2 t c =
    let k = acted-twice (sized OfLiteral c.from-p.result) (out (lit c.from-p.result)) c.take-t.ensures.taken c.emit_literal.ensures in
    elim c.in-2.is [
      | inl e ↦ take c.take-t.ensures.next (omega arith) k idle (λ s. rw (e, c.from-p.ensures))
      | inr e ↦ take c.take-t.ensures.next (omega arith) k idle (λ s. rw (e, c.from-p.ensures))
    ]

pub factor-returns-in-5 : goal.factor-returns-in-5
unfolding step start_factor
factor-returns-in-5 t c =
    take c.take-t.ensures.next (omega arith) (acted (out index_var) c.take-t.ensures.taken (instance-out c.emit_kind.ensures)) idle (λ s. rw c.in-5.is)

pub factor-returns-in-1 : goal.factor-returns-in-1
unfolding step start_factor
factor-returns-in-1 t c =
    take c.take-t.ensures.next (omega arith) (acted (uses Note c.from-p.result) c.take-t.ensures.taken c.named.ensures) c.reference.ensures (λ s. rw (c.in-1.is, c.from-p.ensures))

pub factor-returns-in-40 : goal.factor-returns-in-40
unfolding step start_factor
factor-returns-in-40 t c =
    take c.take-t.ensures.next (omega arith) (acted (enter (deeper c.args.d)) c.take-t.ensures.taken c.enter-e.ensures.entered) (fewer c.parens.ensures) (λ s. rw (c.in-40.is, c.enter-e.ensures.level))

pub factor-returns-in-6 : goal.factor-returns-in-6
unfolding step start_factor
factor-returns-in-6 t c =
    take c.take-t.ensures.next (omega arith) (acted (enter (deeper c.args.d)) c.take-t.ensures.taken c.enter-e-in-6.ensures.entered) c.absolute.ensures (λ s. rw (c.in-6.is, c.enter-e-in-6.ensures.level))

pub factor-returns-in_default : goal.factor-returns-in_default
unfolding step start_factor finish
factor-returns-in_default t c =
    let k = c.take-t.result.kind in
    fail c.take-t.ensures.next.is c.take-t.ensures.taken.same c.from.ensures
    (λ s. rw (ne_eqb k 2 (λ e. grind arith), ne_eqb k 7 (λ e. grind arith), ne_eqb k 5 (λ e. omega arith), ne_eqb k 40 (λ e. omega arith), ne_eqb k 6 (λ e. omega arith), ne_eqb k 1 (λ e. omega arith))) (λ s. refl)
