use borrow.Author.Tests.{ne_eqb}
use mathlib.Core.Path.{refl}
use native.Mathlib.Omega.{arith}
use mathlib.Core.List.{◌∷◌}
use Rattle.rule.specs.Frames.{Connective, Kind}
use Rattle.rule.specs.Class.{close_brace}
use Rattle.rule.specs.Machine.{step, finish, deeper, enter, out, want, doing}
use Rattle.rule.specs.Machine as machine
use Rattle.rule.specs.Draft.{alone}
use Rattle.rule.proofs.ReaderParts.{ate, passed, then, stop, then-does, fewer, same, here, acted, take, expected}
use Rattle.rule.proofs.text.Reader.+ands_arrow_braces_condition_conj_ors_unit.Goals as goal

pub ands-returns-then-not-eat : goal.ands-returns-then-not-eat
unfolding step finish
ands-returns-then-not-eat t c = passed c.eat.ensures c.if-not-eat.true (λ t h s. rw (ne_eqb _ _ h)) (λ s. refl)

pub ands-returns-in_err-unit : goal.ands-returns-in_err-unit
unfolding step
ands-returns-in_err-unit t c =
    let a = ate c.eat.ensures c.if-not-eat.false in
    let k = a.kind in
    fewer (take a.stands (omega arith) a.taken (stop (λ s. doing (out (alone (Kind.connective Connective.and))) ∷ machine.ands c.args.d ∷ s) c.in_err-unit.ensures c.from_residual.ensures) (λ s. rw k))

pub ands-returns : goal.ands-returns
unfolding step
ands-returns t c =
    let a = ate c.eat.ensures c.if-not-eat.false in
    let k = a.kind in
    fewer (take a.stands (omega arith) a.taken (then (then-does (out (alone (Kind.connective Connective.and))) c.in_ok-unit.ensures c.emit_kind.ensures) c.ands.ensures (omega arith)) (λ s. rw k))

pub ors-returns-then-not-eat : goal.ors-returns-then-not-eat
unfolding step finish
ors-returns-then-not-eat t c = passed c.eat.ensures c.if-not-eat.true (λ t h s. rw (ne_eqb _ _ h)) (λ s. refl)

pub ors-returns-in_err-conj : goal.ors-returns-in_err-conj
unfolding step
ors-returns-in_err-conj t c =
    let a = ate c.eat.ensures c.if-not-eat.false in
    let k = a.kind in
    fewer (take a.stands (omega arith) a.taken (stop (λ s. doing (out (alone (Kind.connective Connective.or))) ∷ machine.ors c.args.d ∷ s) c.in_err-conj.ensures c.from_residual.ensures) (λ s. rw k))

pub ors-returns : goal.ors-returns
unfolding step
ors-returns t c =
    let a = ate c.eat.ensures c.if-not-eat.false in
    let k = a.kind in
    fewer (take a.stands (omega arith) a.taken (then (then-does (out (alone (Kind.connective Connective.or))) c.in_ok-conj.ensures c.emit_kind.ensures) c.ors.ensures (omega arith)) (λ s. rw k))

pub arrow-returns-then-not-eat : goal.arrow-returns-then-not-eat
unfolding step finish
arrow-returns-then-not-eat t c = passed c.eat.ensures c.if-not-eat.true (λ t h s. rw (ne_eqb _ _ h)) (λ s. refl)

pub arrow-returns-in_err-condition : goal.arrow-returns-in_err-condition
unfolding step
arrow-returns-in_err-condition t c =
    let a = ate c.eat.ensures c.if-not-eat.false in
    let k = a.kind in
    fewer (take a.stands (omega arith) (acted (enter (deeper c.args.d)) a.taken c.enter-e.ensures.entered) (stop (λ s. doing (out (alone (Kind.connective Connective.implies))) ∷ s) c.in_err-condition.ensures c.from_residual.ensures) (λ s. rw (k, c.enter-e.ensures.level)))

pub arrow-returns : goal.arrow-returns
unfolding step
arrow-returns t c =
    let a = ate c.eat.ensures c.if-not-eat.false in
    let k = a.kind in
    fewer (take a.stands (omega arith) (acted (enter (deeper c.args.d)) a.taken c.enter-e.ensures.entered) (fewer (then-does (out (alone (Kind.connective Connective.implies))) c.in_ok-condition.ensures c.emit_kind.ensures)) (λ s. rw (k, c.enter-e.ensures.level)))

pub braces-returns-in_err-condition : goal.braces-returns-in_err-condition
braces-returns-in_err-condition t c = stop (λ s. want close_brace ∷ s) c.in_err-condition.ensures c.from_residual.ensures

pub braces-returns : goal.braces-returns
braces-returns t c = then c.in_ok-condition.ensures (expected c.expect.ensures) (omega arith)

pub condition-returns-in_err-conj : goal.condition-returns-in_err-conj
condition-returns-in_err-conj t c = stop (λ s. machine.ors c.args.d ∷ machine.arrow c.args.d ∷ s) c.in_err-conj.ensures c.from_residual.ensures

pub condition-returns-in_err-ors : goal.condition-returns-in_err-ors
condition-returns-in_err-ors t c = then c.in_ok-conj.ensures (stop (λ s. machine.arrow c.args.d ∷ s) {k = 0} c.in_err-ors.ensures c.from_residual-in_err-ors.ensures) (omega arith)

pub condition-returns : goal.condition-returns
condition-returns t c = then c.in_ok-conj.ensures (then {k = 0} c.in_ok-ors.ensures c.arrow.ensures (omega arith)) (omega arith)

pub conj-returns-in_err-unit : goal.conj-returns-in_err-unit
conj-returns-in_err-unit t c = stop (λ s. machine.ands c.args.d ∷ s) c.in_err-unit.ensures c.from_residual.ensures

pub conj-returns : goal.conj-returns
conj-returns t c = then c.in_ok-unit.ensures c.ands.ensures (omega arith)

pub unit-returns-then-t-eq123 : goal.unit-returns-then-t-eq123
unfolding step
unit-returns-then-t-eq123 t c =
    take c.peek-t.ensures (omega arith) (acted (enter (deeper c.args.d)) here c.enter-e.ensures.entered) (fewer c.braces.ensures) (λ s. rw (c.if-t-eq123.true, c.enter-e.ensures.level))

pub unit-returns-then-t-ne33 : goal.unit-returns-then-t-ne33
unfolding step finish
unit-returns-then-t-ne33 t c =
    same c.peek-t.ensures.is c.relation.ensures (λ s. rw (ne_eqb _ _ c.if-t-eq123.false, ne_eqb _ _ c.if-t-ne33.true)) (λ s. refl)

pub unit-returns-in_err-unit : goal.unit-returns-in_err-unit
unfolding step
unit-returns-in_err-unit t c =
    take c.peek-t.ensures (omega arith) (acted (enter (deeper c.args.d)) here c.enter-e-2.ensures.entered) (stop (λ s. doing (out (alone Kind.negation)) ∷ s) c.in_err-unit.ensures c.from_residual.ensures) (λ s. rw (c.if-t-ne33.false, c.enter-e-2.ensures.level))

pub unit-returns : goal.unit-returns
unfolding step
unit-returns t c =
    take c.peek-t.ensures (omega arith) (acted (enter (deeper c.args.d)) here c.enter-e-2.ensures.entered) (fewer (then-does (out (alone Kind.negation)) c.in_ok-unit.ensures c.emit_kind.ensures)) (λ s. rw (c.if-t-ne33.false, c.enter-e-2.ensures.level))
