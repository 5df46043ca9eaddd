-- `checker::admission::admit` meets its contract. Assumes nothing.
use Rattle.std.proofs.Common.{sym, ◌∙◌, eq-eqb, ne_eqb}
use Rattle.std.proofs.lemmas.Result.{err_from_is_err_and}
use Rattle.checker.specs.Parts.{state_of}
use Rattle.checker.specs.declared.refusals.Refusal.TheVariants.{State}
use Rattle.checker.proofs.Admissions.{let_in, barred_27, barred_13, barred_12}
use Rattle.checker.proofs.CodeStateTest.{tested-ok, tested-err}
use Rattle.checker.proofs.admission.admit.Goals as goal

pub returns-in_err-bases-clause-told : goal.returns-in_err-bases-clause-told
returns-in_err-bases-clause-told c =
    let a = c.args in
    let p = err_from_is_err_and c.from_residual.result c.from_residual.ensures.1 in
    let t = tested-err _ _ State _ (rw c.state_passes.ensures at c.in_err-bases.ensures.value) in
    rw (p.1, p.2, t.1) (sym (barred_12 (state_of a.frames.now a.fields) a.window.now t.0))

pub returns-then-not-window_fits-clause-told : goal.returns-then-not-window_fits-clause-told
returns-then-not-window_fits-clause-told c =
    let a = c.args in
    let t = tested-ok _ _ _ State (rw c.state_passes.ensures at c.in_ok-bases.ensures.value) in
    sym (barred_13 (state_of a.frames.now a.fields) a.window.now t.0 (sym c.if-not-window_fits.ensures))

pub returns-then-sum_of-fields-clause-told : goal.returns-then-sum_of-fields-clause-told
returns-then-sum_of-fields-clause-told c =
    let a = c.args in
    let t = tested-ok _ _ _ State (rw c.state_passes.ensures at c.in_ok-bases.ensures.value) in
    let m = ne_eqb _ _ (λ q. c.if-sum_of-fields.true (c.sum_of.ensures ∙ sym q)) in
    sym (barred_27 (state_of a.frames.now a.fields) a.window.now t.0 (sym c.if-not-window_fits.ensures) m)

pub returns-clause-told : goal.returns-clause-told
returns-clause-told c =
    let a = c.args in
    let t = tested-ok _ _ _ State (rw c.state_passes.ensures at c.in_ok-bases.ensures.value) in
    let m = eq-eqb _ _ (sym c.if-sum_of-fields.false ∙ c.sum_of.ensures) in
    sym (let_in (state_of a.frames.now a.fields) a.window.now t.0 (sym c.if-not-window_fits.ensures) m)
