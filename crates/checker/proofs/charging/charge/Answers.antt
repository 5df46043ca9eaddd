-- `checker::charging::charge` meets its contract. Assumes nothing.
use Rattle.std.proofs.Common.{sym, ap, ◌∙◌, arith}
use Rattle.std.proofs.lemmas.Result.{err_from_is_err_and}
use Rattle.checker.specs.Tariff.{cents}
use Rattle.checker.specs.declared.refusals.Refusal.TheVariants.{State}
use Rattle.checker.proofs.Charges.{rise_facts, charged_by, turned_28, turned_29, turned_12, failed-most}
use Rattle.checker.proofs.CodeStateTest.{tested-ok, tested-err}
use Rattle.checker.proofs.charging.charge.Goals as goal

-- 28
pub returns-then-not-bands_fit : goal.returns-then-not-bands_fit
returns-then-not-bands_fit c = sym (turned_28 c.args.state c.args.tariff (sym c.if-not-bands_fit.ensures))

pub prices_fit-requires : goal.prices_fit-requires
prices_fit-requires c = (rise_facts c.args.tariff (sym c.if-not-bands_fit.ensures)).few

-- 29
pub returns-then-not-prices_fit : goal.returns-then-not-prices_fit
returns-then-not-prices_fit c =
    sym (turned_29 c.args.state c.args.tariff (sym c.if-not-bands_fit.ensures) (sym c.if-not-prices_fit.ensures))

-- 12
pub returns-in_err-ok_or : goal.returns-in_err-ok_or
returns-in_err-ok_or c =
    let p = err_from_is_err_and c.from_residual.result c.from_residual.ensures.1 in
    let t = tested-err _ _ State _ (rw (c.state_passes.ensures, c.fields_of-fields.ensures) at c.in_err-ok_or.ensures.value) in
    rw (p.1, p.2, t.1) (sym (turned_12 c.args.state c.args.tariff (sym c.if-not-bands_fit.ensures) (sym c.if-not-prices_fit.ensures) t.0))

pub cents-requires : goal.cents-requires
cents-requires c =
    let t = tested-ok _ _ _ State (rw (c.state_passes.ensures, c.fields_of-fields.ensures) at c.in_ok-ok_or.ensures.value) in
    (sym c.if-not-bands_fit.ensures, (sym c.if-not-prices_fit.ensures, omega (arith, failed-most c.args.state t.0)))

-- charged
pub returns : goal.returns
returns c =
    let t = tested-ok _ _ _ State (rw (c.state_passes.ensures, c.fields_of-fields.ensures) at c.in_ok-ok_or.ensures.value) in
    ap cents c.cents.ensures ∙ sym (charged_by c.args.state c.args.tariff (sym c.if-not-bands_fit.ensures) (sym c.if-not-prices_fit.ensures) t.0)
