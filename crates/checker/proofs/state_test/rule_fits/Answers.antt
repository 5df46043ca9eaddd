-- `checker::state_test::rule_fits` meets its contract. Assumes nothing.
use Rattle.std.proofs.Common.{sym, ap, ◌∙◌, arith, length-take-le}
use Rattle.checker.proofs.ProfileLaws.{passes-room}
use Rattle.checker.specs.StateTest.{is_accepted}
use Rattle.checker.proofs.CodeStateTest.{taken-told}
use Rattle.checker.proofs.state_test.rule_fits.Goals as goal

pub slice_bounds-check-end : goal.slice_bounds-check-end
slice_bounds-check-end c =
    let a = c.args in
    sym (length-take-le _ _ (omega (arith, passes-room a.number a.width a.len (sym c.if-not-passes.ensures))))

pub returns-then-is_ok : goal.returns-then-is_ok
returns-then-is_ok c =
    let k = sym (c.if-is_ok.ensures.value ∙ taken-told c.check.result ∙ ap is_accepted c.check.ensures) in
    rw (sym c.if-not-passes.ensures, k) c.width_fits.ensures

pub returns-else-is_ok : goal.returns-else-is_ok
returns-else-is_ok c =
    let k = sym (c.if-is_ok.ensures.value ∙ taken-told c.check.result ∙ ap is_accepted c.check.ensures) in
    rw (sym c.if-not-passes.ensures, k) c.if-is_ok.false
