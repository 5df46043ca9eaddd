-- `rule::numerals::decimals` meets its contract: the first point stands where `position` says. Assumes nothing.
use Rattle.std.proofs.Common.{eqb, arith, rules, tests}
use Rattle.std.proofs.lemmas.Bool.Decides.{nat_tests}
use Rattle.std.proofs.lemmas.Iterator.{YieldsList-from_slice}
use Rattle.std.proofs.lemmas.Iterator.Search.{position_from_yields_List}
use Rattle.rule.specs.Class.{point}
use Rattle.rule.proofs.TokenDecimals.{decimals_told}
use Rattle.rule.proofs.numerals.decimals.Goals as goal

pub returns-in-Some : goal.returns-in-Some
returns-in-Some c =
    let told = position_from_yields_List (λ b. eqb b point) _ _ c.position.result c.position.ensures.ran (YieldsList-from_slice c.args.digits.now cc) (λ x b q k. search (rules, tests)) in
    grind (arith, nat_tests, decimals_told c.args.digits.now)

pub returns-in-None : goal.returns-in-None
returns-in-None c =
    let told = position_from_yields_List (λ b. eqb b point) _ _ c.position.result c.position.ensures.ran (YieldsList-from_slice c.args.digits.now cc) (λ x b q k. search (rules, tests)) in
    grind (arith, nat_tests, decimals_told c.args.digits.now)
