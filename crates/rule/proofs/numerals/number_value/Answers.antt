-- `rule::numerals::number_value` meets its contract: the fold, digit by digit, is the capped value of all. Assumes nothing.
use Rattle.std.proofs.Common.{◌≡◌, ◌∙◌, arith, rules}
use Rattle.std.specs.List.{fold}
use Rattle.rule.specs.Number.{number_value}
use Rattle.rule.specs.Spelling.{decimal}
use Rattle.rule.proofs.TokenDecimals.{with_digit, digits_told}
use Rattle.rule.proofs.numerals.number_value.Goals as goal

pub returns : goal.returns
unfolding number_value decimal
returns c =
    let told : c.fold.result ≡ fold with_digit 0 c.args.digits.now = search rules in
    told ∙ digits_told 0 c.args.digits.now (omega arith)
