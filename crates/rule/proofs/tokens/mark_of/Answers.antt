-- `rule::tokens::mark_of` meets its contract: where the two bytes are no mark of two, the class of the first tells. Assumes nothing.
use Rattle.std.proofs.Common.{◌≡◌, arith}
use Rattle.std.proofs.lemmas.Bool.Decides.{nat_tests}
use Rattle.std.specs.Option.{unwrap_or}
use Rattle.rule.specs.Token.{two_byte_mark}
use Rattle.rule.proofs.TokenMarks.{lone}
use Rattle.rule.proofs.tokens.mark_of.Goals as goal

pub returns-then-class_of-eq-MARK : goal.returns-then-class_of-eq-MARK
returns-then-class_of-eq-MARK c =
    let z : two_byte_mark c.args.b (unwrap_or c.args.n 0) ≡ 0 = grind (arith, nat_tests) in
    let o = lone c.args.b (unwrap_or c.args.n 0) c.ranges.b.fits (grind arith) (grind arith) z in
    grind (arith, nat_tests)

pub returns-else-class_of-eq-MARK : goal.returns-else-class_of-eq-MARK
returns-else-class_of-eq-MARK c =
    let z : two_byte_mark c.args.b (unwrap_or c.args.n 0) ≡ 0 = grind (arith, nat_tests) in
    let o = lone c.args.b (unwrap_or c.args.n 0) c.ranges.b.fits (grind arith) (grind arith) z in
    grind (arith, nat_tests)
