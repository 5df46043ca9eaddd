use Prim.Native.Nat.{◌+◌, ◌*◌}
use Rattle.rule.specs.ReadsPart.{left}
use Rattle.rule.proofs.text.Reader.+absolute_adds_factor_muls_parens_prod_sum.Given as goal

abbrev pub decreases-absolute : goal.decreases-absolute
decreases-absolute l = 4 * left l.self.now

abbrev pub decreases-adds : goal.decreases-adds
decreases-adds l = 4 * left l.self.now

abbrev pub decreases-factor : goal.decreases-factor
decreases-factor l = 4 * left l.self.now

abbrev pub decreases-muls : goal.decreases-muls
decreases-muls l = 4 * left l.self.now

abbrev pub decreases-parens : goal.decreases-parens
decreases-parens l = 4 * left l.self.now + 3

abbrev pub decreases-prod : goal.decreases-prod
decreases-prod l = 4 * left l.self.now + 1

abbrev pub decreases-sum : goal.decreases-sum
decreases-sum l = 4 * left l.self.now + 2
