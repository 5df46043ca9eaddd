use Prim.Native.Nat.{◌+◌, ◌*◌}
use Rattle.rule.specs.ReadsPart.{left}
use Rattle.rule.proofs.text.Reader.+ands_arrow_braces_condition_conj_ors_unit.Given as goal

abbrev pub decreases-ands : goal.decreases-ands
decreases-ands l = 4 * left l.self.now

abbrev pub decreases-arrow : goal.decreases-arrow
decreases-arrow l = 4 * left l.self.now

abbrev pub decreases-braces : goal.decreases-braces
decreases-braces l = 4 * left l.self.now + 3

abbrev pub decreases-condition : goal.decreases-condition
decreases-condition l = 4 * left l.self.now + 2

abbrev pub decreases-conj : goal.decreases-conj
decreases-conj l = 4 * left l.self.now + 1

abbrev pub decreases-ors : goal.decreases-ors
decreases-ors l = 4 * left l.self.now

abbrev pub decreases-unit : goal.decreases-unit
decreases-unit l = 4 * left l.self.now
