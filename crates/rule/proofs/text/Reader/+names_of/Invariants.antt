use Rattle.rule.specs.ReadsPart.{left}
use Rattle.rule.proofs.text.Reader.+names_of.Given as goal

abbrev pub decreases-names_of : goal.decreases-names_of
decreases-names_of l = left l.self.now
