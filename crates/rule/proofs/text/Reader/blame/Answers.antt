use mathlib.Core.Path.{refl}
use Rattle.rule.specs.Memory.{mem}
use Rattle.rule.proofs.ReaderParts.{recalled}
use Rattle.rule.proofs.text.Reader.blame.Goals as goal

pub returns : goal.returns
unfolding mem
returns c = recalled (rw c.first-self.ensures) refl refl refl
