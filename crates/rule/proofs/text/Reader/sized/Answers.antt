use mathlib.Core.Path.{refl}
use Rattle.rule.specs.Memory.{mem, acts}
use Rattle.rule.proofs.ReaderParts.{recalled}
use Rattle.rule.proofs.text.Reader.sized.Goals as goal

pub returns : goal.returns
unfolding mem acts
returns c = recalled (rw (c.noted-self.ensures, c.noted-self-2.ensures, c.many_decimals.ensures, c.over-bad.ensures, c.number_value.ensures, c.letters.ensures)) refl refl refl
