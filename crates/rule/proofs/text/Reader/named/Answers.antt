use mathlib.Core.Path.{refl}
use Rattle.rule.specs.Memory.{acts}
use Rattle.rule.proofs.ReaderParts.{recalled}
use Rattle.rule.proofs.text.Reader.named.Goals as goal

pub returns-then-not-is_declared : goal.returns-then-not-is_declared
unfolding acts
returns-then-not-is_declared c = rw (← c.letters.ensures, ← c.name_code-code.ensures, ← c.is_declared.ensures, c.if-not-is_declared.true) c.blame.ensures

pub returns-else-not-is_declared : goal.returns-else-not-is_declared
unfolding acts
returns-else-not-is_declared c = recalled (rw (← c.letters.ensures, ← c.name_code-code.ensures, ← c.is_declared.ensures, c.if-not-is_declared.false)) refl refl refl
