use borrow.Author.Tests.{lt-ltb, le-ltb}
use mathlib.Core.Path.{refl}
use Rattle.rule.specs.Memory.{mem, acts}
use Rattle.rule.proofs.ReaderParts.{recalled}
use Rattle.rule.proofs.text.Reader.enter.Goals as goal

pub returns-then-e-gt-DEPTH_LIMIT-clause-entered : goal.returns-then-e-gt-DEPTH_LIMIT-clause-entered
unfolding mem acts
returns-then-e-gt-DEPTH_LIMIT-clause-entered c = recalled (rw (← c.deeper-e.ensures, lt-ltb 16 _ c.if-e-gt-DEPTH_LIMIT.true)) refl refl refl

pub returns-else-e-gt-DEPTH_LIMIT-clause-entered : goal.returns-else-e-gt-DEPTH_LIMIT-clause-entered
unfolding mem acts
returns-else-e-gt-DEPTH_LIMIT-clause-entered c = recalled (rw (← c.deeper-e.ensures, le-ltb 16 _ c.if-e-gt-DEPTH_LIMIT.false)) refl refl refl
