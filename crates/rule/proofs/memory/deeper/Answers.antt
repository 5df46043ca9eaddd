use borrow.Author.Tests.{le-leb, lt-leb}
use Rattle.rule.specs.Machine.{deeper}
use Rattle.rule.proofs.memory.deeper.Goals as goal

pub returns-then-d-le-DEPTH_LIMIT : goal.returns-then-d-le-DEPTH_LIMIT
unfolding deeper
returns-then-d-le-DEPTH_LIMIT c = rw (le-leb _ _ c.if-d-le-DEPTH_LIMIT.true)

pub returns-else-d-le-DEPTH_LIMIT : goal.returns-else-d-le-DEPTH_LIMIT
unfolding deeper
returns-else-d-le-DEPTH_LIMIT c = rw (lt-leb _ _ c.if-d-le-DEPTH_LIMIT.false)
