use native.Mathlib.Omega.{arith}
use Rattle.rule.specs.Memory.{mem}
use Rattle.rule.proofs.ReaderTables.{listed-is, listed-part}
use Rattle.rule.proofs.text.Reader.declared.Goals as goal

pub returns-in-Event-clause-names : goal.returns-in-Event-clause-names
unfolding mem
returns-in-Event-clause-names c = rw (c.in-Event.is, c.min.ensures) (listed-is c.args.self.now.names 0 _ (omega arith))

pub returns-in-Note-clause-names : goal.returns-in-Note-clause-names
unfolding mem
returns-in-Note-clause-names c = rw (c.in-Note.is, c.min-in-Note.ensures) (listed-part c.args.self.now.names 8 _ 4 (omega arith) (omega arith))
