use Rattle.rule.proofs.ReaderParts.{retold, plain-out}
use Rattle.rule.proofs.text.Reader.emit_kind.Goals as goal

pub returns : goal.returns
returns c = let d = c.default.ensures in retold c.emit.ensures (rw (d.1.0, d.1.1.0, d.1.1.1.0, d.1.1.1.1) (plain-out _ _ _))
