use Rattle.rule.proofs.ReaderParts.{chained, head-out}
use Rattle.rule.proofs.text.Reader.emit_head.Goals as goal

pub returns : goal.returns
returns c = let d = c.default.ensures in chained c.sized.ensures c.emit.ensures (rw (d.1.1.0, d.1.1.1.0, d.1.1.1.1, c.number_value.ensures, c.letters.ensures, c.sized.ensures.same.same_text, c.sized.ensures.recalls) (head-out _ _ _))
