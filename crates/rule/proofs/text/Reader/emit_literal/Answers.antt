use Rattle.rule.proofs.ReaderParts.{chained, lit-out}
use Rattle.rule.proofs.text.Reader.emit_literal.Goals as goal

pub returns : goal.returns
returns c =
    let d = c.default.ensures in
    chained c.sized.ensures c.emit.ensures (rw (d.1.1.0, d.1.1.1.0, c.number_value-word.ensures, c.letters.ensures, c.decimals.ensures, c.letters-2.ensures, c.sized.ensures.same.same_text, c.sized.ensures.recalls) (lit-out _ _ _))
