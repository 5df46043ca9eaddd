use Rattle.rule.specs.Memory.{acts}
use Rattle.rule.proofs.text.Reader.emit_reference.Goals as goal

pub returns : goal.returns
unfolding acts
returns c =
    rw (c.lookup-event.ensures, c.name_code.ensures, c.letters.ensures, c.lookup-note.ensures, c.name_code-2.ensures, c.letters-2.ensures, c.factor_of.ensures, c.offset_of.ensures) at c.emit.ensures
