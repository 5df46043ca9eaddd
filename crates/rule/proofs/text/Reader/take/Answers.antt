use Rattle.rule.proofs.ReaderParts.{here}
use Rattle.rule.proofs.text.Reader.take.Goals as goal

pub returns-clause-taken : goal.returns-clause-taken
returns-clause-taken c = here
