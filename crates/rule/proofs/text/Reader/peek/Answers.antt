use Rattle.rule.proofs.ReaderParts.{stands}
use Rattle.rule.proofs.text.Reader.peek.Goals as goal

pub returns : goal.returns
returns c = stands c.args.self.now c.token_at.result c.token_at.ensures
