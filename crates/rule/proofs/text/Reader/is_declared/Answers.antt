use mathlib.Core.Path.{◌∙◌, ap}
use Rattle.rule.specs.Memory.{is_declared}
use Rattle.rule.proofs.ReaderTables.{any-declared}
use Rattle.rule.proofs.text.Reader.is_declared.Goals as goal

pub returns : goal.returns
returns c = c.contains.ensures.value ∙ (any-declared c.args.code c.declared.result.now ∙ ap (is_declared c.args.code) c.declared.ensures.names)
