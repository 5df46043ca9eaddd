use mathlib.Core.Path.{◌∙◌}
use mathlib.Core.List.{[]}
use Rattle.rule.specs.ReadsPart.{read_on}
use Rattle.rule.proofs.ReaderParts.{halted}
use Rattle.rule.proofs.text.Reader.body.Goals as goal

pub returns-in_err-condition : goal.returns-in_err-condition
returns-in_err-condition c = halted _ c.in_err-condition.ensures c.from_residual.ensures []

pub returns : goal.returns
unfolding read_on
returns c = c.in_ok-condition.ensures.runs [] ∙ c.ended.ensures
