use mathlib.Core.Path.{◌∙◌}
use mathlib.Core.List.{[]}
use Rattle.rule.specs.Machine.{condition}
use Rattle.rule.specs.ReadsPart.{read_on}
use Rattle.rule.proofs.ReaderParts.{halted}
use Rattle.rule.proofs.text.Reader.scaled.Goals as goal

pub returns-in_err-scale_clause : goal.returns-in_err-scale_clause
returns-in_err-scale_clause c = halted _ c.in_err-scale_clause.ensures c.from_residual.ensures (condition 0 [])

pub returns : goal.returns
unfolding read_on
returns c = c.in_ok-scale_clause.ensures.runs (condition 0 []) ∙ c.body.ensures
