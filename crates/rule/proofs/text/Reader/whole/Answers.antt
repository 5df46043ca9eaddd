use mathlib.Core.Path.{◌∙◌}
use native.Mathlib.Omega.{arith}
use mathlib.Core.List.{[], ◌∷◌}
use Rattle.rule.specs.Token.{notes_kind}
use Rattle.rule.specs.Class.{semicolon}
use Rattle.rule.specs.Machine.{want}
use Rattle.rule.specs.Machine as machine
use Rattle.rule.specs.ReadsPart.{read_on}
use Rattle.rule.specs.declared.parts.Role.TheVariants.{Note}
use Rattle.rule.proofs.ReaderParts.{then, halted}
use Rattle.rule.proofs.text.Reader.whole.Goals as goal

pub declarations-requires-2 : goal.declarations-requires-2
declarations-requires-2 c = ((c.in_ok-declarations.ensures 1).same.same_points ∙ c.requires, omega arith, omega arith)

pub scaled-requires : goal.scaled-requires
scaled-requires c = (c.in_ok-declarations-2.ensures 0).same.same_points ∙ ((c.in_ok-declarations.ensures 1).same.same_points ∙ c.requires)

pub returns-in_err-declarations : goal.returns-in_err-declarations
returns-in_err-declarations c =
    halted _ (c.in_err-declarations.ensures 1) c.from_residual.ensures (want notes_kind ∷ machine.name_of Note ∷ machine.names_of Note ∷ want semicolon ∷ machine.clause ∷ machine.condition 0 [])

pub returns-in_err-declarations-2 : goal.returns-in_err-declarations-2
returns-in_err-declarations-2 c =
    halted _ (then {k = 0} (c.in_ok-declarations.ensures 1) (c.in_err-declarations-2.ensures 0) (omega arith)) c.from_residual-in_err-declarations-2.ensures (machine.clause ∷ machine.condition 0 [])

pub returns : goal.returns
unfolding read_on
returns c =
    (then {k = 0} (c.in_ok-declarations.ensures 1) (c.in_ok-declarations-2.ensures 0) (omega arith)).runs (machine.clause ∷ machine.condition 0 []) ∙ c.scaled.ensures
