use mathlib.Core.Path.{◌∙◌}
use native.Mathlib.Omega.{arith}
use mathlib.Core.List.{◌∷◌}
use Rattle.rule.specs.Class.{semicolon}
use Rattle.rule.specs.Machine.{want}
use Rattle.rule.specs.Machine as machine
use Rattle.rule.proofs.ReaderParts.{then, stop, in-names, stays}
use Rattle.rule.proofs.text.Reader.declarations.Goals as goal

pub name_list-requires : goal.name_list-requires
name_list-requires c = (c.in_ok-expect.ensures _ (in-names 0 c.requires.0)).same.same_points ∙ c.requires.0

pub returns-in_err-expect : goal.returns-in_err-expect
returns-in_err-expect c =
    λ n. stop (λ s. machine.name_of c.args.role ∷ machine.names_of c.args.role ∷ want semicolon ∷ s) (c.in_err-expect.ensures _ (in-names n c.requires.0)) c.from_residual.ensures

pub returns : goal.returns
returns c =
    λ n. then (rw (stays n c.args.word c.requires.2) at (c.in_ok-expect.ensures _ (in-names n c.requires.0))) (c.name_list.ensures n) (omega arith)
