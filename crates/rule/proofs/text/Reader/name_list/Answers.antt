use mathlib.Core.Path.{◌∙◌}
use native.Mathlib.Omega.{arith}
use mathlib.Core.List.{◌∷◌}
use Rattle.rule.specs.Class.{semicolon}
use Rattle.rule.specs.Machine.{want}
use Rattle.rule.specs.Machine as machine
use Rattle.rule.proofs.ReaderParts.{then, stop, in-names}
use Rattle.rule.proofs.text.Reader.name_list.Goals as goal

pub names_of-requires : goal.names_of-requires
names_of-requires c = (c.in_ok-name_of.ensures 0).same.same_points ∙ c.requires

pub returns-in_err-name_of : goal.returns-in_err-name_of
returns-in_err-name_of c = λ n. stop (λ s. machine.names_of c.args.role ∷ want semicolon ∷ s) (c.in_err-name_of.ensures n) c.from_residual.ensures

pub returns-in_err-names_of : goal.returns-in_err-names_of
returns-in_err-names_of c = λ n. then (c.in_ok-name_of.ensures n) (stop (λ s. want semicolon ∷ s) {k = 0} (c.in_err-names_of.ensures n) c.from_residual-in_err-names_of.ensures) (omega arith)

pub returns : goal.returns
returns c =
    let e = (c.in_ok-names_of.ensures 0).same.same_points ∙ ((c.in_ok-name_of.ensures 0).same.same_points ∙ c.requires) in
    λ n. then (c.in_ok-name_of.ensures n) (then {k = 0} (c.in_ok-names_of.ensures n) (c.expect.ensures _ (in-names n e)) (omega arith)) (omega arith)
