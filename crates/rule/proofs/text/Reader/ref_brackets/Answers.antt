use native.Mathlib.Omega.{arith}
use mathlib.Core.List.{◌∷◌}
use Rattle.rule.specs.Class.{close_paren, close_bracket}
use Rattle.rule.specs.Machine.{want}
use Rattle.rule.specs.Machine as machine
use Rattle.rule.proofs.ReaderParts.{then, stop, expected, still}
use Rattle.rule.proofs.text.Reader.ref_brackets.Goals as goal

pub returns-in_err-expect : goal.returns-in_err-expect
returns-in_err-expect c =
    stop (λ s. machine.ref_index c.args.n c.args.e ∷ want close_bracket ∷ want close_paren ∷ s) (expected c.in_err-expect.ensures) c.from_residual.ensures

pub ref_index-requires : goal.ref_index-requires
ref_index-requires c =
    let a = (expected c.in_ok-expect.ensures).same in
    (still a c.requires.0, still a c.requires.1)

pub returns-in_err-ref_index : goal.returns-in_err-ref_index
returns-in_err-ref_index c =
    then (expected c.in_ok-expect.ensures) (stop (λ s. want close_bracket ∷ want close_paren ∷ s) {k = 0} c.in_err-ref_index.ensures c.from_residual-in_err-ref_index.ensures) (omega arith)

pub returns-in_err-expect-2 : goal.returns-in_err-expect-2
returns-in_err-expect-2 c =
    then (expected c.in_ok-expect.ensures) (then {k = 0} c.in_ok-ref_index.ensures (stop (λ s. want close_paren ∷ s) {k = 0} (expected c.in_err-expect-2.ensures) c.from_residual-in_err-expect-2.ensures) (omega arith)) (omega arith)

pub returns : goal.returns
returns c =
    then (expected c.in_ok-expect.ensures) (then {k = 0} c.in_ok-ref_index.ensures (then {k = 0} (expected c.in_ok-expect-2.ensures) (expected c.expect-3.ensures) (omega arith)) (omega arith)) (omega arith)
