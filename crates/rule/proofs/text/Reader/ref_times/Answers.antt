use native.Mathlib.Omega.{arith}
use mathlib.Core.List.{◌∷◌}
use Rattle.rule.specs.Token.{index_kind}
use Rattle.rule.specs.Machine.{want}
use Rattle.rule.specs.Machine as machine
use Rattle.rule.specs.declared.parts.Multiple.TheVariants.{Times}
use Rattle.rule.proofs.ReaderParts.{then, stop, expected, still}
use Rattle.rule.proofs.text.Reader.ref_times.Goals as goal

pub returns-in_err-expect : goal.returns-in_err-expect
returns-in_err-expect c =
    stop (λ s. want index_kind ∷ machine.ref_shift c.args.n c.args.e (Times c.args.p) ∷ s) (expected c.in_err-expect.ensures) c.from_residual.ensures

pub returns-in_err-expect-2 : goal.returns-in_err-expect-2
returns-in_err-expect-2 c =
    then (expected c.in_ok-expect.ensures) (stop (λ s. machine.ref_shift c.args.n c.args.e (Times c.args.p) ∷ s) {k = 0} (expected c.in_err-expect-2.ensures) c.from_residual-in_err-expect-2.ensures) (omega arith)

pub ref_shift-requires : goal.ref_shift-requires
ref_shift-requires c =
    let a = (expected c.in_ok-expect.ensures).same in
    let b = (expected c.in_ok-expect-2.ensures).same in
    let h = c.requires in
    (still b (still a h.0), still b (still a h.1), still b (still a h.2))

pub returns : goal.returns
returns c = then (expected c.in_ok-expect.ensures) (then {k = 0} (expected c.in_ok-expect-2.ensures) c.ref_shift.ensures (omega arith)) (omega arith)
