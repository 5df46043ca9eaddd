use native.Mathlib.Omega.{arith}
use mathlib.Core.List.{◌∷◌}
use Rattle.rule.specs.Machine as machine
use Rattle.rule.proofs.ReaderParts.{then, stop, expected, still}
use Rattle.rule.proofs.text.Reader.reference.Goals as goal

pub returns-in_err-expect : goal.returns-in_err-expect
returns-in_err-expect c = stop (λ s. machine.ref_event c.args.n ∷ s) (expected c.in_err-expect.ensures) c.from_residual.ensures

pub ref_event-requires : goal.ref_event-requires
ref_event-requires c = still (expected c.in_ok-expect.ensures).same c.requires

pub returns : goal.returns
returns c = then (expected c.in_ok-expect.ensures) c.ref_event.ensures (omega arith)
