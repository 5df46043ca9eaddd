use native.Mathlib.Omega.{arith}
use mathlib.Core.List.{◌∷◌}
use Rattle.rule.specs.Machine.{rel}
use Rattle.rule.proofs.ReaderParts.{then, stop}
use Rattle.rule.proofs.text.Reader.relation.Goals as goal

pub returns-in_err-sum : goal.returns-in_err-sum
returns-in_err-sum c = stop (λ s. rel c.args.d ∷ s) c.in_err-sum.ensures c.from_residual.ensures

pub returns : goal.returns
returns c = then c.in_ok-sum.ensures c.compare.ensures (omega arith)
