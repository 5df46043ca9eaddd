-- `rule::Frame::fields_fit` meets its contract. Assumes nothing.
use mathlib.Core.Path.{sym, ◌∙◌}
use native.Mathlib.Omega.{arith}
use Rattle.rule.specs.Frames.{literal, reference, operand}
use Rattle.rule.proofs.FrameKinds.{kind_at, bare-kind}
use Rattle.rule.proofs.Frame.fields_fit.Goals as goal

pub returns-in-1 : goal.returns-in-1
returns-in-1 c = c.literal_fields.ensures ∙ rw (kind_at (operand literal) c.args.self.kind c.in-1.is)

pub returns-in-3 : goal.returns-in-3
returns-in-3 c = c.reference_fields.ensures ∙ rw (kind_at (operand reference) c.args.self.kind c.in-3.is)

pub returns-in_default : goal.returns-in_default
returns-in_default c = c.bare_fields.ensures ∙ sym (bare-kind c.args.most c.args.self.kind c.args.self (λ e. omega arith) (λ e. omega arith))
