use mathlib.Core.Path.{refl, sym, ap, ◌∙◌}
use native.Mathlib.Omega.{arith}
use Rattle.rule.specs.Token.{as_scale}
use Rattle.rule.specs.Machine.{step}
use Rattle.rule.proofs.TokenModes.{clause-some}
use Rattle.rule.proofs.ReaderParts.{fewer, take-to, no_scale}
use Rattle.rule.proofs.text.Reader.scale_clause.Goals as goal

pub returns-then-not-here : goal.returns-then-not-here
returns-then-not-here c = rw c.if-not-here.true (no_scale (sym c.requires.1 ∙ c.if-not-here.true))

pub returns : goal.returns
unfolding step
returns c =
    let x = c.args.self.now in
    let k = c.take.ensures.taken in
    let points = sym c.requires.0 in
    let is = ap as_scale (rw c.requires.0 at c.take.ensures.next.is) ∙ sym (clause-some x.text.now x.at (sym c.requires.1 ∙ c.if-not-here.false)) in
    rw c.if-not-here.false (fewer (take-to {t = as_scale c.take.result} is (omega arith) (record { recalls = k.recalls; behind = k.behind; same = k.same }) refl c.scale_number.ensures (λ s. refl)))
