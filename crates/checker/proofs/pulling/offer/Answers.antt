-- `checker::pulling::offer` meets its contract. Assumes nothing.
use Rattle.std.proofs.Common.{◌≡◌, sym, refl, ◌∙◌}
use Rattle.rule.specs.Tree.{references}
use Rattle.rule.specs.Build.{tree_of}
use Rattle.rule.proofs.Laws.{bytes-by}
use Rattle.std.specs.Prelude.{Option, Some, None, Bool, true}
use Rattle.verdict.specs.declared.Verdict.{Verdict}
use Rattle.verdict.specs.declared.Verdict.TheVariants.{True, False, Unknown}
use Rattle.verdict.specs.contracts.VerdictPartialEq
use Rattle.std.specs.Option.{option_eq}
use Rattle.numbers.proofs.Bools.{true-false}
use Rattle.checker.specs.Found.{found_in_window}
use Rattle.checker.proofs.PullOffer.{offer_judge, offer_fill, offer_judged, offered_false, offered_other}
use Rattle.checker.proofs.pulling.offer.Goals as goal

pub judge-judged-requires : goal.judge-judged-requires
judge-judged-requires c = offer_judge c.requires.0 c.look.ensures c.args.sight.now.instance_in

pub fill-requires : goal.fill-requires
fill-requires c = offer_fill c.requires.0 c.look.ensures c.requires.1

-- whether a judgement is that it is false
is_false : (j : Option Verdict) (t : Bool) → t ≡ option_eq VerdictPartialEq.TheImpl.eq-value.it j (Some False) → t ≡ true → j ≡ Some False
is_false None t e q = absurd (true-false (sym q ∙ e))
is_false (Some True) t e q = absurd (true-false (sym q ∙ e))
is_false (Some False) t e q = refl
is_false (Some Unknown) t e q = absurd (true-false (sym q ∙ e))

pub returns-then-eq : goal.returns-then-eq
returns-then-eq c =
    let a = c.args in
    let l = c.look.ensures in
    let p = a.sight.now.p.0 in
    let j = c.judge-judged in
    let b = bytes-by a.frames.now (λ i _. (c.type_inv.frames i).fits) in
    (offer_judged c.requires.0 l p j.result j.ensures, offered_false c.requires.0 l p j.result j.ensures b a.report.now c.fill.new.report c.fill.ensures (is_false j.result c.eq.result c.eq.ensures c.if-eq.true))

pub returns-else-eq : goal.returns-else-eq
returns-else-eq c =
    let a = c.args in
    let s = a.sight.now in
    let j = c.judge-judged in
    let n : j.result ≡ Some False → ⊥ = λ q. true-false (sym (rw q at c.if-eq.ensures)) in
    (offer_judged c.requires.0 c.look.ensures s.p.0 j.result j.ensures, offered_other s.p.0 (references (tree_of a.frames.now)) (found_in_window s.width s.counts s.window.now s.p.0) a.report.now j.result n)
