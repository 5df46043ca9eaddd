-- `checker::pricing::bands_fit` meets its contract. Assumes nothing.
use Rattle.std.proofs.Common.{◌≡◌, ◌<◌, true, false, get_or, take, sym, ◌∙◌, add-one, arith}
use Rattle.std.proofs.lemmas.List.{get_or-take}
use Rattle.std.proofs.lemmas.Bool.Decides.{nat_tests}
use Rattle.checker.specs.Tariff.{band_at}
use Rattle.checker.proofs.Prices.{follows, rise-step, rise-none, bands_many, bands_by}
use Rattle.checker.proofs.pricing.bands_fit.Goals.{then-last-before-via-then-last-before, then-last-before-via-else-last-before+then-last-gt-LAST_LIMIT}
use Rattle.checker.proofs.pricing.bands_fit.Goals as goal

pub returns-then-t-gt-BANDS : goal.returns-then-t-gt-BANDS
returns-then-t-gt-BANDS c = sym (bands_many c.args.t c.if-t-gt-BANDS.true)

pub loop-last-preserved : goal.loop-last-preserved
loop-last-preserved c =
    let t = c.args.t in
    let l = c.loop-last in
    let h : l.last-index < t.bands = omega arith in
    let last : get_or (take t.bands t.lasts) l.last-index 0 ≡ (band_at t l.last-index).last = get_or-take t.bands t.lasts l.last-index 0 h in
    let yes : follows l.before (band_at t l.last-index).last ≡ true = rw (← last) (grind (arith, nat_tests)) in
    l.invariant ∙ rw (add-one l.last-index, last) (rise-step t l.last-index l.before true h yes)

pub returns-then-last-before : goal.returns-then-last-before
returns-then-last-before c =
    let t = c.args.t in
    let l = c.loop-last in
    let h : l.last-index < t.bands = omega arith in
    let last : get_or (take t.bands t.lasts) l.last-index 0 ≡ (band_at t l.last-index).last = get_or-take t.bands t.lasts l.last-index 0 h in
    let no : follows l.before (band_at t l.last-index).last ≡ false = rw (← last) (elim c.then-last-before.branch [
      | then-last-before-via-then-last-before w ↦ grind (arith, nat_tests)
      | then-last-before-via-else-last-before+then-last-gt-LAST_LIMIT w ↦ grind (arith, nat_tests)
    ]) in
    sym (bands_by t c.if-t-gt-BANDS.false ∙ l.invariant ∙ rise-step t l.last-index l.before false h no)

pub returns : goal.returns
returns c =
    let t = c.args.t in
    let l = c.loop-last in
    sym (bands_by t c.if-t-gt-BANDS.false ∙ l.invariant ∙ rise-none t l.last-index l.before (omega arith))
