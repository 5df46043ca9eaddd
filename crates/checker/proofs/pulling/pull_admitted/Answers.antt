-- `checker::pulling::pull_admitted` meets its contract. Assumes nothing.
use Rattle.std.specs.Prelude.{Some, None}
use Rattle.std.proofs.Common.{length, sym, refl, ◌∙◌, arith, length-take-le, le-ltb}
use Rattle.checker.specs.Parts.{state_of}
use Rattle.checker.proofs.Admissions.{in_long}
use Rattle.checker.proofs.CodeStateTest.{ready_facts}
use Rattle.checker.proofs.PullOffer.{pull_offers, pulled_as}
use Rattle.checker.proofs.pulling.pull_admitted.Goals as goal

pub slice_bounds-offer-end : goal.slice_bounds-offer-end
slice_bounds-offer-end c =
    let r = c.requires.0 in
    sym (length-take-le _ _ (omega (arith, r.long, (ready_facts r).few)))

pub invariant_of-sight : goal.invariant_of-sight
invariant_of-sight c =
    let a = c.args in
    let f = ready_facts c.requires.0 in
    record { instance_in = f.totals.low; some = f.some; most = f.most; words = in_long (state_of a.frames.now a.fields.now) a.window.now c.requires.0.let_in }

pub offer-requires : goal.offer-requires
offer-requires c = ((ready_facts c.requires.0).accepted, c.requires.1)

pub count_verdict-requires : goal.count_verdict-requires
count_verdict-requires c = (ready_facts c.requires.0).totals

pub returns-in_err-verdict : goal.returns-in_err-verdict
returns-in_err-verdict c =
    let a = c.args in
    let e = c.in_err-verdict.ensures in
    rw c.from_residual.ensures
    (pulled_as a.frames.now a.fields.now a.fields.now a.window.now a.report.now c.offer.new.report None refl e.1
    ∙ pull_offers (state_of a.frames.now a.fields.now) a.window.now a.report.now c.requires.0.let_in (le-ltb (length a.report.now) 166 c.requires.1) None e.0)

pub returns : goal.returns
returns c =
    let a = c.args in
    let e = c.in_ok-verdict.ensures in
    let v = c.in_ok-verdict.verdict in
    pulled_as a.frames.now a.fields.now c.count_verdict.new.self a.window.now a.report.now c.offer.new.report (Some v) (c.count_verdict.ensures a.frames.now) e.1
    ∙ pull_offers (state_of a.frames.now a.fields.now) a.window.now a.report.now c.requires.0.let_in (le-ltb (length a.report.now) 166 c.requires.1) (Some v) e.0
