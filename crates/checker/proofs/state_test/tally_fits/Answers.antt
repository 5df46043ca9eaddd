-- `checker::state_test::tally_fits` meets its contract. Assumes nothing.
use Rattle.std.proofs.Common.{◌≡◌, ℕ, ◌*◌, Bool, true, false, Option, List, take, refl, sym, ◌∙◌}
use Rattle.std.specs.Prelude.{if◌then◌else◌, Some, None}
use Rattle.std.specs.Bool.{then_some}
use Rattle.checker.specs.StateTest.{totals_pass}
use Rattle.checker.specs.BasePass.{tally_fits}
use Rattle.checker.proofs.CodeStateTest.{tally-by, tally_no}
use Rattle.checker.proofs.state_test.tally_fits.Goals as goal
use Rattle.checker.proofs.state_test.tally_fits.Goals.{then-counts_fit, else-counts_fit}

pub returns-then-p-gt-INSTANCE_LIMIT : goal.returns-then-p-gt-INSTANCE_LIMIT
returns-then-p-gt-INSTANCE_LIMIT c =
    let s = c.args.s in
    rw (sym (tally_no (take (s.len * 8) c.args.frames.now) s.width s.counts s.next.0 s.totals c.if-p-gt-INSTANCE_LIMIT.true))

some-if : {A : Type 0} (t : Bool) (x : A) → then_some t x ≡ (if t then Some x else None)
some-if true x = refl
some-if false x = refl

pub returns : goal.returns
returns c =
    let s = c.args.s in
    let rule : List ℕ = take (s.len * 8) c.args.frames.now in
    let starts = c.starts_at-starts in
    let by = λ (a b : Bool). tally-by rule s.width s.counts s.next.0 s.totals starts.result.bases starts.result.first.0 a b c.if-p-gt-INSTANCE_LIMIT.false starts.ensures.0 starts.ensures.1 in
    let t : c.if-counts_fit.fits ≡ tally_fits rule s.width s.counts s.next.0 s.totals = elim c.if-counts_fit.branch [
      | then-counts_fit w ↦ w.fits-is ∙ by true w.totals_fit-fits.result w.if-counts_fit.ensures w.totals_fit-fits.ensures
      | else-counts_fit w ↦ w.fits-is ∙ (w.if-counts_fit.false ∙ by false (totals_pass starts.result.first.0 s.next.0 s.totals) w.if-counts_fit.ensures refl)
    ] in
    c.then_some.ensures ∙ (some-if c.if-counts_fit.fits starts.result.bases ∙ rw (t, starts.ensures.0))
