-- `checker::state_test::state_passes` meets its contract. Assumes nothing.
use Rattle.std.proofs.Common.{◌≡◌, ◌*◌, Bool, true, sym, ap, ◌∙◌}
use Rattle.std.specs.Prelude.{if◌then◌else◌, Some, None}
use Rattle.rule.specs.Frames.{Bytes}
use Rattle.checker.specs.State.{state_frames}
use Rattle.checker.specs.Parts.{state_of}
use Rattle.checker.specs.BasePass.{bases_of, rule_fits}
use Rattle.checker.specs.declared.State.{State}
use Rattle.checker.proofs.CodeBase.{bytes_take, tally-same}
use Rattle.checker.proofs.CodeStateTest.{rule_facts, good-by, bad-by}
use Rattle.checker.proofs.state_test.state_passes.Goals as goal

pub returns-then-rule_fits : goal.returns-then-rule_fits
returns-then-rule_fits c =
    let s : State = state_of c.args.frames.now c.args.s in
    let q : rule_fits s.frames s.len s.width s.profile ≡ true = sym c.if-rule_fits.ensures in
    let b : Bytes (state_frames s) = bytes_take (s.len * 8) s.frames c.fits-frames in
    let t = good-by s _ q (tally-same b (rule_facts s.frames s.len s.width s.profile q).1 s.width s.counts s.next.0 s.totals) in
    c.tally_fits.ensures ∙ ap (λ (x : Bool). if x then Some (bases_of (state_frames s) s.next.0) else None) t

pub returns-else-rule_fits : goal.returns-else-rule_fits
returns-else-rule_fits c =
    let s : State = state_of c.args.frames.now c.args.s in
    rw (sym (bad-by s (sym c.if-rule_fits.ensures)))
