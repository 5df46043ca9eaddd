-- `rule::sizes::check_sizes` meets its contract. Assumes nothing.
use Rattle.std.proofs.Common.{◌≡◌, sym, ap, ◌∙◌, ◌+◌, arith}
use Rattle.rule.specs.Frames.{frame_count}
use Rattle.rule.specs.Sizes.{size_at, over, is_fits, sizes_fit}
use Rattle.rule.proofs.FrameMagnitudes.{over-at, size_again, not_ok}
use Rattle.rule.proofs.FrameStacks.{size_ready}
use Rattle.rule.proofs.sizes.check_sizes.Goals as goal

pub step-requires : goal.step-requires
step-requires c =
    let l = c.loop-i in
    let r = size_ready c.args.scale c.args.frames.now l.i l.magnitudes c.frame_at.result (omega arith) c.requires.short c.requires.scale_few c.requires.rule c.frame_at.ensures l.invariant in
    record { enough = r.enough; room = r.room; few = r.few }

pub returns-in_err-step : goal.returns-in_err-step
unfolding sizes_fit
returns-in_err-step c =
    let l = c.loop-i in
    let s = c.args.frames.now in
    let e : size_at c.args.scale s (l.i + 1) ≡ over = size_again c.args.scale s l.magnitudes l.i c.frame_at.result _ l.invariant c.frame_at.ensures (c.in_err-step.ensures {u = tt}) in
    not_ok c.from_residual.result c.from_residual.ensures.0 ∙ sym (ap is_fits (over-at c.args.scale s (l.i + 1) (frame_count s) (omega arith) e))

pub returns : goal.returns
unfolding sizes_fit
returns c =
    let l = c.loop-i in
    let e : l.i ≡ frame_count c.args.frames.now = omega arith in
    sym (ap is_fits (rw e at l.invariant))
