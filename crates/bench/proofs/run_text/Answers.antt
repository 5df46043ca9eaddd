-- `bench::run_text` takes no more frames than the buffer has. Assumes nothing.
use Rattle.std.proofs.Common.{◌≤◌, ◌*◌, length, sym, length-take-le}
use Rattle.bench.proofs.Whole.{read-room}
use Rattle.bench.proofs.run_text.Goals as goal

pub slice_bounds-frames-end : goal.slice_bounds-frames-end
slice_bounds-frames-end c =
    let r = c.read in
    read-room c.args.text.now _ r.result _ _ r.ensures.0 r.ensures.1 c.in_ok-count.was

pub slice_bounds-run_frames-end : goal.slice_bounds-run_frames-end
slice_bounds-run_frames-end c =
    let r = c.read in
    let h : c.in_ok-count.count * 8 ≤ length r.new.frames = read-room c.args.text.now _ r.result _ _ r.ensures.0 r.ensures.1 c.in_ok-count.was in
    sym (length-take-le _ _ h)
