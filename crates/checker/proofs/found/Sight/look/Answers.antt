-- `checker::found::Sight::look` meets its contract. Assumes nothing.
use Rattle.std.proofs.Common.{◌≡◌, ap, ◌∙◌, arith, to_z-of_z, w32, to_z, of_z, rules}
use Rattle.verdict.specs.Value.{note_of}
use Rattle.checker.specs.Report.{mark_of}
use Rattle.checker.specs.Found.{found_in_window}
use Rattle.checker.proofs.PullFound.{few_frames, limited, looked-next}
use Rattle.checker.proofs.found.Sight.look.Goals as goal

pub of_frame-seen-requires : goal.of_frame-seen-requires
of_frame-seen-requires c =
    limited c.args.frames.now c.loop-k.k c.frame_at.result c.requires.0 (omega arith) c.frame_at.ensures

pub loop-k-preserved : goal.loop-k-preserved
loop-k-preserved c =
    let a = c.args in
    let l = c.loop-k in
    let s = a.self.now in
    let x = c.frame_at in
    let seen = c.of_frame-seen in
    let q : to_z w32 (of_z w32 c.note.result) ≡ c.note.result = to_z-of_z {w = w32} (search rules) in
    rw q
    (looked-next a.frames.now (found_in_window s.width s.counts s.window.now s.p.0) l.marks l.notes l.k l.invariant
    (omega (arith, few_frames a.frames.now c.requires.0)) x.result x.ensures c.mark.result c.note.result
    (λ e. record { mark_is = c.mark.ensures ∙ ap mark_of (seen.ensures e); note_is = c.note.ensures ∙ ap note_of (seen.ensures e) }))
