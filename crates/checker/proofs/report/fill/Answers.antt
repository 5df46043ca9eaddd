-- `checker::report::fill` meets its contract. Assumes nothing.
use Rattle.std.proofs.Common.{◌≡◌, ◌≤◌, get_or, ℤ, pos, refl, ◌∙◌, arith, w32, to_z, of_z, to_z-of_z, rules}
use lib.Seq.{sets}
use Rattle.rule.specs.References.{reference_count}
use Rattle.rule.proofs.Main.{few-references}
use Rattle.rule.proofs.Laws.{bytes-by}
use Rattle.checker.specs.Sights.{header_of}
use Rattle.checker.proofs.PullReport.{kept-room, kept_next, kept-last}
use Rattle.checker.proofs.report.fill.Goals.{After-reference_count-count}
use Rattle.checker.proofs.report.fill.Goals as goal

few : (c : After-reference_count-count) → reference_count c.args.frames.now ≤ 32
few c = few-references (bytes-by c.args.frames.now (λ i l. (c.type_inv.frames i).fits)) c.requires.accepted

pub overflow_cast-count : goal.overflow_cast-count
overflow_cast-count c = omega (arith, few (goal.at-overflow_cast-count c).After-reference_count-count, c.reference_count-count.ensures)

pub put_frame-at-requires : goal.put_frame-at-requires
put_frame-at-requires c =
    let f = few (goal.at-put_frame-at-requires c).After-reference_count-count in
    λ e. kept-room c.args.frames.now c.args.marks.now c.args.notes.now f _ _ c.loop-k.at c.loop-k.k c.loop-k.invariant (omega arith) e

pub loop-k-preserved : goal.loop-k-preserved
loop-k-preserved c =
    let f = few (goal.at-loop-k-preserved c).After-reference_count-count in
    let z : ℤ = get_or c.args.notes.now c.loop-k.k (pos 0) in
    let same : to_z w32 (of_z w32 z) ≡ z = to_z-of_z {w = w32} (search rules) in
    let g = rw same at c.put_frame-at.ensures in
    kept_next c.args.frames.now c.args.marks.now c.args.notes.now f _ _ c.loop-k.at c.loop-k.k c.loop-k.invariant (omega arith) _ _ g.0 g.1

pub returns : goal.returns
returns c =
    let f = few (goal.at-returns c).After-reference_count-count in
    let q : sets c.args.report.now 0 (header_of c.args.p.0 c.reference_count-count.result) ≡ sets c.args.report.now 0 (header_of c.args.p.0 (reference_count c.args.frames.now)) = rw c.reference_count-count.ensures in
    kept-last c.args.frames.now c.args.marks.now c.args.notes.now f _ _ c.loop-k.at c.loop-k.k c.loop-k.invariant (omega arith) c.args.report.now (header_of c.args.p.0 (reference_count c.args.frames.now)) (c.put_header.ensures ∙ q) refl c.requires.room
