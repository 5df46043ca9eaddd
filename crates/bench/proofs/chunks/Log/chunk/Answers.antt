-- `bench::chunks::Log::chunk` does what the chunk's bytes do one after the other: the lines that end in it, and what is left of the last. Assumes nothing.
use Rattle.std.proofs.Common.{List, ℕ, sym, ◌∙◌, arith}
use Rattle.bench.proofs.ChunkLaws.{span_in, end-past, line_ended, line_rests, bytes-done}
use Rattle.bench.proofs.chunks.Log.chunk.Goals as goal

pub slice_bounds-part-count : goal.slice_bounds-part-count
slice_bounds-part-count c = omega (arith, span_in _ _ _ c.line_at.ensures c.in-Some.is)

pub slice_bounds-part-start : goal.slice_bounds-part-start
slice_bounds-part-start c = omega (arith, span_in _ _ _ c.line_at.ensures c.in-Some.is)

pub slice_bounds-part-end : goal.slice_bounds-part-end
slice_bounds-part-end c = omega (arith, span_in _ _ _ c.line_at.ensures c.in-Some.is)

pub loop-line-smaller-then-line : goal.loop-line-smaller-then-line
loop-line-smaller-then-line c = omega (arith, span_in _ _ _ c.line_at.ensures c.in-Some.is)

pub loop-line-smaller : goal.loop-line-smaller
loop-line-smaller c = omega (arith, span_in _ _ _ c.line_at.ensures c.in-Some.is)

pub loop-line-preserved-then-line : goal.loop-line-preserved-then-line
loop-line-preserved-then-line c =
    let s : List ℕ = c.args.s.now in
    let e = c.end_line.ensures in
    record {
      within = omega (arith, span_in s _ _ c.line_at.ensures c.in-Some.is);
      same = line_ended s _ _ (sym c.line_at.ensures ∙ c.in-Some.is) c.if-line.true _ c.loop-line.self c.end_line.new.self c.loop-line.invariant.same e.progress e.held;
    }

pub loop-line-preserved : goal.loop-line-preserved
loop-line-preserved c =
    let s : List ℕ = c.args.s.now in
    let i = rw (← c.self.view_is) at c.loop-line.invariant.same in
    record {
      within = omega (arith, span_in s _ _ c.line_at.ensures c.in-Some.is);
      same = line_rests s _ _ (sym c.line_at.ensures ∙ c.in-Some.is) c.if-line.false _ (record { progress = c.self.inside.run; held = c.self.inside.cut }) i _ c.keep.ensures;
    }

pub returns : goal.returns
returns c =
    rw (bytes-done c.args.s.now c.loop-line.at c.loop-line.self (end-past c.args.s.now c.loop-line.at (sym c.line_at.ensures ∙ c.in_default.is))) at c.loop-line.invariant.same
