-- `bench::chunks::Log::end_line` feeds a line with what is held of it; 35 bytes decide it. Assumes nothing.
use Rattle.std.proofs.Common.{◌++◌}
use Rattle.bench.proofs.ChunkLaws.{after_kept}
use Rattle.bench.proofs.chunks.Log.end_line.Goals as goal

pub returns-clause-progress : goal.returns-clause-progress
returns-clause-progress c =
    let i = c.self.inside in
    rw (← c.self.view_is) (rw (c.bytes.ensures, c.keep.ensures, after_kept i.run (i.cut ++ c.args.part.now)) at c.line-2.ensures)
