-- `bench::run::Run::begin` begins with a checker that 12, 13 and 27 let through. Assumes nothing.
use Rattle.std.proofs.Common.{◌*◌}
use Rattle.checker.proofs.Laws.{bytes_take}
use Rattle.bench.proofs.run.Run.begin.Goals as goal

pub invariant_of-run : goal.invariant_of-run
invariant_of-run c =
    record { admits = c.requires.let_in; bytes = bytes_take (c.args.fields.len * 8) c.args.frames.now (λ i. c.fits-frames i) }
