-- `bench::run::Run::put_totals` puts the totals behind what waits. Assumes nothing.
use Rattle.bench.proofs.run.Run.put_totals.Goals as goal

pub returns : goal.returns
returns c = rw (← c.self.view_is) (rw c.totals_bytes.ensures at c.put_line.ensures)
