-- `bench::run::Run::pull_all` pulls until waiting: what is left to pull falls, and what is wanted stays. Assumes nothing.
use Rattle.std.proofs.Common.{◌-◌}
use Rattle.bench.specs.Progress.{pulls, pull_limit}
use Rattle.bench.specs.Carried.{After}
use Rattle.bench.proofs.run.Run.pull_all.Given as goal

abbrev pub invariant-loop : goal.invariant-loop
invariant-loop l = After (pulls pull_limit l.initial.self) (pulls (pull_limit - l.counter) l.self)
