-- `bench::chunks::Log::chunk` does what the chunk's bytes do one after the other: the lines that end in it, and what is left of the last. Assumes nothing.
use Rattle.std.proofs.Common.{◌≤◌, ◌-◌, length, drop}
use Rattle.bench.specs.Progress.{after_bytes}
use Rattle.bench.specs.Carried.{AfterChunked}
use Rattle.bench.proofs.chunks.Log.chunk.Given as goal

abbrev pub invariant-loop-line : goal.invariant-loop-line
invariant-loop-line l = record {
  within : l.at ≤ length l.s;
  same : AfterChunked (after_bytes l.initial.self l.s) (after_bytes l.self (drop l.at l.s));
}

abbrev pub decreases-loop-line : goal.decreases-loop-line
decreases-loop-line l = length l.s - l.at
