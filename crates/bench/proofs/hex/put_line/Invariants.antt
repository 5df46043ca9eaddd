-- `bench::hex::put_line` puts the bytes' digits and LF, one byte after the other. Assumes nothing.
use Rattle.std.proofs.Common.{◌≡◌, ◌+◌, ◌*◌, drop}
use lib.Seq.{sets}
use Rattle.bench.specs.Print.{hex_line}
use Rattle.bench.proofs.hex.put_line.Given as goal

abbrev pub invariant-loop-k : goal.invariant-loop-k
invariant-loop-k l =
    sets l.out (l.at + 2 * l.k) (hex_line (drop l.k l.bytes)) ≡ sets l.initial.out l.at (hex_line l.bytes)
