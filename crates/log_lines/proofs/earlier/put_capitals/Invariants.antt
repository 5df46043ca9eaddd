-- `log_lines::earlier::put_capitals` copies byte by byte. The invariant: with the bytes that are left put too, the whole is there.
use mathlib.Core.Path.{◌≡◌}
use mathlib.Core.List.{map}
use Prim.Native.Nat.{◌+◌}
use lib.ListN.{drop}
use lib.Seq.{sets}
use Rattle.log_lines.specs.Digit.{capital}
use Rattle.log_lines.proofs.earlier.put_capitals.Given as goal

abbrev pub invariant-loop-k : goal.invariant-loop-k
invariant-loop-k l =
    sets l.out (l.at + l.k) (map capital (drop l.k l.bytes)) ≡ sets l.initial.out l.at (map capital l.bytes)
