-- Two answers that tell the same are the same. Assumes nothing.
use Rattle.std.specs.Prelude.{Result, Ok, Err}
use mathlib.Core.Path.{◌≡◌, sym, ap}
use Prim.Native.Nat.{ℕ}
use lib.IntN.{ℤ}
use Rattle.log_lines.specs.Line.{line_told, line}
use Rattle.log_lines.specs.declared.line.BadLine.{BadLine}
use Rattle.log_lines.specs.declared.line.Line.{Line}
use Rattle.log_lines.proofs.Exactly.{apart}

event : ℕ → ℤ → ℤ → ℤ → ℤ → Line
event e a b c d = record { event = e; notes = record { 0 = a; 1 = b; 2 = c; 3 = d } }

abbrev bad : ℕ → BadLine
bad p = record { place = p }

same : {e e' : ℕ} {a b c d a' b' c' d' : ℤ} → line e a b c d ≡ line e' a' b' c' d'
    → event e a b c d ≡ event e' a' b' c' d'
same h = cc

pub line_told_injective : (a b : Result Line BadLine) → line_told a ≡ line_told b → a ≡ b
unfolding line_told event
line_told_injective (Ok l) (Ok m) h = ap Ok (same h)
line_told_injective (Ok l) (Err q) h = apart h
line_told_injective (Err p) (Ok m) h = apart (sym h)
line_told_injective (Err p) (Err q) h = let e : p.place ≡ q.place = cc in ap (λ (n : ℕ). Err (bad n)) e
