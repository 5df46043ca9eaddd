use mathlib.Core.Path.{◌≡◌}
use native.Mathlib.Omega.{arith}
use Prim.Native.Nat.{ℕ, ◌+◌, ◌%◌, ◌<◌}
use Rattle.rule.specs.Memory.{negated}
use Rattle.rule.proofs.text.Reader.offset_of.Goals as goal

below_zero : (v r : ℕ) → v < 4294967296 → r < 4294967296 → (r + v) % 4294967296 ≡ 0 → r ≡ negated v
unfolding negated
below_zero v r a b e = omega arith

pub returns-in-Minus : goal.returns-in-Minus
returns-in-Minus c =
    let b = below_zero c.number_value-v.result c.wrapping_neg.result (omega arith) (omega arith) c.wrapping_neg.ensures in
    rw (c.in-By.is, c.in-Minus.is, ← c.letters.ensures, ← c.number_value-v.ensures) b
