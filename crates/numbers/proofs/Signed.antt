-- A negative word from its bits. Assumes nothing.
use mathlib.Core.Path.{◌≡◌, refl, sym, ap, ◌∙◌}
use mathlib.Core.Bool.{Bool}
use Prim.Native.Nat.{ℕ, zero, suc, ◌-◌, ◌^◌, ◌≤◌, ◌<◌}
use native.Mathlib.Omega.{arith}
use borrow.Author.Tests.{le-ltb}
use lib.IntN.{ℤ, pos, negsuc, ◌-ℤ◌}
use mir.Syntax.{w32}
use mir.Facts.{to_z_pos}
use mir.Val.{to_z, sel}

neg_one_sub : (k : ℕ) → negsuc 0 -ℤ pos k ≡ negsuc k
neg_one_sub zero = refl
neg_one_sub (suc k) = ap negsuc (omega arith)

pub word_neg : (n : ℕ) → 2 ^ 31 ≤ n → n < 2 ^ 32 → negsuc 0 -ℤ to_z w32 (4294967295 - n) ≡ to_z w32 n
word_neg n h k =
    ap (λ (z : ℤ). negsuc 0 -ℤ z) (to_z_pos w32 {n = 4294967295 - n} (omega arith)) ∙ neg_one_sub (4294967295 - n)
    ∙ ap negsuc (omega arith) ∙ ap (λ (t : Bool). sel t (pos n) (negsuc (2 ^ 32 - suc n))) (sym (le-ltb n (2 ^ 31) h))
