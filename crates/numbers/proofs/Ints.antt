-- Laws of the integers that the library lacks. Assumes nothing.
use mathlib.Core.Path.{◌≡◌, refl, sym, ap, ◌∙◌}
use mathlib.Core.Bool.{true, false, ◌&&◌}
use Prim.Native.Nat.{ℕ, zero, suc, ◌-◌, ◌^◌, ◌≤◌, ◌<◌}
use native.Mathlib.Nat.{le_refl}
use native.Mathlib.Omega.{arith}
use lib.Dec.{T, leb, eqb}
use native.Mathlib.Decide.{dec_lt}
use borrow.Author.Tests.{ne_eqb, le-leb, lt-leb, ltb-true}
use lib.IntN.{ℤ, pos, negsuc, neg_ℤ, nat_abs}
use lib.Signed.{mag, lt_z, le_z, non_neg}
use mir.Syntax.{w32, w64}
use mir.Val.{Fits, SFits, of_z}

pub mag_nat_abs : (z : ℤ) → mag z ≤ nat_abs z
mag_nat_abs (pos n) = le_refl n
mag_nat_abs (negsuc n) = omega arith

pub nat_abs_mag : (z : ℤ) → nat_abs z ≤ suc (mag z)
nat_abs_mag (pos n) = omega arith
nat_abs_mag (negsuc n) = le_refl (suc n)

-- a number of 32 bits is 0 where its bits are
pub zero_bits : (z : ℤ) → SFits w32 z → eqb (of_z w32 z) 0 ≡ eqb (nat_abs z) 0
zero_bits (pos n) f = refl
zero_bits (negsuc n) f = ne_eqb (2 ^ 32 - suc n) 0 (λ e. omega (arith, f.sfits)) ∙ sym (ne_eqb (suc n) 0 (λ e. omega arith))

-- between −(n + 1) and n + 1
pub near_zero : (n : ℕ) (z : ℤ) → (le_z (negsuc n) z && le_z z (pos (suc n))) ≡ leb (nat_abs z) (suc n)
near_zero n (pos m) = refl
near_zero n (negsuc m) =
    elim (dec_lt n m) [
      | yes h ↦ rw (lt-leb m n h, lt-leb (suc m) (suc n) (omega arith))
      | no h ↦ rw (le-leb m n (omega arith), le-leb (suc m) (suc n) (omega arith))
    ]

pub nat_abs_zero : (z : ℤ) → nat_abs z ≡ 0 → z ≡ pos 0
nat_abs_zero (pos n) e = ap pos e
nat_abs_zero (negsuc n) e = absurd (omega arith)

pub nat_abs_neg : (a : ℤ) → nat_abs (neg_ℤ a) ≡ nat_abs a
nat_abs_neg (pos zero) = refl
nat_abs_neg (pos (suc n)) = refl
nat_abs_neg (negsuc n) = refl

pub abs_neg : (z : ℤ) → lt_z z (pos 0) ≡ true → neg_ℤ z ≡ pos (nat_abs z)
abs_neg (pos n) e = absurd (let h : n < 0 = ltb-true n 0 e in omega arith)
abs_neg (negsuc n) e = refl

pub abs-pos : (z : ℤ) → lt_z z (pos 0) ≡ false → z ≡ pos (nat_abs z)
abs-pos (pos n) e = refl
abs-pos (negsuc n) e = absurd (let h : ◌≡◌ {A = ℕ} 0 1 = cc in omega arith)

-- a number that is not negative
pub not_negative : (z : ℤ) → le_z (pos 0) z ≡ true → z ≡ pos (nat_abs z)
not_negative (pos n) e = refl
not_negative (negsuc n) e = absurd (let h : ◌≡◌ {A = ℕ} 0 1 = cc in omega arith)

pub is-not-negative : (z : ℤ) → lt_z z (pos 0) ≡ false → T (non_neg z)
is-not-negative (pos n) e = tt
is-not-negative (negsuc n) e = absurd (let h : ◌≡◌ {A = ℕ} 0 1 = cc in omega arith)

-- of a number of 32 bits, the size and the negation fit 64
pub size_fits : (z : ℤ) → SFits w32 z → Fits w64 (nat_abs z)
size_fits z f = record { fits = omega (arith, nat_abs_mag z, f.sfits) }

pub neg_fits : (z : ℤ) → SFits w32 z → SFits w64 (neg_ℤ z)
neg_fits z f = record { sfits = omega (arith, mag_nat_abs (neg_ℤ z), nat_abs_neg z, nat_abs_mag z, f.sfits) }
