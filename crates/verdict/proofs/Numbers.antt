-- Laws of the integers: the size of a sum and of a product, what fits 64 bits, what the machine compares. Assumes nothing.
use mathlib.Core.Path.{◌≡◌, refl, sym, ap}
use mathlib.Core.Bool.{Bool, true, false, cond}
use Prim.Native.Nat.{ℕ, zero, suc, ◌+◌, ◌-◌, ◌*◌, ◌^◌, ◌≤◌, ◌<◌}
use native.Mathlib.Nat.{le_refl, mul-le-mul, mul-le-mul_right, zero-mul, pow-le-pow_right}
use native.Mathlib.Omega.{arith}
use lib.Dec.{ltb}
use lib.IntN.{ℤ, pos, negsuc, neg_ℤ, nat_abs, sub_ℕ, ◌+ℤ◌, ◌-ℤ◌, ◌*ℤ◌}
use mir.Syntax.{w64}
use mir.Val.{SFits}
use Rattle.numbers.proofs.Ints.{mag_nat_abs, nat_abs_neg, nat_abs_zero}
use Rattle.rule.specs.Limits.{magnitude_limit}

nat_abs_mul : (a b : ℤ) → nat_abs (a *ℤ b) ≡ nat_abs a * nat_abs b
nat_abs_mul (pos a) (pos b) = refl
nat_abs_mul (pos a) (negsuc b) = nat_abs_neg (pos (a * suc b))
nat_abs_mul (negsuc a) (pos b) = nat_abs_neg (pos (suc a * b))
nat_abs_mul (negsuc a) (negsuc b) = refl

pub nat_abs_times : (a : ℤ) (n : ℕ) → nat_abs (a *ℤ pos n) ≡ nat_abs a * n
nat_abs_times a n = nat_abs_mul a (pos n)

nat_abs_cond : (t : Bool) (x y m : ℕ) → suc x ≤ m → y ≤ m → nat_abs (cond t (negsuc x) (pos y)) ≤ m
nat_abs_cond true x y m h k = h
nat_abs_cond false x y m h k = k

nat_abs_sub : (a b : ℕ) → nat_abs (sub_ℕ a (suc b)) ≤ a + suc b
nat_abs_sub a b = nat_abs_cond (ltb a (suc b)) (suc b - suc a) (a - suc b) (a + suc b) (omega arith) (omega arith)

pub nat_abs_add : (a b : ℤ) → nat_abs (a +ℤ b) ≤ nat_abs a + nat_abs b
nat_abs_add (pos a) (pos b) = le_refl (a + b)
nat_abs_add (pos a) (negsuc b) = nat_abs_sub a b
nat_abs_add (negsuc a) (pos b) = let h : nat_abs (sub_ℕ b (suc a)) ≤ b + suc a = nat_abs_sub b a in omega arith
nat_abs_add (negsuc a) (negsuc b) = omega arith

-- ---- results within bounds of their operands
module _ (a b : ℤ) (m n : ℕ) (h : nat_abs a ≤ m) (k : nat_abs b ≤ n) where
  pub add-within : nat_abs (a +ℤ b) ≤ m + n
  add-within = omega (arith, nat_abs_add a b)

  pub sub_within : nat_abs (a -ℤ b) ≤ m + n
  sub_within = omega (arith, nat_abs_add a (neg_ℤ b), nat_abs_neg b)

  pub mul_within : nat_abs (a *ℤ b) ≤ m * n
  mul_within = rw (nat_abs_mul a b) (mul-le-mul h k)

pub small-fits : (z : ℤ) → nat_abs z ≤ magnitude_limit → SFits w64 z
small-fits z h = record { sfits = omega (arith, mag_nat_abs z) }

-- ---- powers of ten
pub ten-fits : (e : ℕ) → e ≤ 18 → 10 ^ e ≤ 10 ^ 18
ten-fits e h = pow-le-pow_right (omega arith) h

-- a product that fits has no factor but 0 beside one that does not
pub nothing-times : (a : ℤ) (n : ℕ) → magnitude_limit < n → nat_abs (a *ℤ pos n) ≤ magnitude_limit → pos 0 ≡ a *ℤ pos n
nothing-times a n h f =
    let z : a ≡ pos 0 = nat_abs_zero a (none-by (nat_abs a) (rw (nat_abs_times a n) at f)) in
    rw z (sym (ap pos (zero-mul n)))
  where
    none-by : (m : ℕ) → m * n ≤ magnitude_limit → m ≡ 0
    none-by zero g = refl
    none-by (suc m) g = let p : 1 * n ≤ suc m * n = mul-le-mul_right n (omega arith) in absurd (omega arith)
