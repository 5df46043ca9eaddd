-- Both sides of a relation multiplied by a number above 0: every relation stays as it was. Assumes nothing.
use mathlib.Core.Path.{◌≡◌, sym, ap, ap₂, ◌∙◌}
use mathlib.Core.Bool.{not}
use Prim.Native.Nat.{ℕ, zero, suc, ◌+◌, ◌*◌, ◌≤◌, ◌<◌}
use native.Mathlib.Nat.{mul-lt-mul_of_pos_right}
use native.Mathlib.Omega.{arith}
use native.Mathlib.Decide.{dec_lt, ℕ_discrete}
use lib.Dec.{ltb, leb, eqb}
use borrow.Author.Tests.{lt-ltb, le-ltb, le-leb, lt-leb, eq-eqb, ne_eqb}
use lib.IntN.{ℤ, pos, negsuc, neg_ℤ}
use lib.Signed.{lt_z, le_z}
use Rattle.rule.specs.Frames.{Relation, equal, unequal, less, at_most, more, at_least}
use Rattle.verdict.specs.Value.{times_z, eq_z, holds}

-- ---- tests of numbers that stand in the same order
module _ (a b p q : ℕ) (below : a < b → p < q) (above : b < a → q < p) (same : a ≡ b → p ≡ q) where
  at_least_lem : b ≤ a → q ≤ p
  at_least_lem h = elim (dec_lt b a) [ yes k ↦ omega (arith, above k) | no k ↦ omega (arith, same (omega arith)) ]

  at_most_lem : a ≤ b → p ≤ q
  at_most_lem h = elim (dec_lt a b) [ yes k ↦ omega (arith, below k) | no k ↦ omega (arith, same (omega arith)) ]

  lt_kept : ltb p q ≡ ltb a b
  lt_kept =
      elim (dec_lt a b) [
        | yes h ↦ lt-ltb p q (below h) ∙ sym (lt-ltb a b h)
        | no h ↦ le-ltb p q (at_least_lem (omega arith)) ∙ sym (le-ltb a b (omega arith))
      ]

  le_kept : leb p q ≡ leb a b
  le_kept =
      elim (dec_lt b a) [
        | yes h ↦ lt-leb p q (above h) ∙ sym (lt-leb a b h)
        | no h ↦ le-leb p q (at_most_lem (omega arith)) ∙ sym (le-leb a b (omega arith))
      ]

  differ : (a ≡ b → ⊥) → p ≡ q → ⊥
  differ h e = elim (dec_lt a b) [ yes k ↦ omega (arith, below k) | no k ↦ omega (arith, above (omega arith)) ]

  eq_kept : eqb p q ≡ eqb a b
  eq_kept =
      elim (ℕ_discrete a b) [
        | yes h ↦ eq-eqb p q (same h) ∙ sym (eq-eqb a b h)
        | no h ↦ ne_eqb p q (differ h) ∙ sym (ne_eqb a b h)
      ]

-- ---- natural numbers n + 1 times, with something added
module _ (n c : ℕ) where
  abbrev grown : ℕ → ℕ
  grown a = a * suc n + c

  grown-below : (a b : ℕ) → a < b → grown a < grown b
  grown-below a b h = omega (arith, mul-lt-mul_of_pos_right {m = a} {n = b} {k = suc n} h (omega arith))

  lt_grown : (a b : ℕ) → ltb (grown a) (grown b) ≡ ltb a b
  lt_grown a b = lt_kept a b (grown a) (grown b) (grown-below a b) (grown-below b a) (ap grown)

  le_grown : (a b : ℕ) → leb (grown a) (grown b) ≡ leb a b
  le_grown a b = le_kept a b (grown a) (grown b) (grown-below a b) (grown-below b a) (ap grown)

  eq_grown : (a b : ℕ) → eqb (grown a) (grown b) ≡ eqb a b
  eq_grown a b = eq_kept a b (grown a) (grown b) (grown-below a b) (grown-below b a) (ap grown)

-- ---- integers n + 1 times
module _ (n : ℕ) where
  times-pos : (a : ℕ) → times_z (pos a) (suc n) ≡ pos (grown n 0 a)
  times-pos a = ap pos (omega arith)

  times_neg : (a : ℕ) → times_z (negsuc a) (suc n) ≡ negsuc (grown n n a)
  times_neg a = ap (λ (m : ℕ). neg_ℤ (pos m)) (let e : suc a * suc n ≡ suc (grown n n a) = omega arith in e)

  lt_scaled : (a b : ℤ) → lt_z (times_z a (suc n)) (times_z b (suc n)) ≡ lt_z a b
  lt_scaled (pos a) (pos b) = ap₂ lt_z (times-pos a) (times-pos b) ∙ lt_grown n 0 a b
  lt_scaled (pos a) (negsuc b) = ap₂ lt_z (times-pos a) (times_neg b)
  lt_scaled (negsuc a) (pos b) = ap₂ lt_z (times_neg a) (times-pos b)
  lt_scaled (negsuc a) (negsuc b) = ap₂ lt_z (times_neg a) (times_neg b) ∙ lt_grown n n b a

  le_scaled : (a b : ℤ) → le_z (times_z a (suc n)) (times_z b (suc n)) ≡ le_z a b
  le_scaled (pos a) (pos b) = ap₂ le_z (times-pos a) (times-pos b) ∙ le_grown n 0 a b
  le_scaled (pos a) (negsuc b) = ap₂ le_z (times-pos a) (times_neg b)
  le_scaled (negsuc a) (pos b) = ap₂ le_z (times_neg a) (times-pos b)
  le_scaled (negsuc a) (negsuc b) = ap₂ le_z (times_neg a) (times_neg b) ∙ le_grown n n b a

  eq_scaled : (a b : ℤ) → eq_z (times_z a (suc n)) (times_z b (suc n)) ≡ eq_z a b
  eq_scaled (pos a) (pos b) = ap₂ eq_z (times-pos a) (times-pos b) ∙ eq_grown n 0 a b
  eq_scaled (pos a) (negsuc b) = ap₂ eq_z (times-pos a) (times_neg b)
  eq_scaled (negsuc a) (pos b) = ap₂ eq_z (times_neg a) (times-pos b)
  eq_scaled (negsuc a) (negsuc b) = ap₂ eq_z (times_neg a) (times_neg b) ∙ eq_grown n n a b

-- by any number above 0
pub holds-scaled : (r : Relation) (a b : ℤ) (n : ℕ) → 0 < n → holds r (times_z a n) (times_z b n) ≡ holds r a b
holds-scaled r a b zero h = absurd (omega arith)
holds-scaled equal a b (suc n) h = eq_scaled n a b
holds-scaled unequal a b (suc n) h = ap not (eq_scaled n a b)
holds-scaled less a b (suc n) h = lt_scaled n a b
holds-scaled at_most a b (suc n) h = le_scaled n a b
holds-scaled more a b (suc n) h = lt_scaled n b a
holds-scaled at_least a b (suc n) h = le_scaled n b a
