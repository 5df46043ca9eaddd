-- Laws of `fraction`: a point and digits after a run of digits, as long as can be. Assumes nothing.
use mathlib.Core.Path.{◌≡◌, refl, ap}
use mathlib.Core.Logic.{◌⊎◌, inl, inr}
use mathlib.Core.Bool.{Bool, true, false, ◌&&◌, cond}
use mathlib.Core.List.{List, [], ◌∷◌}
use Prim.Native.Nat.{ℕ, zero, suc, ◌+◌, ◌≤◌, ◌<◌}
use native.Mathlib.Omega.{arith}
use lib.Dec.{eqb, leb}
use lib.ListN.{length, drop, get_or, length-drop}
use Rattle.std.proofs.lemmas.Bool.Decides.{nat_tests}
use Rattle.rule.specs.Class.{digit, point, class_of, span}
use Rattle.rule.specs.Token.{fraction, fraction_of}
use Rattle.rule.proofs.TokenSpans.{rest, first_rest, span_le, span_class, span-stops}

fraction_le : (l : List ℕ) → fraction l ≤ length l
unfolding fraction
fraction_le [] = omega arith
fraction_le (b ∷ bs) = grind (arith, span_le)

pub fraction_of_le : (points : Bool) (bs : List ℕ) → span digit bs + fraction_of points bs ≤ length bs
fraction_of_le true bs = omega (arith, fraction_le (drop (span digit bs) bs), length-drop (span digit bs) bs, span_le digit bs)
fraction_of_le false bs = omega (arith, span_le digit bs)

-- its first byte is a point with a digit after it, and the others are digits
pub fraction_told : (l : List ℕ) (j : ℕ) → j < fraction l
    → ((j ≡ 0) × (get_or l 0 0 ≡ point) × (class_of (get_or l 1 0) ≡ digit)) ⊎ ((0 < j) × (class_of (get_or l j 0) ≡ digit))
unfolding fraction
fraction_told [] j h = absurd (omega arith)
fraction_told (b ∷ bs) zero h = inl (refl, grind (arith, nat_tests), grind (arith, nat_tests, span_class digit bs 0))
fraction_told (b ∷ bs) (suc j) h = inr (omega arith, grind (arith, nat_tests, span_class digit bs j))

-- no digit follows it
pub fraction-stops : (l : List ℕ) → 0 < fraction l → fraction l < length l → class_of (get_or l (fraction l) 0) ≡ digit → ⊥
unfolding fraction
fraction-stops [] k h = absurd (omega arith)
fraction-stops (b ∷ bs) k h = grind (arith, span-stops digit bs)

nothing : (l : List ℕ) → class_of (get_or l 0 0) ≡ digit → span digit l ≡ 0 → ⊥
unfolding class_of
nothing [] e n = grind (arith, nat_tests)
nothing (x ∷ l) e n = span-stops digit (x ∷ l) (grind arith) (grind arith)

-- where there is none, no digit follows a point
pub fraction-none : (l : List ℕ) → fraction l ≡ 0 → get_or l 0 0 ≡ point → class_of (get_or l 1 0) ≡ digit → ⊥
unfolding fraction
fraction-none [] z p d = omega arith
fraction-none (b ∷ bs) z p d = grind (arith, nat_tests, nothing bs)

-- ---- for the code, which takes the first byte and the rest
pub fraction-none_left : (bs : List ℕ) → length bs < 1 → fraction bs ≡ 0
unfolding fraction
fraction-none_left [] h = refl
fraction-none_left (b ∷ bs) h = absurd (omega arith)

pub fraction-first : (bs : List ℕ) → 1 ≤ length bs → fraction bs ≡ cond (eqb (get_or bs 0 0) point && leb 1 (span digit (rest bs))) (suc (span digit (rest bs))) 0
unfolding fraction
fraction-first bs h = ap fraction (first_rest bs h)

pub ruleset fractions = (fraction-none_left, fraction-first, nat_tests)
