-- Laws of `decimal`: capping a value on the way does not change the capped value of the whole; and of `decimals`. Assumes nothing.
use mathlib.Core.Path.{◌≡◌, refl, sym, ap, ◌∙◌}
use mathlib.Core.Bool.{Bool, true, false, cond}
use mathlib.Core.Logic.{◌↔◌}
use mathlib.Core.List.{List, [], ◌∷◌}
use Prim.Native.Nat.{ℕ, ◌+◌, ◌-◌, ◌*◌, ◌≤◌, ◌<◌, min}
use native.Mathlib.Omega.{arith}
use lib.Dec.{eqb}
use lib.ListN.{length}
use Rattle.std.specs.List.{fold, position_or_len}
use Rattle.rule.specs.Class.{point}
use Rattle.rule.specs.Number.{most, number_value}
use Rattle.rule.specs.Spelling.{decimal_from, decimal, decimals}

cap_from : (w : ℕ) (bs : List ℕ) → min most (decimal_from (min most w) bs) ≡ min most (decimal_from w bs)
unfolding decimal_from
cap_from w [] = omega arith
cap_from w (b ∷ bs) = go (λ v. cap_from v bs) (eqb b point)
  where
    go : ((v : ℕ) → min most (decimal_from (min most v) bs) ≡ min most (decimal_from v bs)) → (t : Bool)
        → min most (cond t (decimal_from (min most w) bs) (decimal_from (min most w * 10 + (b - 48)) bs)) ≡ min most (cond t (decimal_from w bs) (decimal_from (w * 10 + (b - 48)) bs))
    go ih true = ih w
    go ih false =
        let x = min most w * 10 + (b - 48) in
        let y = w * 10 + (b - 48) in
        let e : min most x ≡ min most y = omega arith in
        sym (ih x) ∙ ap (λ (v : ℕ). min most (decimal_from v bs)) e ∙ ih y

-- the value with one digit more, capped; a point is passed over
abbrev pub with_digit : ℕ → ℕ → ℕ
with_digit v b = cond (eqb b point) v (min most (v * 10 + (b - 48)))

-- digit by digit, each value capped
pub digits_told : (v : ℕ) (ds : List ℕ) → v ≤ most → fold with_digit v ds ≡ min most (decimal_from v ds)
unfolding decimal_from
digits_told v [] h = omega arith
digits_told v (b ∷ bs) h = grind (arith, digits_told v bs h, digits_told (min most (v * 10 + (b - 48))) bs, cap_from (v * 10 + (b - 48)) bs)

-- a value at or below a limit that `most` exceeds is told exactly, and one above it stays above
pub number_decides : (ds : List ℕ) (limit : ℕ) → limit < most → (number_value ds ≤ limit) ↔ (decimal ds ≤ limit)
unfolding number_value
number_decides ds limit h = (λ l. omega arith, λ l. omega arith)

pub number-exact : (ds : List ℕ) → decimal ds ≤ most → number_value ds ≡ decimal ds
unfolding number_value
number-exact ds l = omega arith

-- the decimals stand behind the first point
pub decimals_told : (ds : List ℕ) → decimals ds ≡ length ds - position_or_len (λ b. eqb b point) ds - 1
unfolding decimals
decimals_told [] = refl
decimals_told (b ∷ bs) = grind (arith, decimals_told bs)
