-- Decimals, computed: with both sides brought to one count, and as rational numbers. Assumes nothing.
use mathlib.Core.Path.{◌≡◌, refl}
use Prim.Native.Nat.{ℕ}
use lib.IntN.{pos, negsuc}
use Rattle.rule.specs.Frames.{subtract, multiply, equal, less, at_most, more}
use Rattle.rule.specs.Tree.{Sum, literal, instance, reference, arithmetic, abs, Cond, relation}
use Rattle.verdict.specs.Found.{Found, present, pending, Given}
use Rattle.verdict.specs.Value.{value_c}
use Rattle.verdict.specs.Rational.{truth_q}
use Rattle.verdict.specs.declared.Truth.{Truth}
use Rattle.verdict.specs.declared.Truth.TheVariants.{True, False, Unknown}

-- a condition's value, both ways
abbrev Both : ℕ → Given → Cond → Truth → Type 0
Both k g c v = (value_c k g c ≡ v) × (truth_q k g c ≡ v)

-- t(a[i])
abbrev t : Sum
t = reference (record { event = 0; note = 0; factor = 1; offset = pos 0 })

-- instance 3, every reference found so
abbrev at3 : Found → Given
at3 f = record { instance = 3; found = λ r. f }

-- 12.5
abbrev allowance : Sum
allowance = literal 1 125

-- 12.50 = 12.5, whatever the scale
same_number : (k : ℕ) (g : Given) → Both k g (relation equal (literal 2 1250) allowance) True
same_number k g = (refl, refl)

-- t(a[i]) = 12.5 with scale 1, 2 and 6
scale_1 : Both 1 (at3 (present (pos 125))) (relation equal t allowance) True
scale_1 = (refl, refl)

scale_2 : Both 2 (at3 (present (pos 1250))) (relation equal t allowance) True
scale_2 = (refl, refl)

scale_6 : Both 6 (at3 (present (pos 12500000))) (relation equal t allowance) True
scale_6 = (refl, refl)

-- t(a[i]) > 12.5 with scale 0: 13 is, 12 is not
scale_0 : Both 0 (at3 (present (pos 13))) (relation more t allowance) True
scale_0 = (refl, refl)

scale_0_below : Both 0 (at3 (present (pos 12))) (relation more t allowance) False
scale_0_below = (refl, refl)

-- t(a[i]) <= 12.5 with scale 6, from both sides of the limit
limit : Both 6 (at3 (present (pos 12500000))) (relation at_most t allowance) True
limit = (refl, refl)

over-limit : Both 6 (at3 (present (pos 12500001))) (relation at_most t allowance) False
over-limit = (refl, refl)

-- t(a[i]) * t(a[i]) = 2.25 with scale 6: 12 decimals and 2
product : Both 6 (at3 (present (pos 1500000))) (relation equal (arithmetic multiply t t) (literal 2 225)) True
product = (refl, refl)

-- a number below 0: abs(t(a[i])) = 12.50 and t(a[i]) < 12.50 with scale 1
below-zero : Both 1 (at3 (present (negsuc 124))) (relation equal (abs t) (literal 2 1250)) True
below-zero = (refl, refl)

less_than : Both 1 (at3 (present (negsuc 124))) (relation less t (literal 2 1250)) True
less_than = (refl, refl)

-- i - 0.25 = 2.75
difference : (k : ℕ) (f : Found) → Both k (at3 f) (relation equal (arithmetic subtract instance (literal 2 25)) (literal 2 275)) True
difference k f = (refl, refl)

-- a reference that is not there yet
unknown : (k : ℕ) → Both k (at3 pending) (relation equal t allowance) Unknown
unknown k = (refl, refl)
