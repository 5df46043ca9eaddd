-- The first number beyond its limit and the first of too many decimals, by the capped value and by the decimal value. Assumes
-- nothing.
use Rattle.std.proofs.lemmas.Bool.Decides.{nat_tests}
use mathlib.Core.Path.{◌≡◌, refl}
use mathlib.Core.Bool.{Bool, false}
use mathlib.Core.List.{List, [], ◌∷◌}
use mathlib.Core.Option.{none}
use Prim.Native.Nat.{ℕ, ◌<◌}
use native.Mathlib.Omega.{arith}
use lib.Dec.{eqb, ltb}
use Rattle.rule.specs.Number.{most, number_value}
use Rattle.rule.specs.Measure.{Sized, sized_by}
use Rattle.rule.proofs.ReaderRefusals.{first-number, first-decimals}
use Rattle.rule.specs.Memory.{code_at, value_at, decimals_at, many-decimals}
use Rattle.rule.specs.declared.parts.Place.{Place}
use Rattle.rule.specs.declared.parts.Limit.{Limit}
use Rattle.rule.specs.declared.parts.Limit.TheVariants.{OfClause, OfLiteral, OfFactor, OfOffset}
use Rattle.rule.proofs.TokenDecimals.{number-exact}
use Rattle.rule.specs.Spelling.{number_at, first_number, many_decimals, first_decimals, decimal, decimals, beyond, letters}
use Rattle.rule.proofs.FrameDrafts.{All}

over-same : (ds : List ℕ) (limit : ℕ) → limit < most → ltb limit (number_value ds) ≡ ltb limit (decimal ds)
unfolding number_value
over-same ds limit h = grind (arith, nat_tests)

zero_same : (ds : List ℕ) → eqb (number_value ds) 0 ≡ eqb (decimal ds) 0
unfolding number_value
zero_same ds = grind (arith, nat_tests)

-- the capped value decides each limit
pub beyond-same : (l : Limit) (ds : List ℕ) → beyond l (number_value ds) ≡ beyond l (decimal ds)
beyond-same OfClause ds = refl
beyond-same OfLiteral ds = over-same ds 2147483647 (omega arith)
beyond-same OfFactor ds = rw (zero_same ds, over-same ds 9 (omega arith))
beyond-same OfOffset ds = over-same ds 9999 (omega arith)

-- a value within its limits is not capped
abbrev many : Limit → List ℕ → Bool
many OfClause ds = ltb 6 (decimal ds)
many OfLiteral ds = ltb 6 (decimals ds)
many OfFactor ds = false
many OfOffset ds = false

within-exact : (l : Limit) (ds : List ℕ) → beyond l (decimal ds) ≡ false → many l ds ≡ false → number_value ds ≡ decimal ds
within-exact OfClause ds e m = grind (arith, nat_tests, number-exact ds)
within-exact OfLiteral ds e m = grind (arith, nat_tests, number-exact ds)
within-exact OfFactor ds e m = grind (arith, nat_tests, number-exact ds)
within-exact OfOffset ds e m = grind (arith, nat_tests, number-exact ds)

module _ (text : List ℕ) where
  -- 5: the same first number
  pub first-number-same : (xs : List Sized) → first-number (code_at text) (value_at text) (decimals_at text) xs ≡ first_number text xs
  first-number-same [] = refl
  first-number-same (sized_by l p ∷ xs) = rw (beyond-same l (letters text p), first-number-same xs)

  -- 18: the same first decimals
  many-same : (l : Limit) (p : Place) → many-decimals (code_at text) (value_at text) (decimals_at text) (sized_by l p) ≡ many_decimals text (sized_by l p)
  many-same OfClause p = over-same (letters text p) 6 (omega arith)
  many-same OfLiteral p = refl
  many-same OfFactor p = refl
  many-same OfOffset p = refl

  pub first-decimals-same : (xs : List Sized) → first-decimals (code_at text) (value_at text) (decimals_at text) xs ≡ first_decimals text xs
  first-decimals-same [] = refl
  first-decimals-same (sized_by l p ∷ xs) = rw (many-same l p, first-decimals-same xs)

  -- where none is bad, none is
  abbrev pub Few : Sized → Type 0
  Few s = many_decimals text s ≡ false

  pub all-few : (xs : List Sized) → first_decimals text xs ≡ none → All Few xs
  all-few [] e = tt
  all-few (s ∷ xs) e = grind (arith, all-few xs)

  abbrev pub Exact : Sized → Type 0
  Exact s = value_at text (number_at s) ≡ decimal (letters text (number_at s))

  many_is : (l : Limit) (p : Place) → Few (sized_by l p) → many l (letters text p) ≡ false
  many_is OfClause p h = h
  many_is OfLiteral p h = h
  many_is OfFactor p h = refl
  many_is OfOffset p h = refl

  -- where none is bad, each value is the decimal one
  pub value_same : (xs : List Sized) → first_number text xs ≡ none → All Few xs → All Exact xs
  value_same [] e h = tt
  value_same (sized_by l p ∷ xs) e h = grind (arith, within-exact l (letters text p), many_is l p h.0, value_same xs)
