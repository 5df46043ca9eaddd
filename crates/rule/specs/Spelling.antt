-- Refusals 4, 5 and 18 by letters and by decimal value, and the number of a name by letters: the words of document 01, "What is
-- turned down" and "From rule text to frames", and of point 1 of document 02. proofs/SpellSame: the numbers of names and the
-- capped values that the reader compares say the same. Assumes nothing: definitions.
use Rattle.std.specs.Prelude.{ℕ, suc, ◌+◌, ◌-◌, ◌*◌, ◌≡◌, Bool, true, false, cond, length, take, drop, ltb, leb}
use Rattle.std.specs.Prelude.{eqb}
use Rattle.std.proofs.Math.Option.{Option, none, some}
use mathlib.Core.List.{List, [], ◌∷◌, ◌++◌, Memᴰ}
use Rattle.rule.specs.ReadLimits.{name_letters}
use Rattle.rule.specs.Class.{digit, point, OfClass}
use Rattle.rule.specs.Token.{number_kind, decimal_kind, same, tokens, PointBetween}
use Rattle.rule.specs.Grammar.{Rule, place}
use Rattle.rule.specs.Measure.{Named, declared, used, names, Sized, sized_by}
use Rattle.rule.specs.Limits.{event_limit, note_limit, factor_limit, offset_limit, literal_limit, decimal_limit}
use Rattle.rule.specs.declared.Token.{Token}
use Rattle.rule.specs.declared.parts.Place.{Place}
use Rattle.rule.specs.declared.parts.Role.{Role}
use Rattle.rule.specs.declared.parts.Role.TheVariants.{Event, Note}
use Rattle.rule.specs.declared.parts.Limit.{Limit}
use Rattle.rule.specs.declared.parts.Limit.TheVariants.{OfClause, OfLiteral, OfFactor, OfOffset}

-- the bytes at a place of the text
abbrev pub letters : List ℕ → Place → List ℕ
letters text p = take (p.end - p.start) (drop p.start text)

-- the decimal value of a run of digits, v being the value of those before; "its digits without the point"
unfoldable pub decimal_from : ℕ → List ℕ → ℕ
decimal_from v [] = v
decimal_from v (b ∷ bs) = cond (eqb b point) (decimal_from v bs) (decimal_from (v * 10 + (b - 48)) bs)

-- the decimal value of a number
unfoldable pub decimal : List ℕ → ℕ
decimal bs = decimal_from 0 bs

-- "a point and 1 to 6 decimals": how many digits stand after the point of a literal, 0 without one
unfoldable pub decimals : List ℕ → ℕ
decimals [] = 0
decimals (b ∷ bs) = cond (eqb b point) (length bs) (decimals bs)

-- "Events and notes are numbered from 0 as declared, at most 8 and 4"
abbrev pub room : Role → ℕ
room Event = event_limit
room Note = note_limit

-- "The factor of i is 1 to 9 .., the offset −9,999 to 9,999, a literal at most 2,147,483,647": beyond it; 18 limits the clause
abbrev pub beyond : Limit → ℕ → Bool
beyond OfClause v = false
beyond OfLiteral v = ltb literal_limit v
beyond OfFactor v = cond (eqb v 0) true (ltb factor_limit v)
beyond OfOffset v = ltb offset_limit v

-- "in its list", "in its role": one role, or two
abbrev pub same_role : Role → Role → Bool
same_role Event Event = true
same_role Event Note = false
same_role Note Event = false
same_role Note Note = true

-- p is the place of a token of the text, of kind k
pub record TokenOf (text : List ℕ) (k : ℕ) (p : Place) : Type 0 where
  pub token : Token
  pub listed : Memᴰ token (tokens text)
  pub kind : token.kind ≡ k
  pub placed : place token ≡ p

-- a number of a tree, as the text has it: a number, or "only a literal" a decimal
pub data NumberOf (text : List ℕ) : Sized → Type 0 where
  of_number : {l : Limit} {p : Place} → TokenOf text number_kind p → OfClass digit (letters text p)
      → NumberOf text (sized_by l p)
  of_decimal : {p : Place} → TokenOf text decimal_kind p → PointBetween (letters text p)
      → NumberOf text (sized_by OfLiteral p)

-- where a name stands
abbrev pub name_at : Named → Place
name_at (declared r p) = p
name_at (used r p) = p

-- where a number stands
abbrev pub number_at : Sized → Place
number_at (sized_by l p) = p

-- a word is one of a list of words
abbrev pub among_words : List ℕ → List (List ℕ) → Bool
among_words w [] = false
among_words w (v ∷ vs) = cond (same w v) true (among_words w vs)

-- "numbered from 0 as declared": how many words stand before the first that is w
abbrev pub number_in : List ℕ → List (List ℕ) → ℕ
number_in w [] = 0
number_in w (v ∷ vs) = cond (same w v) 0 (suc (number_in w vs))

module _ (text : List ℕ) where
  -- the words declared in a role, of the names that stand in the list
  abbrev pub words_of : Role → List Named → List (List ℕ)
  words_of r [] = []
  words_of r (declared q p ∷ l) = cond (same_role r q) (letters text p ∷ words_of r l) (words_of r l)
  words_of r (used q p ∷ l) = words_of r l

  -- "a name over 12 letters"
  abbrev pub long_at : Place → Bool
  long_at p = ltb name_letters (length (letters text p))

  -- 4: "a name over 12 letters, twice in its list, a 9th event, a 5th note, or undeclared in its role", after the names before it
  abbrev pub bad_name : List Named → Named → Bool
  bad_name before (declared r p) =
      cond (long_at p) true
      (cond (among_words (letters text p) (words_of r before)) true (leb (room r) (length (words_of r before))))
  bad_name before (used r p) = cond (long_at p) true (cond (among_words (letters text p) (words_of r before)) false true)

  -- "place the first such name"
  abbrev pub first_name : List Named → List Named → Option Place
  first_name before [] = none
  first_name before (x ∷ xs) = cond (bad_name before x) (some (name_at x)) (first_name (before ++ x ∷ []) xs)

  -- 5: "a number beyond its limit", by its decimal value
  abbrev pub bad_number : Sized → Bool
  bad_number (sized_by l p) = beyond l (decimal (letters text p))

  -- "place the first"
  abbrev pub first_number : List Sized → Option Place
  first_number [] = none
  first_number (s ∷ xs) = cond (bad_number s) (some (number_at s)) (first_number xs)

  -- 18: "more than 6 decimals in the clause or in a literal"
  abbrev pub many_decimals : Sized → Bool
  many_decimals (sized_by OfClause p) = ltb decimal_limit (decimal (letters text p))
  many_decimals (sized_by OfLiteral p) = ltb decimal_limit (decimals (letters text p))
  many_decimals (sized_by OfFactor p) = false
  many_decimals (sized_by OfOffset p) = false

  -- "place the first"
  abbrev pub first_decimals : List Sized → Option Place
  first_decimals [] = none
  first_decimals (s ∷ xs) = cond (many_decimals s) (some (number_at s)) (first_decimals xs)

  -- "Events and notes are numbered from 0 as declared": the number of the name at p, of those that the tree declares in the role
  abbrev pub number_of_name : Role → Rule → Place → ℕ
  number_of_name r x p = number_in (letters text p) (words_of r (names x))
