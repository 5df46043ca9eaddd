-- Where 18 leaves a tree that a text spells, its decimals are within their limits: none in a literal without the clause.
-- Assumes nothing.
use Rattle.std.proofs.lemmas.Bool.Decides.{nat_tests}
use mathlib.Core.Path.{◌≡◌, refl, sym, ◌∙◌}
use mathlib.Core.Option.{none, some}
use mathlib.Core.List.{List, [], ◌∷◌, append-nil}
use Prim.Native.Nat.{ℕ, ◌≤◌}
use native.Mathlib.Omega.{arith}
use borrow.Author.Tests.{ltb-false}
use Rattle.rule.specs.Limits.{decimal_limit}
use Rattle.rule.specs.Class.{digit, class_of, OfClass}
use Rattle.rule.specs.Token.{tokens}
use Rattle.rule.specs.Number.{number_value}
use Rattle.rule.specs.Grammar.{Cond, Rule, rule, yield, words}
use Rattle.rule.specs.Measure.{Sized, sized_by, numbers}
use Rattle.rule.specs.Memory.{value_at, decimals_at}
use Rattle.rule.specs.Spelling.{NumberOf, of_number, of_decimal, first_decimals, decimals, letters}
use Rattle.rule.specs.declared.parts.Place.{Place}
use Rattle.rule.specs.declared.parts.Limit.TheVariants.{OfClause, OfLiteral, OfFactor, OfOffset}
use Rattle.rule.proofs.FrameDrafts.{All, DecimalsFit}
use Rattle.rule.proofs.FrameMeanings.{most_decimals}
use Rattle.rule.proofs.GrammarTrees.{no_clause_has}
use Rattle.rule.proofs.TokenModes.{decimals-behind, no_decimals}
use Rattle.rule.proofs.SpellTokens.{numbers-tokens}
use Rattle.rule.proofs.SpellNumbers.{Few, all-few}

-- digits alone have no decimals
digits-whole : (bs : List ℕ) → OfClass digit bs → decimals bs ≡ 0
unfolding decimals class_of
digits-whole [] o = refl
digits-whole (b ∷ bs) o = grind (arith, nat_tests, digits-whole bs o.1)

pub most-six : (x : Rule) → most_decimals x ≤ decimal_limit
most-six (rule e es n ns none c) = omega arith
most-six (rule e es n ns (some p) c) = omega arith

module _ (text : List ℕ) where
  clause-fits : (p : Place) → Few text (sized_by OfClause p) → value_at text p ≤ decimal_limit
  unfolding number_value
  clause-fits p h = grind (arith, nat_tests)

  -- with the clause
  few-fit : (s : Sized) → Few text s → DecimalsFit (value_at text) (decimals_at text) decimal_limit s
  few-fit (sized_by OfClause p) h = clause-fits p h
  few-fit (sized_by OfLiteral p) h = ltb-false 6 (decimals (letters text p)) h
  few-fit (sized_by OfFactor p) h = tt
  few-fit (sized_by OfOffset p) h = tt

  all_fit : (l : List Sized) → All (Few text) l → All (DecimalsFit (value_at text) (decimals_at text) decimal_limit) l
  all_fit [] h = tt
  all_fit (s ∷ l) h = (few-fit s h.0, all_fit l h.1)

  -- without it: no token is a decimal
  module _ (e : Place) (es : List Place) (n : Place) (ns : List Place) (c : Cond) (y : yield (rule e es n ns none c) ≡ words (tokens text)) where
    whole-fit : (s : Sized) → Few text s → NumberOf text s → DecimalsFit (value_at text) (decimals_at text) 0 s
    whole-fit (sized_by OfClause p) h k = clause-fits p h
    whole-fit (sized_by OfLiteral p) h (of_number t o) = let q = digits-whole (letters text p) o in omega arith
    whole-fit (sized_by OfLiteral p) h (of_decimal t o) =
        absurd
        (no_decimals (tokens text) (decimals-behind text) (λ u i k. no_clause_has e es n ns c (tokens text) [] u i k (y ∙ sym (append-nil (words (tokens text)))))
        t.token t.listed t.kind)
    whole-fit (sized_by OfFactor p) h k = tt
    whole-fit (sized_by OfOffset p) h k = tt

    whole-all : (l : List Sized) → All (Few text) l → All (NumberOf text) l → All (DecimalsFit (value_at text) (decimals_at text) 0) l
    whole-all [] h k = tt
    whole-all (s ∷ l) h k = (whole-fit s h.0 k.0, whole-all l h.1 k.1)

  pub decimals-fit : (x : Rule) → yield x ≡ words (tokens text) → first_decimals text (numbers x) ≡ none → All (DecimalsFit (value_at text) (decimals_at text) (most_decimals x)) (numbers x)
  decimals-fit (rule e es n ns none c) y f = whole-all e es n ns c y (numbers (rule e es n ns none c)) (all-few text (numbers (rule e es n ns none c)) f) (numbers-tokens text (rule e es n ns none c) y)
  decimals-fit (rule e es n ns (some p) c) y f = all_fit (numbers (rule e es n ns (some p) c)) (all-few text (numbers (rule e es n ns (some p) c)) f)
