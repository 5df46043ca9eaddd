-- Names stand at name tokens and are letters, numbers stand at number tokens and are digits, and literals at decimals too. Assumes
-- nothing.
use mathlib.Core.Path.{◌≡◌, ap, sym, ◌∙◌, subst}
use mathlib.Core.Logic.{inl, inr}
use mathlib.Core.List.{List, [], ◌∷◌, Memᴰ}
use Prim.Native.Nat.{ℕ}
use native.Mathlib.Omega.{arith}
use Rattle.rule.specs.Class.{digit, Letters, OfClass}
use Rattle.rule.specs.Token.{name_kind, number_kind, decimal_kind, takes_points, spelling, tokens, PointBetween}
use Rattle.rule.specs.Grammar.{place, words, Rule, yield}
use Rattle.rule.specs.Measure.{Named, declared, used, names, Sized, sized_by, numbers}
use Rattle.rule.specs.Machine.{Act, declare, uses, sized, enter, out, start}
use Rattle.rule.specs.declared.Token.{Token}
use Rattle.rule.specs.declared.parts.Place.{Place}
use Rattle.rule.specs.declared.parts.Limit.{Limit}
use Rattle.rule.specs.declared.parts.Limit.TheVariants.{OfClause, OfLiteral, OfFactor, OfOffset}
use Rattle.rule.proofs.TokenModes.{found, as_plain, found-letters, found-digits}
use Rattle.rule.proofs.TokenRuns as runs
use Rattle.rule.proofs.TokenRuns.{decimal-digits}
use Rattle.rule.specs.Spelling.{TokenOf, NumberOf, of_number, of_decimal, name_at, letters}
use Rattle.rule.proofs.FrameDrafts.{All, all_join}
use Rattle.rule.proofs.SpellLists.{all_map, all_own}
use Rattle.rule.proofs.GrammarMeasures.{note-name, note-number, names-read, numbers-read}
use Rattle.rule.proofs.GrammarRules.{taken}
use Rattle.rule.proofs.GrammarKeeps.{Numeral, At, Holds, Keeper, run-keeps}

module _ (text : List ℕ) where
  -- a name token's bytes are letters, a number token's digits, a decimal's digits, a point and digits
  pub name-letters : (p : Place) → TokenOf text name_kind p → Letters (letters text p)
  name-letters p q =
      let k : q.token.kind ≡ name_kind = q.kind in
      subst (λ (z : Place). Letters (letters text z)) q.placed (runs.letters (spelling text q.token) (found-letters (found text q.token q.listed) (omega arith, omega arith, λ n. omega arith)))

  pub number-of-digits : (p : Place) → TokenOf text number_kind p → OfClass digit (letters text p)
  number-of-digits p q =
      subst (λ (z : Place). OfClass digit (letters text z)) q.placed (found-digits (found text q.token q.listed) q.kind)

  pub decimal-of-digits : (p : Place) → TokenOf text decimal_kind p → PointBetween (letters text p)
  decimal-of-digits p q =
      let f = found text q.token q.listed in
      let e = as_plain f (λ s. let k = q.kind in omega arith) in
      subst (λ (z : Place). PointBetween (letters text z)) (ap place (sym e) ∙ q.placed) (decimal-digits (takes_points f.mode) text f.at (sym (ap (λ (u : Token). u.kind) e) ∙ q.kind)).1

  -- the place of a name, of a number
  abbrev Of_name : Named → Type 0
  Of_name n = TokenOf text name_kind (name_at n)

  abbrev Of_number : Sized → Type 0
  Of_number n = NumberOf text n

  -- a number that stands at a token which it may be
  number_at : (l : Limit) (p : Place) (t : Token) → Memᴰ t (tokens text) → Numeral l t.kind → p ≡ place t → NumberOf text (sized_by l p)
  number_at OfClause p t i k e = let q : TokenOf text number_kind p = record { token = t; listed = i; kind = k; placed = sym e } in of_number q (number-of-digits p q)
  number_at OfLiteral p t i (inl k) e = let q : TokenOf text number_kind p = record { token = t; listed = i; kind = k; placed = sym e } in of_number q (number-of-digits p q)
  number_at OfLiteral p t i (inr k) e = let q : TokenOf text decimal_kind p = record { token = t; listed = i; kind = k; placed = sym e } in of_decimal q (decimal-of-digits p q)
  number_at OfFactor p t i k e = let q : TokenOf text number_kind p = record { token = t; listed = i; kind = k; placed = sym e } in of_number q (number-of-digits p q)
  number_at OfOffset p t i k e = let q : TokenOf text number_kind p = record { token = t; listed = i; kind = k; placed = sym e } in of_number q (number-of-digits p q)

  module _ (x : Rule) (y : yield x ≡ words (tokens text)) where
    -- a tree's names stand at name tokens, its numbers at numbers and decimals: so they do after each token that the machine takes
    pub names-tokens : All Of_name (names x)
    names-tokens = subst (All Of_name) (names-read x) (subst (Holds (List Named) note-name (All Of_name) (λ p. Unit)) (taken (List Named) note-name 0 [] x (tokens text) y)
        (run-keeps (List Named) note-name (All Of_name) 0 (λ p. Unit) tt (λ f l h. h) (tokens text) (all_map _ _ (tokens text) keeper (all_own (tokens text))) start [] tt tt))
      where
        keeper : (t : Token) → Memᴰ t (tokens text) → Keeper (List Named) note-name (All Of_name) (λ p. Unit) t
        keeper t i = (tt, λ a. keep a)
          where
            keep : (a : Act) → At t.kind (place t) a → (l : List Named) → All Of_name l → All Of_name (note-name a l)
            keep (declare r p) h l k = all_join Of_name l (declared r p ∷ []) k (record { token = t; listed = i; kind = h.0; placed = sym h.1 }, tt)
            keep (uses r p) h l k = all_join Of_name l (used r p ∷ []) k (record { token = t; listed = i; kind = h.0; placed = sym h.1 }, tt)
            keep (sized b p) h l k = k
            keep (enter d) h l k = k
            keep (out f) h l k = k

    pub numbers-tokens : All Of_number (numbers x)
    numbers-tokens = subst (All Of_number) (numbers-read x) (subst (Holds (List Sized) note-number (All Of_number) (λ p. Unit)) (taken (List Sized) note-number 0 [] x (tokens text) y)
        (run-keeps (List Sized) note-number (All Of_number) 0 (λ p. Unit) tt (λ f l h. h) (tokens text) (all_map _ _ (tokens text) keeper (all_own (tokens text))) start [] tt tt))
      where
        keeper : (t : Token) → Memᴰ t (tokens text) → Keeper (List Sized) note-number (All Of_number) (λ p. Unit) t
        keeper t i = (tt, λ a. keep a)
          where
            keep : (a : Act) → At t.kind (place t) a → (l : List Sized) → All Of_number l → All Of_number (note-number a l)
            keep (declare r p) h l k = k
            keep (uses r p) h l k = k
            keep (sized b p) h l k = all_join Of_number l (sized_by b p ∷ []) k (number_at b p t i h.0 h.1, tt)
            keep (enter d) h l k = k
            keep (out f) h l k = k

    -- so the names are letters
    pub names-lettered : All (λ n. Letters (letters text (name_at n))) (names x)
    names-lettered = all_map (λ n. TokenOf text name_kind (name_at n)) (λ n. Letters (letters text (name_at n))) (names x) (λ n q. name-letters (name_at n) q) names-tokens
