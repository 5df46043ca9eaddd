-- Where no name and no number of a tree is bad, its frames are within the limits: each name stands among the declared ones,
-- which are at most 8 events and 4 notes. Assumes nothing.
use mathlib.Core.Path.{◌≡◌, refl, ap}
use mathlib.Core.Bool.{Bool, true, false, cond}
use mathlib.Core.Option.{Option, none, some}
use mathlib.Core.List.{List, [], ◌∷◌, ◌++◌, append_assoc, append-nil}
use Prim.Native.Nat.{ℕ, suc, ◌≤◌, ◌<◌}
use native.Mathlib.Omega.{arith}
use lib.Dec.{leb, eqb}
use lib.ListN.{length, length-append}
use borrow.Author.Tests.{leb-false}
use Rattle.rule.specs.Name.{long_name}
use Rattle.rule.specs.Grammar.{Rule}
use Rattle.rule.specs.Measure.{Named, declared, used, Sized, sized_by, flat, names_of, numbers_of, header, frames, names, numbers}
use Rattle.rule.specs.Spelling.{same_role, room, beyond}
use Rattle.rule.proofs.ReaderRefusals.{codes, bad-name, spot, first-name, first-number}
use Rattle.rule.specs.Memory.{position, is_declared}
use Rattle.rule.specs.declared.parts.Place.{Place}
use Rattle.rule.specs.declared.parts.Role.{Role}
use Rattle.rule.specs.declared.parts.Role.TheVariants.{Event, Note}
use Rattle.rule.proofs.FrameDrafts.{All, all_right, DecimalsFit, Fine, NameFits, LimitsD}
use Rattle.rule.proofs.SpellLists.{all_map, all-flat}

pub some-not-none : {p : Place} → ◌≡◌ {A = Option Place} (some p) none → ⊥
some-not-none e = let z : ◌≡◌ {A = ℕ} 0 1 = cc in omega arith

-- ---- a name that stands among others has a number below their count
pub position-below : (c : ℕ) (xs : List ℕ) → is_declared c xs ≡ true → position c xs < length xs
unfolding position
position-below c [] e = let z : ◌≡◌ {A = ℕ} 0 1 = cc in absurd (omega arith)
position-below c (x ∷ xs) e = go (eqb c x) (position-below c xs) e
  where
    go : (b : Bool) → (is_declared c xs ≡ true → position c xs < length xs) → cond b true (is_declared c xs) ≡ true → cond b 0 (suc (position c xs)) < suc (length xs)
    go true k f = omega arith
    go false k f = let h = k f in omega arith

among-more : (c : ℕ) (xs ys : List ℕ) → is_declared c xs ≡ true → is_declared c (xs ++ ys) ≡ true
among-more c [] ys e = let z : ◌≡◌ {A = ℕ} 0 1 = cc in absurd (omega arith)
among-more c (x ∷ xs) ys e = go (eqb c x) (among-more c xs ys) e
  where
    go : (b : Bool) → (is_declared c xs ≡ true → is_declared c (xs ++ ys) ≡ true) → cond b true (is_declared c xs) ≡ true → cond b true (is_declared c (xs ++ ys)) ≡ true
    go true k f = refl
    go false k f = k f

module _ (code value decimals : Place → ℕ) where
  -- ---- names
  pub codes_append : (r : Role) (l m : List Named) → codes code value decimals r (l ++ m) ≡ codes code value decimals r l ++ codes code value decimals r m
  codes_append r [] m = refl
  codes_append r (used q p ∷ l) m = codes_append r l m
  codes_append r (declared q p ∷ l) m = go (same_role r q) (codes_append r l m)
    where
      go : (b : Bool) → codes code value decimals r (l ++ m) ≡ codes code value decimals r l ++ codes code value decimals r m
          → cond b (code p ∷ codes code value decimals r (l ++ m)) (codes code value decimals r (l ++ m)) ≡ cond b (code p ∷ codes code value decimals r l) (codes code value decimals r l) ++ codes code value decimals r m
      go true e = ap (λ z. code p ∷ z) e
      go false e = e

  -- no name is bad exactly if the first is not, and none after it is
  not_first : (before : List Named) (x : Named) (xs : List Named) → first-name code value decimals before (x ∷ xs) ≡ none
      → (bad-name code value decimals before x ≡ false) × (first-name code value decimals (before ++ x ∷ []) xs ≡ none)
  not_first before x xs e = go (bad-name code value decimals before x) e
    where
      go : (b : Bool) → cond b (some (spot code value decimals x)) (first-name code value decimals (before ++ x ∷ []) xs) ≡ none → (b ≡ false) × (first-name code value decimals (before ++ x ∷ []) xs ≡ none)
      go true f = absurd (some-not-none f)
      go false f = (refl, f)

  -- a name used is one of those declared before it
  used_among : (before : List Named) (r : Role) (p : Place) → bad-name code value decimals before (used r p) ≡ false → is_declared (code p) (codes code value decimals r before) ≡ true
  used_among before r p = go (is_declared (code p) (codes code value decimals r before))
    where
      go : (b : Bool) → cond b false true ≡ false → b ≡ true
      go true e = refl
      go false e = let z : ◌≡◌ {A = ℕ} 0 1 = cc in absurd (omega arith)

  -- there was room for a name declared
  declared_room : (before : List Named) (r : Role) (p : Place) → bad-name code value decimals before (declared r p) ≡ false → length (codes code value decimals r before) < room r
  declared_room before r p e = leb-false (room r) (length (codes code value decimals r before)) (go (leb long_name (code p)) (is_declared (code p) (codes code value decimals r before)) e)
    where
      go : (a b : Bool) → cond a true (cond b true (leb (room r) (length (codes code value decimals r before)))) ≡ false → leb (room r) (length (codes code value decimals r before)) ≡ false
      go true b f = let z : ◌≡◌ {A = ℕ} 0 1 = cc in absurd (omega arith)
      go false true f = let z : ◌≡◌ {A = ℕ} 0 1 = cc in absurd (omega arith)
      go false false f = f

  one_more_lem : (r q : Role) (before : List Named) (p : Place) → bad-name code value decimals before (declared q p) ≡ false → length (codes code value decimals r before) ≤ room r
      → length (codes code value decimals r (before ++ declared q p ∷ [])) ≤ room r
  one_more_lem Event Event before p e h = let l = declared_room before Event p e in rw (codes_append Event before (declared Event p ∷ []), length-append) (omega arith)
  one_more_lem Event Note before p e h = rw (codes_append Event before (declared Note p ∷ []), append-nil) h
  one_more_lem Note Event before p e h = rw (codes_append Note before (declared Event p ∷ []), append-nil) h
  one_more_lem Note Note before p e h = let l = declared_room before Note p e in rw (codes_append Note before (declared Note p ∷ []), length-append) (omega arith)

  -- "at most 8 and 4"
  pub few-codes : (r : Role) (before l : List Named) → length (codes code value decimals r before) ≤ room r → first-name code value decimals before l ≡ none → length (codes code value decimals r (before ++ l)) ≤ room r
  few-codes r before [] h e = rw append-nil h
  few-codes r before (declared q p ∷ l) h e =
      let (f, g) = not_first before (declared q p) l e in
      rw append_assoc at (few-codes r (before ++ declared q p ∷ []) l (one_more_lem r q before p f h) g)
  few-codes r before (used q p ∷ l) h e =
      let (f, g) = not_first before (used q p) l e in
      rw append_assoc at (few-codes r (before ++ used q p ∷ []) l (rw (codes_append r before (used q p ∷ []), append-nil) h) g)

  -- of a name used: its number in T, which has the names of each role
  abbrev pub Known : (Role → List ℕ) → Named → Type 0
  Known T (declared r p) = Unit {0}
  Known T (used r p) = is_declared (code p) (T r) ≡ true

  pub all_known : (before l : List Named) → first-name code value decimals before l ≡ none → All (Known (λ r. codes code value decimals r (before ++ l))) l
  all_known before [] e = tt
  all_known before (declared q p ∷ l) e =
      let (f, g) = not_first before (declared q p) l e in
      (tt, rw append_assoc at (all_known (before ++ declared q p ∷ []) l g))
  all_known before (used q p ∷ l) e =
      let (f, g) = not_first before (used q p) l e in
      (rw (codes_append q before (used q p ∷ l)) (among-more (code p) (codes code value decimals q before) (codes code value decimals q l) (used_among before q p f)), rw append_assoc at (all_known (before ++ used q p ∷ []) l g))

  -- ---- numbers
  pub all-fine : (z : ℕ) (l : List Sized) → first-number code value decimals l ≡ none → All (DecimalsFit value decimals z) l → All (Fine value decimals z) l
  all-fine z [] e d = tt
  all-fine z (sized_by l p ∷ xs) e d = go (beyond l (value p)) (λ f. all-fine z xs f d.1) e
    where
      go : (b : Bool) → (first-number code value decimals xs ≡ none → All (Fine value decimals z) xs) → cond b (some p) (first-number code value decimals xs) ≡ none → ((b ≡ false) × DecimalsFit value decimals z (sized_by l p)) × All (Fine value decimals z) xs
      go true k f = absurd (some-not-none f)
      go false k f = ((refl, d.0), k f)

  -- ---- frames, with T the names of each role
  module _ (T : Role → List ℕ) (few : (r : Role) → length (T r) ≤ room r) where
    -- the number of a name
    abbrev pub numbered : Role → Place → ℕ
    numbered r p = position (code p) (T r)

    below : (r : Role) (p : Place) → is_declared (code p) (T r) ≡ true → numbered r p < room r
    below r p e = let h = position-below (code p) (T r) e in let g = few r in omega arith

    name-fits : (n : Named) → Known T n → NameFits (numbered Event) (numbered Note) value decimals n
    name-fits (declared r p) h = tt
    name-fits (used Event p) h = below Event p h
    name-fits (used Note p) h = below Note p h

    fits-rule : (z : ℕ) (x : Rule) → All (Known T) (names x) → All (Fine value decimals z) (numbers x) → All (LimitsD (numbered Event) (numbered Note) value decimals z) (frames x)
    fits-rule z x a b =
        all-flat (Known T) (Fine value decimals z) (LimitsD (numbered Event) (numbered Note) value decimals z) names_of numbers_of
        (λ d p q. (all_map (Known T) (NameFits (numbered Event) (numbered Note) value decimals) (names_of d) name-fits p, q))
        (frames x) (all_right (Known T) (header x) (flat names_of (frames x)) a) b

  -- where no name is bad, no number and no decimals
  pub frames-fit : (z : ℕ) (x : Rule) → first-name code value decimals [] (names x) ≡ none → first-number code value decimals (numbers x) ≡ none → All (DecimalsFit value decimals z) (numbers x)
      → All (LimitsD (λ p. position (code p) (codes code value decimals Event (names x))) (λ p. position (code p) (codes code value decimals Note (names x))) value decimals z) (frames x)
  frames-fit z x e f d = fits-rule (λ r. codes code value decimals r (names x)) (λ r. few-codes r [] (names x) (none_yet r) e) z x (all_known [] (names x) e) (all-fine z (numbers x) f d)
    where
      none_yet : (r : Role) → 0 ≤ room r
      none_yet r = omega arith
