-- Lists of words and lists of their codes: a short word is found in both alike. Assumes nothing.
use Rattle.std.proofs.lemmas.Bool.Decides.{nat_tests}
use mathlib.Core.Path.{◌≡◌, refl}
use mathlib.Core.Bool.{false}
use mathlib.Core.List.{List, [], ◌∷◌}
use Prim.Native.Nat.{ℕ, ◌≤◌}
use native.Mathlib.Omega.{arith}
use lib.Dec.{eqb, leb, ltb}
use lib.ListN.{length}
use Rattle.rule.specs.Name.{long_name, name_code}
use Rattle.rule.specs.Token.{same}
use Rattle.rule.specs.Measure.{Named, declared, used}
use Rattle.rule.proofs.ReaderRefusals.{codes}
use Rattle.rule.specs.Memory.{code_at, value_at, decimals_at, position, is_declared}
use Rattle.rule.specs.declared.parts.Role.{Role}
use Rattle.rule.proofs.TokenWords.{same_refl, same_eq}
use Rattle.rule.proofs.TokenCodes.{long-code, short-below, names_apart}
use Rattle.rule.specs.Class.{Letters}
use Rattle.rule.specs.Spelling.{among_words, number_in, words_of, letters}
use Rattle.rule.proofs.FrameDrafts.{All}

-- a word of at most 12 letters
pub record Short (w : List ℕ) : Type 0 where
  pub lower : Letters w
  pub few : length w ≤ 12

-- one code exactly if the same letters
same_code : (w v : List ℕ) → Short w → Short v → eqb (name_code w) (name_code v) ≡ same w v
same_code w v a b = grind (arith, nat_tests, same_eq w v, same_refl w, names_apart w v a.lower b.lower a.few b.few)

-- the code says whether a word is over 12 letters
pub long_same : (w : List ℕ) → Letters w → leb long_name (name_code w) ≡ ltb 12 (length w)
long_same w l = grind (arith, nat_tests, long-code w, short-below w l)

-- the words that names declare are of at most 12 letters
abbrev pub ShortIn : List ℕ → Named → Type 0
ShortIn text (declared r p) = Short (letters text p)
ShortIn text (used r p) = Unit {0}

module _ (text : List ℕ) where
  abbrev coded : Role → List Named → List ℕ
  coded r l = codes (code_at text) (value_at text) (decimals_at text) r l

  pub count_same : (r : Role) (l : List Named) → length (coded r l) ≡ length (words_of text r l)
  count_same r [] = refl
  count_same r (declared q p ∷ l) = grind (arith, count_same r l)
  count_same r (used q p ∷ l) = count_same r l

  pub among_same : (w : List ℕ) → Short w → (r : Role) (l : List Named) → All (ShortIn text) l → is_declared (name_code w) (coded r l) ≡ among_words w (words_of text r l)
  among_same w a r [] h = refl
  among_same w a r (declared q p ∷ l) h = grind (arith, same_code w (letters text p) a h.0, among_same w a r l h.1)
  among_same w a r (used q p ∷ l) h = among_same w a r l h.1

  -- no word over 12 letters has the code of one that is not
  pub long-absent : (r : Role) (l : List Named) → All (ShortIn text) l → is_declared long_name (coded r l) ≡ false
  long-absent r [] h = refl
  long-absent r (declared q p ∷ l) h = let s = short-below (letters text p) h.0.lower h.0.few in grind (arith, nat_tests, long-absent r l h.1)
  long-absent r (used q p ∷ l) h = long-absent r l h.1

  pub position-same : (w : List ℕ) → Short w → (r : Role) (l : List Named) → All (ShortIn text) l → position (name_code w) (coded r l) ≡ number_in w (words_of text r l)
  unfolding position
  position-same w a r [] h = refl
  position-same w a r (declared q p ∷ l) h = grind (arith, same_code w (letters text p) a h.0, position-same w a r l h.1)
  position-same w a r (used q p ∷ l) h = position-same w a r l h.1
