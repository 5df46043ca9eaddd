-- The first bad name, by codes and by letters. Assumes nothing.
use Rattle.std.proofs.lemmas.Bool.Decides.{nat_tests}
use mathlib.Core.Path.{◌≡◌, refl}
use mathlib.Core.Bool.{false}
use mathlib.Core.List.{List, [], ◌∷◌, ◌++◌}
use mathlib.Core.Option.{none}
use Prim.Native.Nat.{ℕ}
use native.Mathlib.Omega.{arith}
use borrow.Author.Tests.{ltb-false}
use lib.ListN.{length}
use Rattle.rule.specs.Measure.{Named, declared, used}
use Rattle.rule.proofs.ReaderRefusals.{codes, bad-name, first-name}
use Rattle.rule.specs.Memory.{code_at, value_at, decimals_at, position}
use Rattle.rule.specs.declared.parts.Place.{Place}
use Rattle.rule.specs.declared.parts.Role.{Role}
use Rattle.rule.proofs.TokenCodes.{long-code}
use Rattle.rule.specs.Class.{Letters}
use Rattle.rule.specs.Spelling.{name_at, number_in, words_of, long_at, bad_name, first_name, letters}
use Rattle.rule.proofs.FrameDrafts.{All, all_join}
use Rattle.rule.proofs.SpellLists.{all_map}
use Rattle.rule.proofs.SpellCodes.{Short, ShortIn, long_same, count_same, among_same, long-absent, position-same}

module _ (text : List ℕ) where
  -- the name's bytes are letters
  abbrev pub Lettered : Named → Type 0
  Lettered x = Letters (letters text (name_at x))

  short : (p : Place) → Letters (letters text p) → long_at text p ≡ false → Short (letters text p)
  short p l e = record { lower = l; few = ltb-false 12 (length (letters text p)) e }

  -- bad by codes exactly if bad by letters, after good names
  bad-same : (before : List Named) (x : Named) → All (ShortIn text) before → Lettered x → bad-name (code_at text) (value_at text) (decimals_at text) before x ≡ bad_name text before x
  bad-same before (declared r p) h l = grind (arith, long_same (letters text p) l, short p l, among_same text (letters text p), count_same text r before)
  bad-same before (used r p) h l = grind (arith, nat_tests, long-code (letters text p), short p l, among_same text (letters text p), long-absent text r before h)

  -- a good name is of at most 12 letters
  good-short : (before : List Named) (x : Named) → Lettered x → bad_name text before x ≡ false → Short (letters text (name_at x))
  good-short before (declared r p) l = grind (arith, short p l)
  good-short before (used r p) l = grind (arith, short p l)

  declared_short : (x : Named) → Short (letters text (name_at x)) → ShortIn text x
  declared_short (declared r p) s = s
  declared_short (used r p) s = tt

  -- 4: the same first name
  pub first-name-same : (before xs : List Named) → All (ShortIn text) before → All Lettered xs → first-name (code_at text) (value_at text) (decimals_at text) before xs ≡ first_name text before xs
  first-name-same before [] h l = refl
  first-name-same before (x ∷ xs) h l = grind (arith, bad-same before x h l.0, good-short before x l.0, declared_short x, all_join (ShortIn text) before (x ∷ []) h, first-name-same (before ++ x ∷ []) xs)

  -- where no name is bad, each is of at most 12 letters
  pub all_short : (before xs : List Named) → All Lettered xs → first_name text before xs ≡ none → All (λ x. Short (letters text (name_at x))) xs
  all_short before [] l e = tt
  all_short before (x ∷ xs) l e = grind (arith, good-short before x l.0, all_short (before ++ x ∷ []) xs l.1)

  -- where no name is bad, the code of each is found among the codes where its letters are among the words
  pub name-number-same : (xs : List Named) → All Lettered xs → first_name text [] xs ≡ none
      → All (λ n. (r : Role) → position (code_at text (name_at n)) (codes (code_at text) (value_at text) (decimals_at text) r xs) ≡ number_in (letters text (name_at n)) (words_of text r xs)) xs
  name-number-same xs l e =
      let s = all_short [] xs l e in
      let d = all_map (λ n. Short (letters text (name_at n))) (ShortIn text) xs declared_short s in
      all_map (λ n. Short (letters text (name_at n))) (λ n. (r : Role) → position (code_at text (name_at n)) (codes (code_at text) (value_at text) (decimals_at text) r xs) ≡ number_in (letters text (name_at n)) (words_of text r xs)) xs (λ n h r. position-same text (letters text (name_at n)) h r xs d) s
