-- Laws of `same`: two words are the same exactly if they are one list. Assumes nothing.
use mathlib.Core.Path.{◌≡◌, refl}
use mathlib.Core.Logic.{◌↔◌}
use mathlib.Core.Bool.{Bool, true, ◌&&◌, cond}
use mathlib.Core.List.{List, [], ◌∷◌}
use Prim.Native.Nat.{ℕ, suc}
use native.Mathlib.Omega.{arith}
use borrow.Author.Tests.{ne_eqb}
use lib.Dec.{eqb}
use lib.ListN.{length, get_or}
use Rattle.std.proofs.Common.{rules, Decides}
use Rattle.std.specs.Cmp.Lexicographic.{pointwise}
use Rattle.std.proofs.lemmas.Slice.Eq.{compares_Decides}
use Rattle.std.proofs.Math.Dec.{eqb-suc-suc, eqb-suc-zero, eqb-zero-suc}
use Rattle.std.proofs.lemmas.Bool.Decides.{nat_tests}
use Rattle.rule.specs.Token.{name_kind, events_kind, notes_kind, index_kind, abs_kind, events_word, notes_word, index_word, abs_word, same, word_kind}

-- the bytes of p stand in w, from index i on
abbrev pub reads : List ℕ → ℕ → List ℕ → Bool
reads w i [] = true
reads w i (c ∷ p) = eqb (get_or w i 0) c && reads w (suc i) p

reads-cons : (x : ℕ) (w : List ℕ) (i : ℕ) (p : List ℕ) → reads (x ∷ w) (suc i) p ≡ reads w i p
reads-cons x w i [] = refl
reads-cons x w i (c ∷ p) = rw (reads-cons x w (suc i) p)

-- two words are the same exactly if they have one length, and the bytes of one stand in the other
pub same_reads : (w p : List ℕ) → same w p ≡ (eqb (length w) (length p) && reads w 0 p)
unfolding same
same_reads [] [] = refl
same_reads [] (c ∷ p) = rw (eqb-zero-suc (length p))
same_reads (x ∷ w) [] = rw (eqb-suc-zero (length w))
same_reads (x ∷ w) (c ∷ p) = rw (eqb-suc-suc (length w) (length p), reads-cons x w 0 p) (grind (arith, same_reads w p))

-- `==` on slices tells the same
pub same_told : (a b : List ℕ) → same a b ≡ pointwise eqb a b
unfolding same
same_told [] [] = refl
same_told [] (y ∷ ys) = refl
same_told (x ∷ xs) [] = refl
same_told (x ∷ xs) (y ∷ ys) = rw (same_told xs ys)

same_decides : (a b : List ℕ) → Decides (same a b) (a ≡ b)
unfolding same
same_decides = compares_Decides same (search rules)

pub same_refl : (a : List ℕ) → same a a ≡ true
same_refl a = (same_decides a a).1 refl

pub same_eq : (a b : List ℕ) → same a b ≡ true → a ≡ b
same_eq a b = (same_decides a b).0

-- ---- the reserved words

-- by its length a word can be one of them at most
pub kind_of_one : (w : List ℕ) → length w ≡ 1 → word_kind w ≡ cond (reads w 0 index_word) index_kind name_kind
unfolding word_kind
kind_of_one w h = rw (same_reads w events_word, same_reads w notes_word, same_reads w index_word, same_reads w abs_word, h)

pub kind_of_three : (w : List ℕ) → length w ≡ 3 → word_kind w ≡ cond (reads w 0 abs_word) abs_kind name_kind
unfolding word_kind
kind_of_three w h = rw (same_reads w events_word, same_reads w notes_word, same_reads w index_word, same_reads w abs_word, h)

pub kind_of_five : (w : List ℕ) → length w ≡ 5 → word_kind w ≡ cond (reads w 0 notes_word) notes_kind name_kind
unfolding word_kind
kind_of_five w h = rw (same_reads w events_word, same_reads w notes_word, same_reads w index_word, same_reads w abs_word, h)

pub kind_of_six : (w : List ℕ) → length w ≡ 6 → word_kind w ≡ cond (reads w 0 events_word) events_kind name_kind
unfolding word_kind
kind_of_six w h = rw (same_reads w events_word, same_reads w notes_word, same_reads w index_word, same_reads w abs_word, h)

pub kind_of_other : (w : List ℕ) → (length w ≡ 6 → ⊥) → (length w ≡ 5 → ⊥) → (length w ≡ 1 → ⊥) → (length w ≡ 3 → ⊥) → word_kind w ≡ name_kind
unfolding word_kind
kind_of_other w a b c d = rw (same_reads w events_word, same_reads w notes_word, same_reads w index_word, same_reads w abs_word, ne_eqb _ 6 a, ne_eqb _ 5 b, ne_eqb _ 1 c, ne_eqb _ 3 d)

abbrev kind : Bool → Bool → Bool → Bool → ℕ
kind a b c d = cond a events_kind (cond b notes_kind (cond c index_kind (cond d abs_kind name_kind)))

kind_tells : (a b c d : Bool) → (kind a b c d ≡ events_kind → a ≡ true) × (kind a b c d ≡ notes_kind → b ≡ true) × (kind a b c d ≡ index_kind → c ≡ true) × (kind a b c d ≡ abs_kind → d ≡ true)
kind_tells a b c d = (grind arith, grind arith, grind arith, grind arith)

-- each has its own kind, and no other word has it
pub reserved : (w : List ℕ) → ((word_kind w ≡ events_kind) ↔ (w ≡ events_word)) × ((word_kind w ≡ notes_kind) ↔ (w ≡ notes_word)) × ((word_kind w ≡ index_kind) ↔ (w ≡ index_word)) × ((word_kind w ≡ abs_kind) ↔ (w ≡ abs_word))
unfolding word_kind same
reserved w =
    let t = kind_tells (same w events_word) (same w notes_word) (same w index_word) (same w abs_word) in (
      (λ e. same_eq w events_word (t.0 e), λ e. rw e),
      (λ e. same_eq w notes_word (t.1 e), λ e. rw e),
      (λ e. same_eq w index_word (t.2 e), λ e. rw e),
      (λ e. same_eq w abs_word (t.3 e), λ e. rw e),
    )

-- for the code, which matches the word
pub ruleset word_kinds = (kind_of_one, kind_of_three, kind_of_five, kind_of_six, kind_of_other, nat_tests)
