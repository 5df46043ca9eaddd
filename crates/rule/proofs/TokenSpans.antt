-- Laws of `span`: a run of bytes of one class, from a place of a text. Assumes nothing.
use mathlib.Core.Path.{◌≡◌, refl, sym, ap}
use mathlib.Core.List.{List, [], ◌∷◌}
use Prim.Native.Nat.{ℕ, suc, ◌-◌, ◌≤◌, ◌<◌}
use native.Mathlib.Omega.{arith}
use borrow.Author.Tests.{eqb-true, eqb-false}
use lib.Dec.{eqb}
use lib.ListN.{length, take, drop, get_or}
use Rattle.std.specs.List.{prefix_len}
use Rattle.std.proofs.lemmas.List.{take_all}
use Rattle.std.proofs.lemmas.List.Sums.{prefix_len-le-length, prefix_len_passes, prefix_len_stops}
use Rattle.rule.specs.Class.{class_of, span}

-- what a pattern takes of a list that is not empty: the first item, and the rest
abbrev pub rest : List ℕ → List ℕ
rest xs = take (length xs - 1) (drop 1 xs)

pub first_rest : (xs : List ℕ) → 1 ≤ length xs → xs ≡ get_or xs 0 0 ∷ rest xs
first_rest [] h = absurd (omega arith)
first_rest (x ∷ xs) h = ap (λ (l : List ℕ). x ∷ l) (sym (take_all (suc (length xs) - 1) xs (omega arith)))

-- a run is the longest front whose bytes have the class
pub span_told : (c : ℕ) (bs : List ℕ) → span c bs ≡ prefix_len (λ b. eqb (class_of b) c) bs
unfolding span
span_told c [] = refl
span_told c (b ∷ bs) = grind (arith, span_told c bs)

pub span_le : (c : ℕ) (bs : List ℕ) → span c bs ≤ length bs
span_le c bs = rw (span_told c bs) (prefix_len-le-length _ bs)

-- every byte of a run has its class
pub span_class : (c : ℕ) (bs : List ℕ) (k : ℕ) → k < span c bs → class_of (get_or bs k 0) ≡ c
span_class c bs k h = eqb-true _ _ (prefix_len_passes (λ b. eqb (class_of b) c) bs k 0 (rw (span_told c bs) at h))

-- and the byte after it has another
pub span-stops : (c : ℕ) (bs : List ℕ) → span c bs < length bs → class_of (get_or bs (span c bs) 0) ≡ c → ⊥
span-stops c bs h = eqb-false _ _ (rw (span_told c bs) (prefix_len_stops (λ b. eqb (class_of b) c) bs 0 (rw (span_told c bs) at h)))
