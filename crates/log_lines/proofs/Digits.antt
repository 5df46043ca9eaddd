-- Laws of `digits_at_front`, and of where the digits from a place on end. Assumes nothing.
use Rattle.std.specs.Prelude.{min, take, take_while}
use Rattle.std.specs.List.{list_all, prefix_len}
use Rattle.std.proofs.lemmas.List.Folds.{length-prefix_len}
use mathlib.Core.Path.{◌≡◌, refl, sym, ap, ◌∙◌}
use mathlib.Core.Bool.{Bool, true, false, true≢false, cond}
use mathlib.Core.List.{List, [], ◌∷◌}
use Prim.Native.Nat.{ℕ, zero, suc, ◌+◌, ◌-◌, ◌≤◌, ◌<◌}
use native.Mathlib.Nat.{zero-add, le_of_suc-le-suc, not-suc-le-zero}
use native.Mathlib.Numerals.{add-one}
use native.Mathlib.Omega.{arith}
use borrow.Author.Tests.{leb-true, leb-false}
use Rattle.std.proofs.lemmas.Bool.{and_parts}
use lib.Dec.{leb}
use lib.ListN.{length, get_or, drop}
use lib.Seq.{drop-drop}
use Rattle.log_lines.specs.Digit.{digit_value, is_digit}
use Rattle.log_lines.specs.Line.{digits_at_front}

-- past the end `get_or` gives 0, which is no digit
past_end : is_digit 0 ≡ false
unfolding digit_value
past_end = refl

-- where the digits that begin at a place end
abbrev pub reach : List ℕ → ℕ → ℕ
reach s k = k + digits_at_front (drop k s)

one_more_lem : (s : List ℕ) (k : ℕ) → is_digit (get_or s k 0) ≡ true
    → digits_at_front (drop k s) ≡ suc (digits_at_front (drop (suc k) s))
unfolding digits_at_front
one_more_lem [] k e = absurd (true≢false (sym e ∙ past_end))
one_more_lem (b ∷ bs) zero e = rw e
one_more_lem (b ∷ bs) (suc k) e = one_more_lem bs k e

-- at a digit: where those of the next place end
pub reach-digit : (s : List ℕ) (k : ℕ) → is_digit (get_or s k 0) ≡ true → reach s k ≡ reach s (k + 1)
reach-digit s k e = rw add-one (omega (arith, one_more_lem s k e))

none_here : (s : List ℕ) (k : ℕ) → is_digit (get_or s k 0) ≡ false → digits_at_front (drop k s) ≡ 0
unfolding digits_at_front
none_here [] zero e = refl
none_here [] (suc k) e = refl
none_here (b ∷ bs) zero e = rw e
none_here (b ∷ bs) (suc k) e = none_here bs k e

-- at any other byte: there
pub reach-other : (s : List ℕ) (k : ℕ) → is_digit (get_or s k 0) ≡ false → reach s k ≡ k
reach-other s k e = omega (arith, none_here s k e)

within_step : (b : ℕ) (bs : List ℕ) (x : Bool) → is_digit b ≡ x
    → digits_at_front bs ≤ length bs → digits_at_front (b ∷ bs) ≤ length (b ∷ bs)
unfolding digits_at_front
within_step b bs true e h = rw e (omega arith)
within_step b bs false e h = rw e (omega arith)

-- no more digits than bytes
pub front-within : (s : List ℕ) → digits_at_front s ≤ length s
unfolding digits_at_front
front-within [] = omega arith
front-within (b ∷ bs) = within_step b bs (is_digit b) refl (front-within bs)

digit-step : (b : ℕ) (bs : List ℕ) (k : ℕ) (x : Bool) → is_digit b ≡ x
    → ((j : ℕ) → j < digits_at_front bs → is_digit (get_or bs j 0) ≡ true)
    → k < digits_at_front (b ∷ bs) → is_digit (get_or (b ∷ bs) k 0) ≡ true
unfolding digits_at_front
digit-step b bs zero true e ih h = e
digit-step b bs (suc k) true e ih h = ih k (le_of_suc-le-suc (rw e at h))
digit-step b bs k false e ih h = absurd (not-suc-le-zero (rw e at h))

-- all digits: the front is the whole
pub all-front : (s : List ℕ) → list_all is_digit s ≡ true → digits_at_front s ≡ length s
unfolding digits_at_front
all-front [] e = refl
all-front (b ∷ bs) e = let t = and_parts (is_digit b) (list_all is_digit bs) e in rw t.0 (omega (arith, all-front bs t.1))

pub each_all : (s : List ℕ) → ((k : ℕ) → k < length s → is_digit (get_or s k 0) ≡ true) → list_all is_digit s ≡ true
each_all [] h = refl
each_all (b ∷ bs) h = rw (h zero (omega arith)) (each_all bs (λ k q. h (suc k) (omega (arith, q))))

-- each byte of the front is a digit
pub front-digit : (s : List ℕ) (k : ℕ) → k < digits_at_front s → is_digit (get_or s k 0) ≡ true
unfolding digits_at_front
front-digit [] k h = absurd (not-suc-le-zero h)
front-digit (b ∷ bs) k h = digit-step b bs k (is_digit b) refl (front-digit bs) h

next-step : (b : ℕ) (bs : List ℕ) (x : Bool) → is_digit b ≡ x → is_digit (get_or bs (digits_at_front bs) 0) ≡ false
    → is_digit (get_or (b ∷ bs) (digits_at_front (b ∷ bs)) 0) ≡ false
unfolding digits_at_front
next-step b bs true e ih = rw e ih
next-step b bs false e ih = rw e e

-- what follows the front is no digit
pub front-next : (s : List ℕ) → is_digit (get_or s (digits_at_front s) 0) ≡ false
unfolding digits_at_front
front-next [] = past_end
front-next (b ∷ bs) = next-step b bs (is_digit b) refl (front-next bs)

skip_step : (b : ℕ) (bs : List ℕ) (n : ℕ) (x : Bool) → is_digit b ≡ x
    → (n ≤ digits_at_front bs → digits_at_front bs ≡ n + digits_at_front (drop n bs))
    → suc n ≤ digits_at_front (b ∷ bs) → digits_at_front (b ∷ bs) ≡ suc n + digits_at_front (drop n bs)
unfolding digits_at_front
skip_step b bs n true e ih h = let i = ih (le_of_suc-le-suc (rw e at h)) in rw e (omega arith)
skip_step b bs n false e ih h = absurd (not-suc-le-zero (rw e at h))

skip : (s : List ℕ) (n : ℕ) → n ≤ digits_at_front s → digits_at_front s ≡ n + digits_at_front (drop n s)
unfolding digits_at_front
skip s zero h = sym (zero-add (digits_at_front s))
skip [] (suc n) h = absurd (not-suc-le-zero h)
skip (b ∷ bs) (suc n) h = skip_step b bs n (is_digit b) refl (skip bs n) h

-- from each place up to that end: the same end
pub reach-skip : (s : List ℕ) (k m : ℕ) → k ≤ m → m ≤ reach s k → reach s k ≡ reach s m
reach-skip s k m h r =
    let e : k + (m - k) ≡ m = omega arith in
    let d : drop (m - k) (drop k s) ≡ drop m s = drop-drop (m - k) k s ∙ ap (λ (j : ℕ). drop j s) e in
    let f = ap digits_at_front d in
    omega (arith, skip (drop k s) (m - k) (omega arith))

further : (s : List ℕ) (k m : ℕ) (x : Bool) → leb m (reach s k) ≡ x → k ≤ m → reach s k ≤ reach s m
further s k m true e h = omega (arith, reach-skip s k m h (leb-true _ _ e))
further s k m false e h = omega (arith, leb-false m (reach s k) e)

-- from a later place: no earlier end
pub reach-later : (s : List ℕ) (k m : ℕ) → k ≤ m → reach s k ≤ reach s m
reach-later s k m h = further s k m (leb m (reach s k)) refl h

least : (s : List ℕ) (n : ℕ) (x : Bool) → leb n (digits_at_front s) ≡ x
    → ((k : ℕ) → k < n → is_digit (get_or s k 0) ≡ true) → n ≤ digits_at_front s
least s n true e h = leb-true _ _ e
least s n false e h = absurd (true≢false (sym (h (digits_at_front s) (leb-false _ _ e)) ∙ front-next s))

-- n bytes that are digits: n digits at the front
pub front-least : (s : List ℕ) (n : ℕ) → ((k : ℕ) → k < n → is_digit (get_or s k 0) ≡ true) → n ≤ digits_at_front s
front-least s n h = least s n (leb n (digits_at_front s)) refl h

-- the digits at the front of the first n bytes
pub front_taken : (n : ℕ) (s : List ℕ) → digits_at_front (take n s) ≡ min (digits_at_front s) n
unfolding digits_at_front
front_taken zero s = omega arith
front_taken (suc n) [] = omega arith
front_taken (suc n) (b ∷ bs) = go (is_digit b) (front_taken n bs)
  where
    go : (x : Bool) → digits_at_front (take n bs) ≡ min (digits_at_front bs) n
        → cond x (suc (digits_at_front (take n bs))) 0 ≡ min (cond x (suc (digits_at_front bs)) 0) (suc n)
    go true e = omega arith
    go false e = omega arith

prefix_front : (s : List ℕ) → prefix_len is_digit s ≡ digits_at_front s
unfolding digits_at_front
prefix_front [] = refl
prefix_front (b ∷ bs) = go (is_digit b) (prefix_front bs)
  where
    go : (x : Bool) → prefix_len is_digit bs ≡ digits_at_front bs
        → cond x (1 + prefix_len is_digit bs) 0 ≡ cond x (suc (digits_at_front bs)) 0
    go true e = omega arith
    go false e = refl

-- the digits at the front are the bytes that the library's `take_while` takes
pub front_counted : (s : List ℕ) → length (take_while is_digit s) ≡ digits_at_front s
front_counted s = length-prefix_len is_digit s ∙ prefix_front s
