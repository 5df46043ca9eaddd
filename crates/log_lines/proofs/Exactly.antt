-- A line is read exactly where 34 digits stand; anything else is refused with 15, at one place. Assumes nothing.
use mathlib.Core.Path.{◌≡◌, refl, sym, ◌∙◌}
use mathlib.Core.Logic.{◌↔◌, ◌⊎◌, inl, inr, ⊎_elim}
use mathlib.Core.Bool.{Bool, true, false, true≢false}
use mathlib.Core.List.{List}
use Prim.Native.Nat.{ℕ, ◌≤◌, ◌<◌}
use native.Mathlib.Omega.{arith}
use borrow.Author.Tests.{leb-true, leb-false, eqb-true, eqb-false}
use lib.Dec.{leb, eqb}
use lib.IntN.{ℤ}
use lib.ListN.{length}
use Rattle.log_lines.specs.Line.{digits_at_front, bad_place_of, bad_place, byte_at, note_at, line, refused, are_digits, line_of}
use Rattle.log_lines.specs.Line.{AreDigits, AllDigits, BadPlace, PlaceOf15}
use Rattle.log_lines.proofs.Digits.{front-digit, front-next, front-least}
use Rattle.log_lines.proofs.Lines.{digits-tested, other-tested, line-of-digits, line-of-other}

clash : {A : Type 0} {x : Bool} → x ≡ true → x ≡ false → A
clash p q = absurd (true≢false (sym p ∙ q))

pub are-digits : (n : ℕ) (s : List ℕ) → length s ≡ n → n ≤ digits_at_front s → AreDigits n s
are-digits n s h k = (h, λ j q. front-digit s j (omega arith))

-- n digits, or not
module _ (n : ℕ) (s : List ℕ) where
  tested : (x y : Bool) → eqb (length s) n ≡ x → leb n (digits_at_front s) ≡ y → AreDigits n s ⊎ (AreDigits n s → ⊥)
  tested true true p q = inl (are-digits n s (eqb-true _ _ p) (leb-true _ _ q))
  tested true false p q = inr (λ h. let f = front-least s n h.1 in let g = leb-false n (digits_at_front s) q in omega arith)
  tested false y p q = inr (λ h. eqb-false _ _ p h.0)

  pub either : AreDigits n s ⊎ (AreDigits n s → ⊥)
  either = tested (eqb (length s) n) (leb n (digits_at_front s)) refl refl

  pub yes-digits : AreDigits n s → are_digits n s ≡ true
  yes-digits h = digits-tested n s h.0 (front-least s n h.1)

  pub no_digits : (AreDigits n s → ⊥) → are_digits n s ≡ false
  no_digits h = other-tested n s (λ l f. h (are-digits n s l f))

read : (s : List ℕ) → AllDigits s → line_of s ≡ line (byte_at s 0) (note_at s 0) (note_at s 1) (note_at s 2) (note_at s 3)
read s h = line-of-digits s h.0 (front-least s 34 h.1)

not-read : (s : List ℕ) → (AllDigits s → ⊥) → line_of s ≡ refused 15 (bad_place s)
not-read s h = line-of-other s (λ n f. h (are-digits 34 s n f))

pub apart : {A : Type 0} {e n p : ℕ} {a b c d : ℤ} → line e a b c d ≡ refused n p → A
apart q = absurd (let z : ◌≡◌ {A = ℕ} 0 1 = cc in omega arith)

parts : {e e' : ℕ} {a b c d a' b' c' d' : ℤ} → line e a b c d ≡ line e' a' b' c' d'
    → (e ≡ e') × (a ≡ a') × (b ≡ b') × (c ≡ c') × (d ≡ d')
parts q = (cc, cc, cc, cc, cc)

pub line_exactly : (s : List ℕ) (e : ℕ) (a b c d : ℤ)
    → line_of s ≡ line e a b c d
    ↔ AllDigits s × (e ≡ byte_at s 0) × (a ≡ note_at s 0) × (b ≡ note_at s 1) × (c ≡ note_at s 2) × (d ≡ note_at s 3)
line_exactly s e a b c d = (
  λ q. ⊎_elim
      (λ y. let r = parts (sym q ∙ read s y) in (y, r.0, r.1, r.2, r.3, r.4))
      (λ n. apart (sym q ∙ not-read s n))
      (either 34 s),
  λ h. read s h.0 ∙ cc,
)

-- the place is the document's, and one only
module _ {n : ℕ} {s : List ℕ} where
  pub place : BadPlace n s (bad_place_of n s)
  place =
      record {
        before = λ k h. front-digit s k (omega arith);
        within = omega arith;
        stops = λ h. let e : bad_place_of n s ≡ digits_at_front s = omega arith in rw e (front-next s);
      }

  not_less : {p q : ℕ} → BadPlace n s p → BadPlace n s q → p < q → ⊥
  not_less {p} {q} u v h =
      let w = v.within in
      clash (v.before p h) (u.stops (omega arith))

  pub one_place : {p q : ℕ} → BadPlace n s p → BadPlace n s q → p ≡ q
  one_place u v = let a = not_less u v in let b = not_less v u in omega arith

-- one place only
pub place-unique : (s : List ℕ) (p q : ℕ) → PlaceOf15 s p → PlaceOf15 s q → p ≡ q
place-unique s p q u v = one_place u v

refusal : {n m p q : ℕ} → refused n p ≡ refused m q → (n ≡ m) × (p ≡ q)
refusal h = (cc, cc)

pub placed : (s : List ℕ) → PlaceOf15 s (bad_place s)
unfolding bad_place
placed s = place

pub place_15 : (s : List ℕ) (n p : ℕ)
    → line_of s ≡ refused n p
    ↔ (AllDigits s → ⊥) × (n ≡ 15) × PlaceOf15 s p
place_15 s n p = (
  λ q. ⊎_elim
      (λ y. apart (sym (read s y) ∙ q))
      (λ h. let r = refusal (sym q ∙ not-read s h) in (h, r.0, rw r.1 (placed s)))
      (either 34 s),
  λ h. let e = place-unique s p (bad_place s) h.2 (placed s) in not-read s h.0 ∙ cc,
)
