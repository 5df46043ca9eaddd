-- A line that is not brought down is refused exactly as its notes say. Assumes nothing.
use mathlib.Core.Path.{◌≡◌, refl, sym, ap, ◌∙◌}
use mathlib.Core.Bool.{Bool, true, false, true≢false}
use mathlib.Core.List.{List}
use mathlib.Core.Logic.{◌↔◌, ⊎_elim}
use Prim.Native.Nat.{ℕ, zero, suc, ◌<◌}
use native.Mathlib.Omega.{arith}
use borrow.Author.Tests.{eqb-true, ne_eqb}
use Rattle.numbers.proofs.Ints.{nat_abs_zero}
use lib.Dec.{eqb}
use lib.IntN.{pos, nat_abs}
use Rattle.log_lines.specs.Line.{byte_at, note_at, bad_place, AllDigits}
use Rattle.log_lines.specs.Earlier.{old_line, turned, Converted, note_place, holds16, In16, loss_by, loss_of, lowered_def}
use Rattle.log_lines.specs.Earlier.{PlaceOf25, LowerRefused, not_a_line, fourth, wide}
use Rattle.log_lines.proofs.Exactly.{either, placed, place-unique}
use Rattle.log_lines.proofs.Losses.{answer_unless}
use Rattle.log_lines.proofs.Converting.{lowered-of-digits, lowered-of-other}
use Rattle.log_lines.proofs.Conversions.{clash, numbers, within_16, held_16}

module _ (s : List ℕ) where
  -- ---- the tests of a line of digits
  answer-by : AllDigits s → (lowered_def s).answer
      ≡ loss_by (eqb (nat_abs (note_at s 3)) 0) (holds16 (note_at s 0)) (holds16 (note_at s 1)) (holds16 (note_at s 2))
  unfolding loss_of
  answer-by h =
      ap (λ (c : Converted). c.answer) (lowered-of-digits s h)
      ∙ answer_unless (loss_of (note_at s 0) (note_at s 1) (note_at s 2) (note_at s 3))
      (old_line (byte_at s 0) (note_at s 0) (note_at s 1) (note_at s 2))

  answer-other : (AllDigits s → ⊥) → (lowered_def s).answer ≡ turned 15 (bad_place s)
  answer-other h = ap (λ (c : Converted). c.answer) (lowered-of-other s h)

  not_16 : (n : ℕ) → holds16 (note_at s n) ≡ false → In16 (note_at s n) → ⊥
  not_16 n e h = true≢false (sym (held_16 h) ∙ e)

  other_16 : (n : ℕ) → (In16 (note_at s n) → ⊥) → holds16 (note_at s n) ≡ false
  other_16 n h = go (holds16 (note_at s n)) refl
    where
      go : (x : Bool) → holds16 (note_at s n) ≡ x → x ≡ false
      go true e = absurd (h (within_16 e))
      go false e = refl

  -- ---- from a refusal to what it says
  below_1 : In16 (note_at s 0) → (n : ℕ) → n < 1 → In16 (note_at s n)
  below_1 h zero l = h
  below_1 h (suc n) l = absurd (omega arith)

  below_2 : In16 (note_at s 0) → In16 (note_at s 1) → (n : ℕ) → n < 2 → In16 (note_at s n)
  below_2 h i zero l = h
  below_2 h i (suc zero) l = i
  below_2 h i (suc (suc n)) l = absurd (omega arith)

  refused_as : {m q n p : ℕ} → turned m q ≡ turned n p → LowerRefused s m q → LowerRefused s n p
  refused_as e r = let f = numbers e in rw (sym f.0, sym f.1) r

  wide_at : {q n p : ℕ} → AllDigits s → eqb (nat_abs (note_at s 3)) 0 ≡ true → turned 25 q ≡ turned n p → PlaceOf25 s q
      → LowerRefused s n p
  wide_at {q} h a e w = refused_as e (wide q h (nat_abs_zero (note_at s 3) (eqb-true _ _ a)) w)

  by_tests : AllDigits s → {n p : ℕ} (w x y z : Bool) → eqb (nat_abs (note_at s 3)) 0 ≡ w → holds16 (note_at s 0) ≡ x
      → holds16 (note_at s 1) ≡ y → holds16 (note_at s 2) ≡ z → loss_by w x y z ≡ turned n p → LowerRefused s n p
  by_tests h false x y z a b c d e =
      refused_as e (fourth h (λ f. true≢false (sym (ap (λ v. eqb (nat_abs v) 0) f) ∙ a)))
  by_tests h true false y z a b c d e =
      wide_at h a e (record { note = 0; first_three = omega arith; wide = not_16 0 b; first = λ n l. absurd (omega arith); begins = refl })
  by_tests h true true false z a b c d e =
      let before = below_1 (within_16 b) in
      wide_at h a e (record { note = 1; first_three = omega arith; wide = not_16 1 c; first = before; begins = refl })
  by_tests h true true true false a b c d e =
      let before = below_2 (within_16 b) (within_16 c) in
      wide_at h a e (record { note = 2; first_three = omega arith; wide = not_16 2 d; first = before; begins = refl })
  by_tests h true true true true a b c d e = clash e

  says : {n p : ℕ} → (lowered_def s).answer ≡ turned n p → LowerRefused s n p
  says e =
      ⊎_elim
      (λ h. by_tests h
      (eqb (nat_abs (note_at s 3)) 0) (holds16 (note_at s 0)) (holds16 (note_at s 1)) (holds16 (note_at s 2)) refl refl refl refl
      (sym (answer-by h) ∙ e))
      (λ h. refused_as (sym (answer-other h) ∙ e) (not_a_line (bad_place s) h (placed s)))
      (either 34 s)

  -- ---- and back
  wide_back : {p : ℕ} → AllDigits s → note_at s 3 ≡ pos 0 → PlaceOf25 s p → (lowered_def s).answer ≡ turned 25 p
  wide_back h z w = go w.note w.first_three w.wide w.first ∙ ap (turned 25) (sym w.begins)
    where
      zero_test : eqb (nat_abs (note_at s 3)) 0 ≡ true
      zero_test = ap (λ v. eqb (nat_abs v) 0) z

      go : (n : ℕ) → n < 3 → (In16 (note_at s n) → ⊥) → ((k : ℕ) → k < n → In16 (note_at s k))
          → (lowered_def s).answer ≡ turned 25 (note_place n)
      go zero l i f = answer-by h ∙ rw (zero_test, other_16 0 i) refl
      go (suc zero) l i f = answer-by h ∙ rw (zero_test, held_16 (f 0 (omega arith)), other_16 1 i) refl
      go (suc (suc zero)) l i f =
          answer-by h ∙ rw (zero_test, held_16 (f 0 (omega arith)), held_16 (f 1 (omega arith)), other_16 2 i) refl
      go (suc (suc (suc n))) l i f = absurd (omega arith)

  back : {n p : ℕ} → LowerRefused s n p → (lowered_def s).answer ≡ turned n p
  back (not_a_line p h q) = answer-other h ∙ ap (turned 15) (place-unique s (bad_place s) p (placed s) q)
  back (fourth h f) = answer-by h ∙ rw (ne_eqb (nat_abs (note_at s 3)) 0 (λ e. f (nat_abs_zero (note_at s 3) e))) refl
  back (wide p h z w) = wide_back h z w

  pub lower-refused : (n p : ℕ) → (lowered_def s).answer ≡ turned n p ↔ LowerRefused s n p
  lower-refused n p = (says, back)
