-- Up and down: what is written is read again, what was read is written as it was, in capitals. Assumes nothing.
use Rattle.std.specs.Prelude.{Result, Ok, Err}
use mathlib.Core.Path.{◌≡◌, refl, sym, ap, ◌∙◌}
use mathlib.Core.Bool.{true}
use mathlib.Core.List.{List, [], map}
use mathlib.Core.Logic.{◌↔◌, ◌⊎◌, inl, inr, ⊎_elim}
use Prim.Native.Nat.{ℕ, ◌+◌, ◌*◌, ◌/◌, ◌≤◌, ◌<◌}
use native.Mathlib.Omega.{arith}
use borrow.Author.Tests.{eqb-true}
use lib.IntN.{ℤ, pos, negsuc}
use lib.ListN.{replicate}
use lib.Signed.{le_z, le_z_yes}
use mir.Syntax.{w16, w32}
use mir.Val.{SFits, to_z, of_z}
use mir.Facts.{to_z-of_z, Fits-of_z, sfits_widen}
use Rattle.numbers.specs.Word.{big_endian}
use Rattle.std.proofs.lemmas.Bool.{and_parts, and_from}
use Rattle.numbers.proofs.Bools.{T_true}
use Rattle.numbers.proofs.Ints.{nat_abs_zero}
use Rattle.log_lines.specs.Digit.{digit_value, capital}
use Rattle.log_lines.specs.Line.{digits_at_front, byte_at, note_at, bad_place_of, bad_place, line, refused, line_of, AreDigits, AllDigits, BadPlace}
use Rattle.log_lines.specs.Line.{line_digits}
use Rattle.log_lines.specs.Earlier.{old_digits, old_note_from, old_note_at, old_line_of, digits_of, old_note, new_note, old_line, new_line}
use Rattle.log_lines.specs.Earlier.{ConversionAnswer, done, turned, Converted, converted, raise_told, lower_number, lower_place, lower_told, raised_by, raised_def}
use Rattle.log_lines.specs.Earlier.{holds16, In16, loss_of, unless_lost, lowered_by, lowered_def}
use Rattle.log_lines.specs.declared.line.BadLine.{BadLine}
use Rattle.log_lines.specs.declared.earlier.BadOldLine.{BadOldLine}
use Rattle.log_lines.specs.declared.earlier.NotLowered.{NotLowered}
use Rattle.log_lines.specs.declared.earlier.NotLowered.TheVariants as lowers
use Rattle.log_lines.proofs.Losses.{answer_unless}
use Rattle.log_lines.proofs.Lines.{line-of-digits}
use Rattle.log_lines.proofs.Exactly.{are-digits, either, place, one_place}
use Rattle.log_lines.proofs.Spelled.{byte_in, byte-back, half_back, word_back, pairs, pairs-all, front-spelled}
use Rattle.log_lines.proofs.NoteLaws.{byte_small, event-spelled, old-note-fits, old-note-spelled, note-spelled, narrow_fits, fits_narrow}
use Rattle.log_lines.proofs.Converting.{old-of-digits, old-of-other, raised-of-digits, raised-of-other, lowerable, lowered-of-digits}

-- ---- what is written is read again
event-back : (e : ℕ) → e < 256 → byte_in e ≡ e
event-back e h = byte-back e ∙ omega arith

half-note-back : (z : ℤ) → SFits w16 z → to_z w16 (byte_in (of_z w16 z / 16 / 16) * 256 + byte_in (of_z w16 z)) ≡ z
half-note-back z f = ap (to_z w16) (half_back (of_z w16 z) (Fits-of_z {w = w16} f).fits) ∙ to_z-of_z {w = w16} f

word-note-back : (z : ℤ) → SFits w32 z
    → to_z w32
    (big_endian
    (byte_in (of_z w32 z / 16 / 16 / 16 / 16 / 16 / 16))
    (byte_in (of_z w32 z / 16 / 16 / 16 / 16))
    (byte_in (of_z w32 z / 16 / 16))
    (byte_in (of_z w32 z)))
    ≡ z
word-note-back z f = ap (to_z w32) (word_back (of_z w32 z) (Fits-of_z {w = w32} f).fits) ∙ to_z-of_z {w = w32} f

new-front : (e : ℕ) (a b c d : ℤ) → 34 ≤ digits_at_front (new_line e a b c d)
new-front e a b c d =
    let event = front-spelled 2 e (new_note a (new_note b (new_note c (new_note d [])))) in
    let first = front-spelled 8 (of_z w32 a) (new_note b (new_note c (new_note d []))) in
    let second = front-spelled 8 (of_z w32 b) (new_note c (new_note d [])) in
    let third = front-spelled 8 (of_z w32 c) (new_note d []) in
    let fourth = front-spelled 8 (of_z w32 d) [] in
    omega arith

old-front : (e : ℕ) (a b c : ℤ) → 14 ≤ digits_at_front (old_line e a b c)
old-front e a b c =
    let event = front-spelled 2 e (old_note a (old_note b (old_note c []))) in
    let first = front-spelled 4 (of_z w16 a) (old_note b (old_note c [])) in
    let second = front-spelled 4 (of_z w16 b) (old_note c []) in
    let third = front-spelled 4 (of_z w16 c) [] in
    omega arith

-- a line of today
new-back : (e : ℕ) (a b c d : ℤ) → e < 256 → SFits w32 a → SFits w32 b → SFits w32 c → SFits w32 d
    → line_of (new_line e a b c d) ≡ line e a b c d
unfolding digits_of
new-back e a b c d h i j k l =
    let event : byte_at (new_line e a b c d) 0 ≡ e = event-back e h in
    let first : note_at (new_line e a b c d) 0 ≡ a = word-note-back a i in
    let second : note_at (new_line e a b c d) 1 ≡ b = word-note-back b j in
    let third : note_at (new_line e a b c d) 2 ≡ c = word-note-back c k in
    let fourth : note_at (new_line e a b c d) 3 ≡ d = word-note-back d l in
    line-of-digits (new_line e a b c d) refl (new-front e a b c d) ∙ cc

-- an old line
old-back : (e : ℕ) (a b c : ℤ) → e < 256 → SFits w16 a → SFits w16 b → SFits w16 c
    → old_line_of (old_line e a b c) ≡ line e a b c (pos 0)
unfolding digits_of
old-back e a b c h i j k =
    let event : byte_at (old_line e a b c) 0 ≡ e = event-back e h in
    let first : old_note_at (old_line e a b c) 0 ≡ a = half-note-back a i in
    let second : old_note_at (old_line e a b c) 1 ≡ b = half-note-back b j in
    let third : old_note_at (old_line e a b c) 2 ≡ c = half-note-back c k in
    old-of-digits (old_line e a b c) (are-digits old_digits (old_line e a b c) refl (old-front e a b c)) ∙ cc

-- ---- answers
pub clash : {A : Type 0} {n p : ℕ} → done ≡ turned n p → A
clash h = absurd (let y : ◌≡◌ {A = ℕ} 0 1 = cc in omega arith)

pub numbers : {n m p q : ℕ} → turned n p ≡ turned m q → (n ≡ m) × (p ≡ q)
numbers h = (cc, cc)

-- ---- what 16 bits hold, as a test and as a fact
pub within_16 : {z : ℤ} → holds16 z ≡ true → In16 z
within_16 {z} e =
    let t = and_parts (le_z (negsuc 32767) z) (le_z z (pos 32767)) e in
    (le_z_yes (rw t.0 tt), le_z_yes (rw t.1 tt))

pub held_16 : {z : ℤ} → In16 z → holds16 z ≡ true
held_16 {z} h =
    let low = T_true (le_z (negsuc 32767) z) h.0.le in
    let high = T_true (le_z z (pos 32767)) h.1.le in
    and_from (le_z (negsuc 32767) z) (le_z z (pos 32767)) low high

-- 34 zero bytes are no digits
pub zeros-read : line_of (replicate line_digits 0) ≡ refused 15 0
unfolding digit_value digits_at_front bad_place line_of
zeros-read = refl

nothing_lost : (a b c : ℤ) → holds16 a ≡ true → holds16 b ≡ true → holds16 c ≡ true → loss_of a b c (pos 0) ≡ done
unfolding loss_of
nothing_lost a b c h i j = rw (h, i, j) refl

-- ---- what was read is written as it was, in capitals
module _ (s : List ℕ) where
  old-again : AreDigits old_digits s → old_line (byte_at s 0) (old_note_at s 0) (old_note_at s 1) (old_note_at s 2) ≡ map capital s
  old-again h =
      let digit = h.1 in
      let third = old-note-spelled s old_digits digit 10 [] (omega arith) in
      let second = old-note-spelled s old_digits digit 6 (pairs 2 s 10) (omega arith) in
      let first = old-note-spelled s old_digits digit 2 (pairs 4 s 6) (omega arith) in
      rw (third, second, first) (event-spelled s old_digits digit (pairs 6 s 2) (omega arith)) ∙ sym (pairs-all 7 s 0 (sym h.0))

  new-again : AllDigits s → new_line (byte_at s 0) (note_at s 0) (note_at s 1) (note_at s 2) (note_at s 3) ≡ map capital s
  new-again h =
      let digit = h.1 in
      let fourth = note-spelled s 34 digit 26 [] (omega arith) in
      let third = note-spelled s 34 digit 18 (pairs 4 s 26) (omega arith) in
      let second = note-spelled s 34 digit 10 (pairs 8 s 18) (omega arith) in
      let first = note-spelled s 34 digit 2 (pairs 12 s 10) (omega arith) in
      rw (fourth, third, second, first) (event-spelled s 34 digit (pairs 16 s 2) (omega arith))
      ∙ sym (pairs-all 17 s 0 (sym h.0))

  -- ---- the raised line
  pub same-reading : AreDigits old_digits s
      → line_of (raised_def s).line ≡ line (byte_at s 0) (old_note_at s 0) (old_note_at s 1) (old_note_at s 2) (pos 0)
  same-reading h =
      let wide : (at : ℕ) → at + 4 ≤ old_digits → SFits w32 (old_note_from s at) =
      λ at k. sfits_widen {w = w16} {w' = w32} tt (old-note-fits s old_digits h.1 at [] k) in
      ap (λ (r : Converted). line_of r.line) (raised-of-digits s h)
      ∙ new-back (byte_at s 0) (old_note_at s 0) (old_note_at s 1) (old_note_at s 2) (pos 0)
      (byte_small s old_digits h.1 0 (omega arith))
      (wide 2 (omega arith)) (wide 6 (omega arith)) (wide 10 (omega arith)) (record { sfits = omega arith })

  -- the bytes of one that is refused
  pub refused-reading : (AreDigits old_digits s → ⊥) → line_of (raised_def s).line ≡ refused 15 0
  refused-reading h = ap (λ (r : Converted). line_of r.line) (raised-of-other s h) ∙ zeros-read

  -- ---- up and then down
  pub raised-digits : (raised_def s).answer ≡ done → AreDigits old_digits s
  raised-digits e =
      ⊎_elim
      (λ h. h)
      (λ n. clash (sym e ∙ ap (λ (r : Converted). r.answer) (raised-of-other s n)))
      (either old_digits s)

  pub up_down : (raised_def s).answer ≡ done → lowered_def (raised_def s).line ≡ converted (map capital s)
  unfolding lowered_def
  up_down e =
      let h = raised-digits e in
      let held : (at : ℕ) → at + 4 ≤ old_digits → holds16 (old_note_from s at) ≡ true =
      λ at k. fits_narrow (old_note_from s at) (old-note-fits s old_digits h.1 at [] k) in
      let none =
      nothing_lost (old_note_at s 0) (old_note_at s 1) (old_note_at s 2)
      (held 2 (omega arith)) (held 6 (omega arith)) (held 10 (omega arith)) in
      ap lowered_by (same-reading h)
      ∙ ap (λ (a : ConversionAnswer). unless_lost a (old_line (byte_at s 0) (old_note_at s 0) (old_note_at s 1) (old_note_at s 2))) none
      ∙ ap converted (old-again h)

  -- ---- down and then up
  pub down_up : (lowered_def s).answer ≡ done → raised_def (lowered_def s).line ≡ converted (map capital s)
  unfolding raised_def
  down_up e =
      let w = lowerable s e in
      let fourth : note_at s 3 ≡ pos 0 = nat_abs_zero (note_at s 3) (eqb-true _ _ w.fourth) in
      let read =
      old-back (byte_at s 0) (note_at s 0) (note_at s 1) (note_at s 2) (byte_small s 34 w.digits.1 0 (omega arith))
      (narrow_fits (note_at s 0) w.first) (narrow_fits (note_at s 1) w.second) (narrow_fits (note_at s 2) w.third) in
      ap (λ (r : Converted). raised_by (old_line_of r.line)) w.gives
      ∙ ap raised_by read
      ∙ ap (λ (z : ℤ). converted (new_line (byte_at s 0) (note_at s 0) (note_at s 1) (note_at s 2) z)) (sym fourth)
      ∙ ap converted (new-again w.digits)

  -- ---- which lines are brought up, and where the others are refused
  pub raises_exactly : (raised_def s).answer ≡ done ↔ AreDigits old_digits s
  raises_exactly = (raised-digits, λ h. ap (λ (r : Converted). r.answer) (raised-of-digits s h))

  pub place_23 : (n p : ℕ) → (raised_def s).answer ≡ turned n p ↔ (AreDigits old_digits s → ⊥) × (n ≡ 23) × BadPlace old_digits s p
  place_23 n p = (
    λ q. ⊎_elim
        (λ h. clash (sym (ap (λ (r : Converted). r.answer) (raised-of-digits s h)) ∙ q))
        (λ h. let r = numbers (sym q ∙ ap (λ (r : Converted). r.answer) (raised-of-other s h)) in (h, r.0, rw r.1 place))
        (either old_digits s),
    λ h. let e : bad_place_of old_digits s ≡ p = one_place place h.2 in
        ap (λ (r : Converted). r.answer) (raised-of-other s h.0) ∙ cc,
  )

  -- both cases of an old line: how it is read, what raising answers, how the raised line is read
  pub raised-or-refused :
      ((old_line_of s ≡ line (byte_at s 0) (old_note_at s 0) (old_note_at s 1) (old_note_at s 2) (pos 0)) × ((raised_def s).answer ≡ done)
      × (line_of (raised_def s).line ≡ old_line_of s))
      ⊎ ((old_line_of s ≡ refused 23 (bad_place_of old_digits s)) × ((raised_def s).answer ≡ turned 23 (bad_place_of old_digits s)))
  raised-or-refused =
      ⊎_elim
      (λ h. let old = old-of-digits s h in
      inl (old, ap (λ (r : Converted). r.answer) (raised-of-digits s h), same-reading h ∙ sym old))
      (λ n. inr (old-of-other s n, ap (λ (r : Converted). r.answer) (raised-of-other s n)))
      (either old_digits s)

  -- ---- which lines are brought down
  pub lowers_exactly : (lowered_def s).answer ≡ done
      ↔ AllDigits s × (note_at s 3 ≡ pos 0) × In16 (note_at s 0) × In16 (note_at s 1) × In16 (note_at s 2)
  lowers_exactly = (
    λ e. let w = lowerable s e in
        let fourth = nat_abs_zero (note_at s 3) (eqb-true _ _ w.fourth) in
        (w.digits, fourth, within_16 w.first, within_16 w.second, within_16 w.third),
    λ h. let none = nothing_lost (note_at s 0) (note_at s 1) (note_at s 2) (held_16 h.2) (held_16 h.3) (held_16 h.4) in
        ap (λ (r : Converted). r.answer) (lowered-of-digits s h.0)
        ∙ answer_unless (loss_of (note_at s 0) (note_at s 1) (note_at s 2) (note_at s 3)) _
        ∙ ap (loss_of (note_at s 0) (note_at s 1) (note_at s 2)) h.1
        ∙ none,
  )

-- ---- what is told of an answer fixes it
abbrev bad : ℕ → BadLine
bad p = record { place = p }

abbrev bad-old : ℕ → BadOldLine
bad-old p = record { place = p }

pub raise_told_injective : (a b : Result (List ℕ) BadOldLine) → raise_told a ≡ raise_told b → a ≡ b
unfolding raise_told
raise_told_injective (Ok s) (Ok t) h = ap Ok (ap (λ (r : Converted). r.line) h)
raise_told_injective (Ok s) (Err q) h = clash (ap (λ (r : Converted). r.answer) h)
raise_told_injective (Err p) (Ok t) h = clash (sym (ap (λ (r : Converted). r.answer) h))
raise_told_injective (Err p) (Err q) h =
    let e = numbers (ap (λ (r : Converted). r.answer) h) in ap (λ (n : ℕ). Err (bad-old n)) e.1

-- why a line is not brought down, by its number and place
same-why : (x y : NotLowered) → lower_number x ≡ lower_number y → lower_place x ≡ lower_place y → x ≡ y
same-why (lowers.Bad p) (lowers.Bad q) h i = ap (λ (n : ℕ). lowers.Bad (bad n)) i
same-why (lowers.Bad p) lowers.Fourth h i = absurd (omega arith)
same-why (lowers.Bad p) (lowers.Wide q) h i = absurd (omega arith)
same-why lowers.Fourth (lowers.Bad q) h i = absurd (omega arith)
same-why lowers.Fourth lowers.Fourth h i = refl
same-why lowers.Fourth (lowers.Wide q) h i = absurd (omega arith)
same-why (lowers.Wide p) (lowers.Bad q) h i = absurd (omega arith)
same-why (lowers.Wide p) lowers.Fourth h i = absurd (omega arith)
same-why (lowers.Wide p) (lowers.Wide q) h i = cc

pub lower_told_injective : (a b : Result (List ℕ) NotLowered) → lower_told a ≡ lower_told b → a ≡ b
unfolding lower_told
lower_told_injective (Ok s) (Ok t) h = ap Ok (ap (λ (r : Converted). r.line) h)
lower_told_injective (Ok s) (Err q) h = clash (ap (λ (r : Converted). r.answer) h)
lower_told_injective (Err p) (Ok t) h = clash (sym (ap (λ (r : Converted). r.answer) h))
lower_told_injective (Err p) (Err q) h =
    let e = numbers (ap (λ (r : Converted). r.answer) h) in ap Err (same-why p q e.0 e.1)
