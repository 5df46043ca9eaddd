-- Notes of 16 and of 32 bits from a line's digits, written out again in either width. Assumes nothing.
use mathlib.Core.Path.{◌≡◌, refl, sym, ap, ◌∙◌}
use mathlib.Core.Bool.{Bool, true, false, cond}
use mathlib.Core.List.{List, ◌∷◌}
use Prim.Native.Nat.{ℕ, suc, ◌+◌, ◌-◌, ◌*◌, ◌^◌, ◌≤◌, ◌<◌}
use native.Mathlib.Omega.{arith}
use borrow.Author.Tests.{leb-true, leb-false, le-leb, ltb-true, ltb-false, le-ltb}
use lib.Dec.{leb, ltb}
use lib.IntN.{ℤ, pos, negsuc}
use lib.ListN.{get_or}
use mir.Syntax.{w16, w32}
use mir.Val.{Fits, SFits, to_z, of_z, sel}
use mir.Facts.{of_z-to_z, to_z_pos, sfits_to_z}
use Rattle.numbers.specs.Word.{big_endian}
use Rattle.std.proofs.lemmas.Bool.{and_parts}
use Rattle.log_lines.specs.Digit.{digit_value, is_digit}
use Rattle.log_lines.specs.Line.{byte_from, note_from}
use Rattle.log_lines.specs.Earlier.{digits_of, old_note, new_note, old_note_from, holds16}
use Rattle.log_lines.proofs.Spelled.{pair_onto, byte-spelled}

-- ---- numbers of 16 bits and of 32
-- 16 bits as 32: the same below 2^15, else with the upper half set
module _ (n : ℕ) where
  low_widened : n < 32768 → of_z w32 (to_z w16 n) ≡ n
  low_widened h = ap (of_z w32) (to_z_pos w16 h)

  high_widened : 32768 ≤ n → n < 65536 → of_z w32 (to_z w16 n) ≡ 65535 * 65536 + n
  high_widened h k = rw (le-ltb n 32768 h) (omega arith)

-- 32 bits as 16, where they hold the number: the lower half
module _ (u n : ℕ) where
  narrowed : u < 65536 → n < 65536 → holds16 (to_z w32 (u * 65536 + n)) ≡ true → of_z w16 (to_z w32 (u * 65536 + n)) ≡ n
  narrowed h k = go (ltb (u * 65536 + n) (2 ^ 31)) refl
    where
      go : (t : Bool) → ltb (u * 65536 + n) (2 ^ 31) ≡ t
          → holds16 (sel t (pos (u * 65536 + n)) (negsuc (2 ^ 32 - suc (u * 65536 + n)))) ≡ true
          → of_z w16 (sel t (pos (u * 65536 + n)) (negsuc (2 ^ 32 - suc (u * 65536 + n)))) ≡ n
      go true e f = let l = leb-true (u * 65536 + n) 32767 f in omega arith
      go false e f =
          let t = and_parts (leb (2 ^ 32 - suc (u * 65536 + n)) 32767) true f in
          let l = leb-true (2 ^ 32 - suc (u * 65536 + n)) 32767 t.0 in
          let g = ltb-false (u * 65536 + n) (2 ^ 31) e in
          omega arith

-- a number that 16 bits hold
pub narrow_fits : (z : ℤ) → holds16 z ≡ true → SFits w16 z
narrow_fits (pos n) e = record { sfits = omega (arith, leb-true n 32767 e) }
narrow_fits (negsuc n) e =
    let t = and_parts (leb n 32767) true e in
    record { sfits = omega (arith, leb-true n 32767 t.0) }

pub fits_narrow : (z : ℤ) → SFits w16 z → holds16 z ≡ true
fits_narrow (pos n) f = le-leb n 32767 (omega (arith, f.sfits))
fits_narrow (negsuc n) f = rw (le-leb n 32767 (omega (arith, f.sfits)))

-- four sign digits, before others
abbrev pub sign_onto : ℕ → List ℕ → List ℕ
sign_onto d rest = d ∷ (d ∷ (d ∷ (d ∷ rest)))

-- ---- notes of a line of which the first m bytes are digits
module _ (s : List ℕ) (m : ℕ) (digits : (k : ℕ) → k < m → is_digit (get_or s k 0) ≡ true) where
  pub byte_small : (at : ℕ) → at + 2 ≤ m → byte_from s at < 256
  byte_small at h =
      let a = ltb-true (digit_value (get_or s at 0)) 16 (digits at (omega arith)) in
      let b = ltb-true (digit_value (get_or s (at + 1) 0)) 16 (digits (at + 1) (omega arith)) in
      omega arith

  pair-spelled : (k n at : ℕ) (rest : List ℕ) → at + 2 ≤ m
      → digits_of (suc (suc k)) (n * 256 + byte_from s at) rest ≡ digits_of k n (pair_onto s at rest)
  pair-spelled k n at rest h = byte-spelled s k n at rest (digits at (omega arith)) (digits (at + 1) (omega arith))

  -- two bytes
  half-spelled : (k n p q : ℕ) (rest : List ℕ) → p + 2 ≤ m → q + 2 ≤ m
      → digits_of (suc (suc (suc (suc k)))) (n * 65536 + (byte_from s p * 256 + byte_from s q)) rest
      ≡ digits_of k n (pair_onto s p (pair_onto s q rest))
  half-spelled k n p q rest h i =
      let e : n * 65536 + (byte_from s p * 256 + byte_from s q) ≡ (n * 256 + byte_from s p) * 256 + byte_from s q = omega arith in
      ap (λ (x : ℕ). digits_of (suc (suc (suc (suc k)))) x rest) e
      ∙ pair-spelled (suc (suc k)) (n * 256 + byte_from s p) q rest i
      ∙ pair-spelled k n p (pair_onto s q rest) h

  -- the event
  pub event-spelled : (rest : List ℕ) → 2 ≤ m → digits_of 2 (byte_from s 0) rest ≡ pair_onto s 0 rest
  unfolding digits_of
  event-spelled rest h =
      let e : byte_from s 0 ≡ 0 * 256 + byte_from s 0 = omega arith in
      ap (λ (x : ℕ). digits_of 2 x rest) e ∙ pair-spelled 0 0 0 rest h

  -- an old note, from a place on, in 16 bits and in 32
  module _ (at : ℕ) (rest : List ℕ) (h : at + 4 ≤ m) where
    half : ℕ
    half = byte_from s at * 256 + byte_from s (at + 2)

    half-small : half < 65536
    unfolding half
    half-small = let a = byte_small at (omega arith) in let b = byte_small (at + 2) (omega arith) in omega arith

    pub old-note-fits : SFits w16 (old_note_from s at)
    unfolding half
    old-note-fits = sfits_to_z {w = w16} (record { fits = half-small })

    pub old-note-spelled : old_note (old_note_from s at) rest ≡ pair_onto s at (pair_onto s (at + 2) rest)
    unfolding digits_of half
    old-note-spelled =
        let e : of_z w16 (old_note_from s at) ≡ 0 * 65536 + half = of_z-to_z {w = w16} (record { fits = half-small }) ∙ omega arith in
        ap (λ (x : ℕ). digits_of 4 x rest) e ∙ half-spelled 0 0 at (at + 2) rest (omega arith) (omega arith)

    raised_by_lem : (x : Bool) → leb 8 (digit_value (get_or s at 0)) ≡ x
        → digits_of 8 (of_z w32 (to_z w16 half)) rest ≡ sign_onto (cond x 0x46 0x30) (pair_onto s at (pair_onto s (at + 2) rest))
    unfolding digits_of half
    raised_by_lem false e =
        let l = leb-false 8 (digit_value (get_or s at 0)) e in
        let a = ltb-true (digit_value (get_or s (at + 1) 0)) 16 (digits (at + 1) (omega arith)) in
        let b = byte_small (at + 2) (omega arith) in
        let w : of_z w32 (to_z w16 half) ≡ 0 * 65536 + half = low_widened half (omega arith) ∙ omega arith in
        ap (λ (x : ℕ). digits_of 8 x rest) w ∙ half-spelled 4 0 at (at + 2) rest (omega arith) (omega arith)
    raised_by_lem true e =
        let l = leb-true 8 (digit_value (get_or s at 0)) e in
        let w : of_z w32 (to_z w16 half) ≡ 65535 * 65536 + half = high_widened half (omega arith) half-small in
        ap (λ (x : ℕ). digits_of 8 x rest) w ∙ half-spelled 4 65535 at (at + 2) rest (omega arith) (omega arith)

    pub raised-note-spelled : new_note (old_note_from s at) rest
        ≡ sign_onto (cond (leb 8 (digit_value (get_or s at 0))) 0x46 0x30) (pair_onto s at (pair_onto s (at + 2) rest))
    unfolding half
    raised-note-spelled = raised_by_lem (leb 8 (digit_value (get_or s at 0))) refl

  -- a note of 32 bits, from a place on, in 32 bits and, where they hold it, in 16
  module _ (at : ℕ) (rest : List ℕ) (h : at + 8 ≤ m) where
    upper : ℕ
    upper = byte_from s at * 256 + byte_from s (at + 2)

    lower : ℕ
    lower = byte_from s (at + 4) * 256 + byte_from s (at + 6)

    halves : big_endian (byte_from s at) (byte_from s (at + 2)) (byte_from s (at + 4)) (byte_from s (at + 6)) ≡ upper * 65536 + lower
    unfolding upper lower
    halves = omega arith

    small : (upper < 65536) × (lower < 65536)
    unfolding upper lower
    small =
        let a = byte_small at (omega arith) in
        let b = byte_small (at + 2) (omega arith) in
        let c = byte_small (at + 4) (omega arith) in
        let d = byte_small (at + 6) (omega arith) in
        (omega arith, omega arith)

    pub note-spelled : new_note (note_from s at) rest
        ≡ pair_onto s at (pair_onto s (at + 2) (pair_onto s (at + 4) (pair_onto s (at + 6) rest)))
    unfolding digits_of upper lower
    note-spelled =
        let f : Fits w32 (big_endian (byte_from s at) (byte_from s (at + 2)) (byte_from s (at + 4)) (byte_from s (at + 6))) =
        record { fits = omega (arith, halves, small.0, small.1) } in
        let e : of_z w32 (note_from s at) ≡ upper * 65536 + lower = of_z-to_z {w = w32} f ∙ halves in
        let z : upper ≡ 0 * 65536 + upper = omega arith in
        ap (λ (x : ℕ). digits_of 8 x rest) e
        ∙ half-spelled 4 upper (at + 4) (at + 6) rest (omega arith) (omega arith)
        ∙ ap (λ (x : ℕ). digits_of 4 x (pair_onto s (at + 4) (pair_onto s (at + 6) rest))) z
        ∙ half-spelled 0 0 at (at + 2) (pair_onto s (at + 4) (pair_onto s (at + 6) rest)) (omega arith) (omega arith)

    pub lowered-note-spelled : holds16 (note_from s at) ≡ true
        → old_note (note_from s at) rest ≡ pair_onto s (at + 4) (pair_onto s (at + 6) rest)
    unfolding digits_of upper lower
    lowered-note-spelled g =
        let i : holds16 (to_z w32 (upper * 65536 + lower)) ≡ true = sym (ap (λ (x : ℕ). holds16 (to_z w32 x)) halves) ∙ g in
        let e : of_z w16 (note_from s at) ≡ 0 * 65536 + lower =
        ap (λ (x : ℕ). of_z w16 (to_z w32 x)) halves ∙ narrowed upper lower small.0 small.1 i ∙ omega arith in
        ap (λ (x : ℕ). digits_of 4 x rest) e ∙ half-spelled 0 0 (at + 4) (at + 6) rest (omega arith) (omega arith)
