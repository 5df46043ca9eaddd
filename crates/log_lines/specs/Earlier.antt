-- Lines of the earlier edition, and the converter between them and today's. From document 02, point 8; old line and raised line are
-- its terms. Assumes nothing: definitions.
use Rattle.std.specs.Prelude.{◌≡◌, Bool, true, false, cond, ◌&&◌, List, [], ◌∷◌, ℕ, zero, suc, ◌+◌, ◌*◌}
use Rattle.std.specs.Prelude.{◌/◌, ◌%◌, ◌<◌, ℤ, pos, negsuc, nat_abs, ◌≤ℤ◌, eqb, replicate, Result, Ok, Err}
use Rattle.std.specs.Int.Signed.{le_z}
use Rattle.std.specs.Int.{w16, w32}
use Rattle.std.proofs.Common.{of_z}
use Rattle.numbers.specs.Word.{signed_half}
use Rattle.log_lines.specs.Digit.{hex_digit}
use Rattle.log_lines.specs.Line.{line_digits, byte_from, byte_at, note_at, are_digits, bad_place_of}
use Rattle.log_lines.specs.Line.{LineAnswer, line, refused, line_of, AllDigits, PlaceOf15}
use Rattle.log_lines.specs.declared.earlier.BadOldLine.{BadOldLine}
use Rattle.log_lines.specs.declared.earlier.NotLowered.{NotLowered}
use Rattle.log_lines.specs.declared.earlier.NotLowered.TheVariants as lowers

-- ---- old lines
-- "lines of 14 digits"
abbrev pub old_digits : ℕ
old_digits = 14

-- a note "of signed 16 bits", of four digits from a place on
abbrev pub old_note_from : List ℕ → ℕ → ℤ
old_note_from s at = signed_half (byte_from s at) (byte_from s (at + 2))

-- "event, three notes of signed 16 bits": the n-th note, counted from 0
abbrev pub old_note_at : List ℕ → ℕ → ℤ
old_note_at s n = old_note_from s (2 + 4 * n)

-- "lines of 14 digits: event, three notes of signed 16 bits .. the fourth note 0"; refusal 23, "an old line that isn't 14 digits,
-- place as in 15 with 14 for 34"
unfoldable pub old_line_of : List ℕ → LineAnswer
old_line_of s =
    cond (are_digits old_digits s)
    (line (byte_at s 0) (old_note_at s 0) (old_note_at s 1) (old_note_at s 2) (pos 0))
    (refused 23 (bad_place_of old_digits s))

-- ---- lines "in capitals"
-- the last k digits of a number, the most significant first, before others
unfoldable pub digits_of : ℕ → ℕ → List ℕ → List ℕ
digits_of zero n rest = rest
digits_of (suc k) n rest = digits_of k (n / 16) (hex_digit (n % 16) ∷ rest)

-- a note "of signed 16 bits", in two's complement, before others
abbrev pub old_note : ℤ → List ℕ → List ℕ
old_note z rest = digits_of 4 (of_z w16 z) rest

-- a note, "signed 32-bit, big-endian", before others
abbrev pub new_note : ℤ → List ℕ → List ℕ
new_note z rest = digits_of 8 (of_z w32 z) rest

-- "event, three notes of signed 16 bits"
abbrev pub old_line : ℕ → ℤ → ℤ → ℤ → List ℕ
old_line e a b c = digits_of 2 e (old_note a (old_note b (old_note c [])))

-- document 01's "event (1 byte), four notes (signed 32-bit, big-endian)"
abbrev pub new_line : ℕ → ℤ → ℤ → ℤ → ℤ → List ℕ
new_line e a b c d = digits_of 2 e (new_note a (new_note b (new_note c (new_note d []))))

-- ---- the converter
-- the answer to a conversion: done, or a refusal, "its number and place"
pub data ConversionAnswer : Type 0 where
  done : ConversionAnswer
  turned : (number place : ℕ) → ConversionAnswer

-- "It hands back the line by value": the answer, and the line's bytes
pub record Converted : Type 0 where
  pub answer : ConversionAnswer
  pub line : List ℕ

-- a line, done
abbrev pub converted : List ℕ → Converted
converted s = record { answer = done; line = s }

-- a refused conversion to n digits hands back n zero bytes, the value 0 and not the digit
abbrev pub not_converted : ℕ → ℕ → ℕ → Converted
not_converted n number place = record { answer = turned number place; line = replicate n 0 }

-- document 02's number and values for each case of what `raised` answers: an old line that is bad is 23
unfoldable pub raise_told : Result (List ℕ) BadOldLine → Converted
raise_told (Ok s) = converted s
raise_told (Err b) = not_converted line_digits 23 b.place

-- document 02's number for each case of why a line is not brought down: `Bad` is 15, `Fourth` 24 and `Wide` 25
abbrev pub lower_number : NotLowered → ℕ
lower_number (lowers.Bad b) = 15
lower_number lowers.Fourth = 24
lower_number (lowers.Wide p) = 25

-- .. and its place; 24 names none
abbrev pub lower_place : NotLowered → ℕ
lower_place (lowers.Bad b) = b.place
lower_place lowers.Fourth = 0
lower_place (lowers.Wide p) = p

-- .. of what is lost of a line
unfoldable pub loss_told : Result (Unit {0}) NotLowered → ConversionAnswer
loss_told (Ok _) = done
loss_told (Err why) = turned (lower_number why) (lower_place why)

-- .. of what `lowered` answers
unfoldable pub lower_told : Result (List ℕ) NotLowered → Converted
lower_told (Ok s) = converted s
lower_told (Err why) = not_converted old_digits (lower_number why) (lower_place why)

-- "brings them up, the fourth note 0": what an old line gives, as it was read
abbrev pub raised_by : LineAnswer → Converted
raised_by (line e a b c d) = converted (new_line e a b c d)
raised_by (refused number place) = not_converted line_digits number place

-- "A converter brings them up": every old line, with 23
unfoldable pub raised_def : List ℕ → Converted
raised_def s = raised_by (old_line_of s)

-- what "16 bits can .. hold": -32,768 to 32,767
abbrev pub holds16 : ℤ → Bool
holds16 z = le_z (negsuc 32767) z && le_z z (pos 32767)

-- the same, as a fact
abbrev pub In16 : ℤ → Type 0
In16 z = (negsuc 32767 ≤ℤ z) × (z ≤ℤ pos 32767)

-- 25's "place the first such note's first digit": where the n-th note of a line begins, counted from 0
abbrev pub note_place : ℕ → ℕ
note_place n = 2 + 8 * n

-- "24, a fourth note other than 0; 25, one of the first three notes that 16 bits can't hold, place the first such note's first
-- digit; in this order": whether the fourth note is 0, and whether 16 bits hold the first, the second and the third
abbrev pub loss_by : Bool → Bool → Bool → Bool → ConversionAnswer
loss_by false first second third = turned 24 0
loss_by true false second third = turned 25 (note_place 0)
loss_by true true false third = turned 25 (note_place 1)
loss_by true true true false = turned 25 (note_place 2)
loss_by true true true true = done

-- what would be lost of four notes
unfoldable pub loss_of : ℤ → ℤ → ℤ → ℤ → ConversionAnswer
loss_of a b c d = loss_by (eqb (nat_abs d) 0) (holds16 a) (holds16 b) (holds16 c)

-- "where nothing is lost": the line, or else the refusal
abbrev pub unless_lost : ConversionAnswer → List ℕ → Converted
unless_lost done s = converted s
unless_lost (turned number place) s = not_converted old_digits number place

-- "brings new lines down where nothing is lost .. after 15": what a line gives, as it was read
abbrev pub lowered_by : LineAnswer → Converted
lowered_by (refused number place) = not_converted old_digits number place
lowered_by (line e a b c d) = unless_lost (loss_of a b c d) (old_line e a b c)

-- "brings new lines down where nothing is lost": every line, with 15, 24 and 25
unfoldable pub lowered_def : List ℕ → Converted
lowered_def s = lowered_by (line_of s)

-- 25's place, note by note: "one of the first three notes that 16 bits can't hold, place the first such note's first digit"
pub record PlaceOf25 (s : List ℕ) (p : ℕ) : Type 0 where
  pub note : ℕ
  pub first_three : note < 3
  pub wide : In16 (note_at s note) → ⊥
  pub first : (n : ℕ) → n < note → In16 (note_at s n)
  pub begins : p ≡ note_place note

-- "24 .. 25 .. in this order after 15": what each refusal of a line to be brought down says of it
pub data LowerRefused (s : List ℕ) : ℕ → ℕ → Type 0 where
  not_a_line : (p : ℕ) → (AllDigits s → ⊥) → PlaceOf15 s p → LowerRefused s 15 p
  fourth : AllDigits s → (note_at s 3 ≡ pos 0 → ⊥) → LowerRefused s 24 0
  wide : (p : ℕ) → AllDigits s → note_at s 3 ≡ pos 0 → PlaceOf25 s p → LowerRefused s 25 p
