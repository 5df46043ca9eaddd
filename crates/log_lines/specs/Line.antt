-- Log lines, in document 01's words. Assumes nothing: definitions.
use Rattle.std.specs.Prelude.{◌≡◌, Bool, true, false, cond, ◌&&◌, List, [], ◌∷◌, ℕ, suc, ◌+◌, ◌*◌}
use Rattle.std.specs.Prelude.{◌≤◌, ◌<◌, min, leb, eqb, ℤ, length, get_or, drop, Option, Some, None, Result, Ok, Err}
use Rattle.numbers.specs.Word.{signed_word}
use Rattle.log_lines.specs.Digit.{digit_value, is_digit}
use Rattle.log_lines.specs.Pair.{pair_of}
use Rattle.log_lines.specs.declared.line.BadLine.{BadLine}
use Rattle.log_lines.specs.declared.line.Line.{Line}
use Rattle.log_lines.specs.declared.line.Notes.{Notes}

-- "A log line is 34 digits"
abbrev pub line_digits : ℕ
line_digits = 34

-- how many digits stand at the front: the place of "the first non-digit", or the length
unfoldable pub digits_at_front : List ℕ → ℕ
digits_at_front [] = 0
digits_at_front (b ∷ bs) = cond (is_digit b) (suc (digits_at_front bs)) 0

-- the place of 15, and of 23 with 14 for 34: "the lower of the first non-digit and the shorter of length and" n
abbrev pub bad_place_of : ℕ → List ℕ → ℕ
bad_place_of n s = min (digits_at_front s) (min (length s) n)

-- refusal 15: "the lower of the first non-digit and the shorter of length and 34"
unfoldable pub bad_place : List ℕ → ℕ
bad_place s = bad_place_of 34 s

-- what the two bytes from a place on are as a pair
abbrev pub pair_from : List ℕ → ℕ → Option ℕ
pair_from s at = pair_of (get_or s at 0) (get_or s (at + 1) 0)

-- the byte of two digits from a place on
abbrev pub byte_from : List ℕ → ℕ → ℕ
byte_from s at = 16 * digit_value (get_or s at 0) + digit_value (get_or s (at + 1) 0)

-- the k-th byte of a line, counted from 0
abbrev pub byte_at : List ℕ → ℕ → ℕ
byte_at s k = byte_from s (2 * k)

-- "event (1 byte), four notes (signed 32-bit, big-endian)": the n-th note, counted from 0
abbrev pub note_at : List ℕ → ℕ → ℤ
note_at s n = signed_word (byte_at s (1 + 4 * n)) (byte_at s (2 + 4 * n)) (byte_at s (3 + 4 * n)) (byte_at s (4 + 4 * n))

-- the note of eight digits from a place on
abbrev pub note_from : List ℕ → ℕ → ℤ
note_from s at = signed_word (byte_from s at) (byte_from s (at + 2)) (byte_from s (at + 4)) (byte_from s (at + 6))

-- what the eight bytes from a place on are as a note: eight digits are one
unfoldable pub noted : List ℕ → ℕ → Option ℤ
noted s at = cond (leb 8 (digits_at_front (drop at s))) (Some (note_from s at)) None

-- what the 32 bytes behind the event are as "four notes": 32 digits are
unfoldable pub notes_of : List ℕ → Option Notes
notes_of s =
    cond (leb 32 (digits_at_front (drop 2 s)))
    (Some (record { 0 = note_at s 0; 1 = note_at s 1; 2 = note_at s 2; 3 = note_at s 3 }))
    None

-- the answer to a line: its event and its four notes, or a refusal, "its number and place"
pub data LineAnswer : Type 0 where
  line : (event : ℕ) (first second third fourth : ℤ) → LineAnswer
  refused : (number place : ℕ) → LineAnswer

-- document 01's number and values for each case of the code's answer: a bad line is refusal 15
unfoldable pub line_told : Result Line BadLine → LineAnswer
line_told (Ok l) = line l.event l.notes.0 l.notes.1 l.notes.2 l.notes.3
line_told (Err b) = refused 15 b.place

-- n digits: no less, no more, and no other byte
abbrev pub are_digits : ℕ → List ℕ → Bool
are_digits n s = eqb (length s) n && eqb (digits_at_front s) n

-- "34 digits"
abbrev pub is_line : List ℕ → Bool
is_line s = are_digits 34 s

-- "A log line is 34 digits .. event (1 byte), four notes"; refusal 15, "not 34 digits"
unfoldable pub line_of : List ℕ → LineAnswer
line_of s = cond (is_line s) (line (byte_at s 0) (note_at s 0) (note_at s 1) (note_at s 2) (note_at s 3)) (refused 15 (bad_place s))

-- n digits, byte by byte
abbrev pub AreDigits : ℕ → List ℕ → Type 0
AreDigits n s = (length s ≡ n) × ((k : ℕ) → k < n → is_digit (get_or s k 0) ≡ true)

-- "34 digits", byte by byte
abbrev pub AllDigits : List ℕ → Type 0
AllDigits s = AreDigits 34 s

-- the place of 15 and of 23, byte by byte: "the lower of the first non-digit and the shorter of length and" n
pub record BadPlace (n : ℕ) (s : List ℕ) (p : ℕ) : Type 0 where
  pub before : (k : ℕ) → k < p → is_digit (get_or s k 0) ≡ true
  pub within : p ≤ min (length s) n
  pub stops : p < min (length s) n → is_digit (get_or s p 0) ≡ false

-- refusal 15's place, byte by byte
abbrev pub PlaceOf15 : List ℕ → ℕ → Type 0
PlaceOf15 s p = BadPlace 34 s p
