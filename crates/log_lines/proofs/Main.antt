-- What is proved of log lines, beside the contracts. Assumes nothing.
use Rattle.std.specs.Prelude.{Some, Result}
use mathlib.Core.Path.{◌≡◌}
use mathlib.Core.Logic.{◌↔◌, ◌⊎◌}
use mathlib.Core.List.{List, [], map}
use Prim.Native.Nat.{ℕ, ◌≤◌, ◌<◌}
use lib.IntN.{ℤ, pos}
use lib.ListN.{length, replicate}
use denote.Ref.{Bor}
use Rattle.log_lines.specs.Digit.{digit_value, capital, hex_digit}
use Rattle.log_lines.specs.Line.{line_digits, digits_at_front, bad_place_of, bad_place, byte_at, note_at, line, refused, line_told, line_of}
use Rattle.log_lines.specs.Line.{AreDigits, AllDigits, BadPlace, PlaceOf15}
use Rattle.log_lines.specs.Earlier.{old_digits, old_note_at, old_line_of, done, turned, converted, raise_told, raised_def, In16, lower_told, lowered_def}
use Rattle.log_lines.specs.Earlier.{LowerRefused}
use Rattle.log_lines.specs.Walk.{lines_of, end_of, line_at, walked, start_of, Yields}
use Rattle.log_lines.specs.declared.line.Line.{Line}
use Rattle.log_lines.specs.declared.line.BadLine.{BadLine}
use Rattle.log_lines.specs.declared.earlier.BadOldLine.{BadOldLine}
use Rattle.log_lines.specs.declared.earlier.NotLowered.{NotLowered}
use Rattle.log_lines.specs.declared.walk.Span.{Span}
use Rattle.log_lines.proofs.Lines as lines
use Rattle.log_lines.proofs.Exactly as exactly
use Rattle.log_lines.proofs.Cases as cases
use Rattle.log_lines.proofs.Answers as answers
use Rattle.log_lines.proofs.Conversions as conversions
use Rattle.log_lines.proofs.Refusals as refusals
use Rattle.log_lines.proofs.Values as values
use Rattle.log_lines.proofs.Walking as walking
use Rattle.log_lines.proofs.Examples as examples

-- A line is read exactly where 34 digits stand, and then as its event and its four notes.
pub line_exactly : (s : List ℕ) (e : ℕ) (a b c d : ℤ)
    → line_of s ≡ line e a b c d
    ↔ AllDigits s × (e ≡ byte_at s 0) × (a ≡ note_at s 0) × (b ≡ note_at s 1) × (c ≡ note_at s 2) × (d ≡ note_at s 3)
line_exactly = exactly.line_exactly

-- Anything else is refused, with 15 and no other number, at the place that the document names.
pub place_15 : (s : List ℕ) (n p : ℕ)
    → line_of s ≡ refused n p
    ↔ (AllDigits s → ⊥) × (n ≡ 15) × PlaceOf15 s p
place_15 = exactly.place_15

-- That place is one.
pub place-unique : (s : List ℕ) (p q : ℕ) → PlaceOf15 s p → PlaceOf15 s q → p ≡ q
place-unique = exactly.place-unique

-- Other than 34 bytes, or fewer than 34 digits at the front: refused with 15 at `bad_place`.
pub line-of-other : (s : List ℕ) → (length s ≡ 34 → 34 ≤ digits_at_front s → ⊥) → line_of s ≡ refused 15 (bad_place s)
line-of-other = lines.line-of-other

-- Both cases are read as one: a line in capitals has the line's own answer, with 15 at the same place.
pub either_case : (s : List ℕ) → line_of (map capital s) ≡ line_of s
either_case = cases.either_case

-- What is told of an answer fixes the answer, so that the contract of `read_line` allows one answer only.
pub told_injective : (a b : Result Line BadLine) → line_told a ≡ line_told b → a ≡ b
told_injective = answers.line_told_injective

-- ---- document 02, point 8: lines of the earlier edition
-- An old line is brought up exactly where it is 14 digits.
pub raises_exactly : (s : List ℕ) → (raised_def s).answer ≡ done ↔ AreDigits old_digits s
raises_exactly = conversions.raises_exactly

-- Any other is refused, with 23 and no other number, at the place that the document names.
pub place_23 : (s : List ℕ) (n p : ℕ)
    → (raised_def s).answer ≡ turned n p
    ↔ (AreDigits old_digits s → ⊥) × (n ≡ 23) × BadPlace old_digits s p
place_23 = conversions.place_23

-- A raised line reads as the old line's event, its three signed notes and 0.
pub same-reading : (s : List ℕ) → AreDigits old_digits s
    → line_of (raised_def s).line ≡ line (byte_at s 0) (old_note_at s 0) (old_note_at s 1) (old_note_at s 2) (pos 0)
same-reading = conversions.same-reading

-- The zero bytes that any other line gives are refused with 15, at 0.
pub refused-reading : (s : List ℕ) → (AreDigits old_digits s → ⊥) → line_of (raised_def s).line ≡ refused 15 0
refused-reading = conversions.refused-reading

-- So are zero bytes by themselves, and an empty line.
pub zeros-refused : line_of (replicate line_digits 0) ≡ refused 15 0
zeros-refused = conversions.zeros-read

pub empty-refused : line_of [] ≡ refused 15 0
empty-refused = examples.empty

-- Both together: an old line is raised, and its raised line reads as it does; or 23 names it, read and raised.
pub raised-or-refused : (s : List ℕ)
    → ((old_line_of s ≡ line (byte_at s 0) (old_note_at s 0) (old_note_at s 1) (old_note_at s 2) (pos 0)) × ((raised_def s).answer ≡ done)
    × (line_of (raised_def s).line ≡ old_line_of s))
    ⊎ ((old_line_of s ≡ refused 23 (bad_place_of old_digits s)) × ((raised_def s).answer ≡ turned 23 (bad_place_of old_digits s)))
raised-or-refused = conversions.raised-or-refused

-- A line is brought down exactly where it is 34 digits, its fourth note is 0, and 16 bits hold the other three.
pub lowers_exactly : (s : List ℕ)
    → (lowered_def s).answer ≡ done
    ↔ AllDigits s × (note_at s 3 ≡ pos 0) × In16 (note_at s 0) × In16 (note_at s 1) × In16 (note_at s 2)
lowers_exactly = conversions.lowers_exactly

-- Any other is refused as its digits and notes say: 15 with its place, 24, or 25 with its place, in this order.
pub lower-refused : (s : List ℕ) (n p : ℕ) → (lowered_def s).answer ≡ turned n p ↔ LowerRefused s n p
lower-refused = refusals.lower-refused

-- Up and then down gives the old line in capitals.
pub up_down : (s : List ℕ) → (raised_def s).answer ≡ done → lowered_def (raised_def s).line ≡ converted (map capital s)
up_down = conversions.up_down

-- Down and then up, where not refused, gives the line in capitals.
pub down_up : (s : List ℕ) → (lowered_def s).answer ≡ done → raised_def (lowered_def s).line ≡ converted (map capital s)
down_up = conversions.down_up

-- What is told of an answer fixes the answer, so that the contracts of `raised` and `lowered` allow one answer only.
pub raise_told_injective : (a b : Result (List ℕ) BadOldLine) → raise_told a ≡ raise_told b → a ≡ b
raise_told_injective = conversions.raise_told_injective

pub lower_told_injective : (a b : Result (List ℕ) NotLowered) → lower_told a ≡ lower_told b → a ≡ b
lower_told_injective = conversions.lower_told_injective

-- ---- digits
-- The digit of a value below 16 has that value.
pub digit-back : (d : ℕ) → d < 16 → digit_value (hex_digit d) ≡ d
digit-back = values.digit-back

-- ---- the lines of a log
-- Walking a log yields exactly its lines, in order, none left out.
pub walk_exactly : (log : List ℕ) → walked (length log) log 0 ≡ lines_of log
walk_exactly = walking.walks_all

-- So does a reader: the lines that it hands out from the start of a log, one after the other until it is at the log's end, are the
-- log's lines, as many and each in its place; it hands out no others.
pub reader_walks : (log : Bor (List ℕ)) (ls : List (List ℕ)) → Yields (start_of log) ls ↔ ls ≡ lines_of log.now
reader_walks = walking.reader_walks

-- A line that is found lies within the log, and the next starts past the place asked for, within the log.
pub line-within : (log : List ℕ) (at : ℕ) (l : Span) → line_at log at ≡ Some l
    → (l.start ≤ l.end) × (l.end ≤ length log) × (at < l.next) × (l.next ≤ length log)
line-within = walking.line-within

-- From a place within the log, a line ends within it.
pub end_of_within : (log : List ℕ) (at : ℕ) → at ≤ length log → end_of log at ≤ length log
end_of_within = walking.end_of_within
