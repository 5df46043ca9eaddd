-- What the program prints: lines of hexadecimal capitals. From document 01, "Bench program". Assumes nothing: definitions.
use Rattle.std.specs.Prelude.{ℕ, ◌+◌, ◌*◌, ◌/◌, ◌%◌, List, [], ◌∷◌, ◌++◌, take, slice_index}
use Rattle.rule.specs.Tree.{word_bytes}
use Rattle.log_lines.specs.Digit.{hex_digit}
use Rattle.checker.specs.declared.Totals.{Totals}
use Rattle.bench.specs.declared.run.Counts.{Counts}

-- two digits for each byte, the high one first
unfoldable pub hex_of : List ℕ → List ℕ
hex_of [] = []
hex_of (b ∷ bs) = hex_digit (b / 16) ∷ (hex_digit (b % 16) ∷ hex_of bs)

-- LF ends a line
abbrev pub line_feed : List ℕ
line_feed = 10 ∷ []

-- bytes as a "hexadecimal line"
abbrev pub hex_line : List ℕ → List ℕ
hex_line bytes = hex_of bytes ++ line_feed

-- "true, false, unknown, accepted, ignored, refused, 4 bytes each"
abbrev pub totals_bytes : Totals → Counts → List ℕ
totals_bytes t c =
    word_bytes t.held (word_bytes t.failed (word_bytes t.unknown
    (word_bytes c.accepted (word_bytes c.ignored (word_bytes c.refused [])))))

-- ".. on one line"
abbrev pub totals_line : Totals → Counts → List ℕ
totals_line t c = hex_line (totals_bytes t c)

-- "`EE`, number (1 byte), place (2 bytes)"
abbrev pub refused_line : (number place : ℕ) → List ℕ
refused_line number place = hex_line (0xEE ∷ (number ∷ (place / 256 % 256 ∷ (place % 256 ∷ []))))

-- the report in a buffer: six bytes, of which the last is the reference count, and five for each reference
abbrev pub report_part : List ℕ → List ℕ
report_part report = take (6 + 5 * slice_index report 5) report
