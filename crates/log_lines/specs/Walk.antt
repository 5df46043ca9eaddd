-- The lines of a log, in document 01's words: "LF ends a line, and the last may lack it". Assumes nothing: definitions.
use Rattle.std.specs.Prelude.{◌≡◌, Bool, true, false, cond, List, [], ◌∷◌, ℕ, zero, suc, ◌+◌, ◌-◌, length}
use Rattle.std.specs.Prelude.{take, drop, ltb, eqb, Option, Some, None}
use Rattle.std.specs.Borrow.{Bor}
use Rattle.log_lines.specs.declared.walk.LogReader.{LogReader}
use Rattle.log_lines.specs.declared.walk.Span.{Span}

-- a byte more in front of the first line
abbrev pub onto : ℕ → List (List ℕ) → List (List ℕ)
onto b [] = (b ∷ []) ∷ []
onto b (l ∷ ls) = (b ∷ l) ∷ ls

-- "LF ends a line, and the last may lack it": the lines of a log, each without its LF
unfoldable pub lines_of : List ℕ → List (List ℕ)
lines_of [] = []
lines_of (b ∷ s) = cond (eqb b 10) ([] ∷ lines_of s) (onto b (lines_of s))

-- how many bytes stand before the first LF, or all
unfoldable pub to_lf : List ℕ → ℕ
to_lf [] = 0
to_lf (b ∷ s) = cond (eqb b 10) 0 (suc (to_lf s))

-- where the line that starts at `at` ends
abbrev pub end_of : List ℕ → ℕ → ℕ
end_of log at = at + to_lf (drop at log)

-- the line that starts at `at`: its start, its end, and where the next starts; or the log's end
unfoldable pub line_at : List ℕ → ℕ → Option Span
line_at log at =
    cond (ltb at (length log))
    (Some (record {
      start = at;
      end = end_of log at;
      next = cond (ltb (end_of log at) (length log)) (end_of log at + 1) (end_of log at);
    }))
    None

-- a line that was found, and what the rest of the walk gives from the next place on
abbrev pub onward : List ℕ → (ℕ → List (List ℕ)) → Option Span → List (List ℕ)
onward log rest (Some l) = take (l.end - l.start) (drop l.start log) ∷ rest l.next
onward log rest None = []

-- "One reader walks a log of many lines": the lines that it yields from a place on, in at most k steps
unfoldable pub walked : ℕ → List ℕ → ℕ → List (List ℕ)
walked zero log at = []
walked (suc k) log at = onward log (walked k log) (line_at log at)

-- ---- the reader
-- where in memory a line that was found stands, in a log at a block's offset; the log's own place at its end
abbrev pub found_ptr : ℕ × ℕ → Option Span → ℕ × ℕ
found_ptr p (Some l) = (p.0, l.start + p.1)
found_ptr p None = p

-- its bytes, without the LF; none at the log's end
abbrev pub found_bytes : List ℕ → Option Span → List ℕ
found_bytes log (Some l) = take (l.end - l.start) (drop l.start log)
found_bytes log None = []

-- where the next line starts; at the log's end the place itself
abbrev pub found_next : ℕ → Option Span → ℕ
found_next at (Some l) = l.next
found_next at None = at

-- no line was found
abbrev pub found_end : Option Span → Bool
found_end (Some l) = false
found_end None = true

-- a reader at the start of a log
abbrev pub start_of : Bor (List ℕ) → LogReader
start_of log = record { log = log; at = 0 }

-- what stands at a reader's place
abbrev pub here : LogReader → Option Span
here r = line_at r.log.now r.at

-- its line is a part of the log: where that stands in memory
abbrev pub ptr_here : LogReader → ℕ × ℕ
ptr_here r = found_ptr r.log.ref_ptr (here r)

-- its line
abbrev pub line_here : LogReader → List ℕ
line_here r = found_bytes r.log.now (here r)

-- the reader after that line
abbrev pub moved_on : LogReader → LogReader
moved_on r = record { log = r.log; at = found_next r.at (here r) }

-- whether it is at the log's end
abbrev pub at_log_end : LogReader → Bool
at_log_end r = found_end (here r)

-- "yields them line by line": the lines that a reader hands out, each followed by those of the reader after it, until the log's end
pub data Yields : LogReader → List (List ℕ) → Type 0 where
  over : (r : LogReader) → at_log_end r ≡ true → Yields r []
  more : (r : LogReader) (ls : List (List ℕ)) → at_log_end r ≡ false → Yields (moved_on r) ls
      → Yields r (line_here r ∷ ls)
