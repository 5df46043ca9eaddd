-- What the counts and the window say of a reference. From document 01, "Verdicts" and "Feeding, pulling and the window".
-- Assumes nothing: definitions.
use Rattle.std.specs.Prelude.{ℕ, List, ℤ, pos, slice_index, slice_index_or}
use Rattle.rule.specs.Tree.{Reference}
use Rattle.verdict.specs.Found.{Found, Lookup, resolve, Given, given_by}
use Rattle.checker.specs.Ring.{word_at}

-- "per-event counts", and "Occurrence k, note n of event e lives in word (e × W + k mod W) × 4 + n"
abbrev pub by_window : ℕ → List ℕ → List ℤ → Lookup
by_window w counts win =
    record { count = λ e. slice_index counts e; note_at = λ e n k. slice_index_or win (word_at w e k n) (pos 0) }

-- "A reference of instance i means occurrence factor × i + offset": what it is by the counts and the window
abbrev pub found_in_window : ℕ → List ℕ → List ℤ → ℕ → Reference → Found
found_in_window w counts win i r = resolve (by_window w counts win) i r

-- "A reference of instance i": what is given of it by the counts and the window
abbrev pub given_in_window : ℕ → List ℕ → List ℤ → ℕ → Given
given_in_window w counts win i = given_by (by_window w counts win) i
