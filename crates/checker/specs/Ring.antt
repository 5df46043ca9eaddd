-- Where an occurrence's notes live in the window. From document 01, "Feeding, pulling and the window".
-- Assumes nothing: definitions.
use Rattle.std.specs.Prelude.{ℕ, ◌+◌, ◌*◌, ◌%◌, cond, List, [], ◌∷◌, set, ℤ, pos, nat_le, slice_index_or}
use Rattle.std.specs.Prelude.{slice_set}
use Rattle.log_lines.specs.declared.line.Notes.{Notes}

-- "four notes" of a line
abbrev pub notes_of : Notes → List ℤ
notes_of n = n.0 ∷ (n.1 ∷ (n.2 ∷ (n.3 ∷ [])))

-- the place of occurrence k in its event's ring: "k mod W"
abbrev pub ring_place : ℕ → ℕ → ℕ
ring_place w k = k % w

-- "Occurrence k, note n of event e lives in word (e × W + k mod W) × 4 + n"
abbrev pub word_at : ℕ → ℕ → ℕ → ℕ → ℕ
word_at w e k n = (e * w + ring_place w k) * 4 + n

-- the window with "all four notes, declared or not", of an occurrence. "Other words keep their values"
unfoldable pub stored : List ℤ → ℕ → ℕ → ℕ → List ℤ → List ℤ
stored win w e k notes =
    set (set (set (slice_set win (word_at w e k 0) (slice_index_or notes 0 (pos 0)))
    (word_at w e k 1) (slice_index_or notes 1 (pos 0)))
    (word_at w e k 2) (slice_index_or notes 2 (pos 0)))
    (word_at w e k 3) (slice_index_or notes 3 (pos 0))

-- the window after occurrence k of an event whose base is b: "One that arrives below base is counted and not stored"
unfoldable pub kept : List ℤ → ℕ → ℕ → ℕ → ℕ → List ℤ → List ℤ
kept win w e b k notes = cond (nat_le b k) (stored win w e k notes) win
