-- References at an instance: which occurrence each means, and what is found there.
-- From document 01, "Verdicts". Assumes nothing: definitions.
use Rattle.std.specs.Prelude.{Bool, true, false, cond, ◌||◌, List, [], ◌∷◌, ℕ, ◌*◌, ltb, ℤ, pos, negsuc}
use Rattle.std.specs.Prelude.{◌+ℤ◌, length, get_or, Option, Some, None}
use Rattle.rule.specs.Tree.{Reference}
use Rattle.verdict.specs.declared.Occurrence.{Occurrence}

-- 12: "p over 1,009,999" is refused, so no instance number is larger
abbrev pub instance_limit : ℕ
instance_limit = 1009999

-- "A reference of instance i means occurrence factor × i + offset"
-- instance and occurrence are the document's terms: which i, and which line of one event
abbrev pub occurrence : ℕ → ℤ → ℕ → ℤ
occurrence factor offset i = pos (factor * i) +ℤ offset

-- "It is void below 0": the code's answer for such a number
abbrev pub meant_by : ℤ → Option Occurrence
meant_by (negsuc k) = None
meant_by (pos k) = Some (record { 0 = k })

-- "A reference of instance i means occurrence factor × i + offset. It is void below 0": the occurrence that it means, if any
abbrev pub meant : ℕ → Reference → Option Occurrence
meant i r = meant_by (occurrence r.factor r.offset i)

-- ---- what is found there
-- what a reference is at an instance, with its note's value; present, pending and void are the document's terms
pub data Found : Type 0 where
  present : ℤ → Found
  pending : Found
  void : Found

-- what a reference is looked up in: how many lines of an event are "accepted", and the value of a note of its occurrence k
pub record Lookup : Type 0 where
  pub count : (event : ℕ) → ℕ
  pub note_at : (event note k : ℕ) → ℤ

-- "pending if not yet accepted, else present": occurrence k, with its note's value, of an event with c accepted lines
abbrev pub found_at : ℕ → ℤ → ℕ → Found
found_at c z k = cond (ltb k c) (present z) pending

-- "It is void below 0, pending if not yet accepted, else present": note n of event e, at the occurrence that is meant
abbrev pub found_by : Lookup → ℕ → ℕ → Option Occurrence → Found
found_by l e n None = void
found_by l e n (Some k) = found_at (l.count e) (l.note_at e n k.0) k.0

-- "A reference of instance i": what it is, by a lookup
abbrev pub resolve : Lookup → ℕ → Reference → Found
resolve l i r = found_by l r.event r.note (meant i r)

-- "per event the list of its accepted lines, each as its four notes"
abbrev pub by_lists : (ℕ → List (List ℤ)) → Lookup
by_lists lines = record { count = λ e. length (lines e); note_at = λ e n k. get_or (get_or (lines e) k []) n (pos 0) }

-- "A reference of instance i", over the accepted lines of every event
abbrev pub found_in : (ℕ → List (List ℤ)) → ℕ → Reference → Found
found_in lines i r = resolve (by_lists lines) i r

-- "A reference of instance i": what a rule's value is given beside its tree, the instance number and what each reference is
pub record Given : Type 0 where
  pub instance : ℕ
  pub found : Reference → Found

-- "A reference of instance i": what is given of instance i by a lookup
abbrev pub given_by : Lookup → ℕ → Given
given_by l i = record { instance = i; found = resolve l i }

-- "A reference of instance i": what is given of it, over the accepted lines of every event
abbrev pub given_in : (ℕ → List (List ℤ)) → ℕ → Given
given_in lines i = given_by (by_lists lines) i

-- ---- tests
-- "present"
abbrev pub is_present : Found → Bool
is_present (present z) = true
is_present pending = false
is_present void = false

-- "pending"
abbrev pub is_pending : Found → Bool
is_pending (present z) = false
is_pending pending = true
is_pending void = false

-- "void or pending"
abbrev pub is_missing : Found → Bool
is_missing (present z) = false
is_missing pending = true
is_missing void = true

-- one of the references is so, as in "if it names a void or pending reference" and "at least one is present"
abbrev pub some_of : (Found → Bool) → (Reference → Found) → List Reference → Bool
some_of is found [] = false
some_of is found (r ∷ rs) = is (found r) || some_of is found rs
