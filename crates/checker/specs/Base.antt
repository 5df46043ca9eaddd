-- Which events a rule references, an event's base, and where verdicts begin. From document 01, "Feeding, pulling and the window",
-- and document 02, point 2. Assumes nothing: definitions.
use Rattle.std.specs.Prelude.{◌≡◌, ℕ, zero, suc, ◌+◌, ◌≤◌, min, Bool, true, false, cond, ◌||◌, ◌≢◌}
use Rattle.std.specs.Prelude.{◌⊎◌, List, [], ◌∷◌, map, ℤ, ◌≤ℤ◌, ◌==◌}
use mathlib.Core.List.{Memᴰ}
use Rattle.rule.specs.Limits.{offset_limit}
use Rattle.rule.specs.Tree.{Reference, references}
use Rattle.rule.specs.Build.{tree_of}
use Rattle.verdict.specs.Found.{meant}
use Rattle.verdict.specs.declared.Occurrence.{Occurrence}
use Rattle.std.specs.Prelude.{Option, Some, None}

-- "its references": those that name the event
unfoldable pub of_event : ℕ → List Reference → List Reference
of_event e [] = []
of_event e (r ∷ rs) = cond (r.event == e) (r ∷ of_event e rs) (of_event e rs)

-- some reference is there, for "An event that isn't referenced"
abbrev pub is_some : List Reference → Bool
is_some [] = false
is_some (r ∷ rs) = true

-- not "An event that isn't referenced": at least one reference names it
unfoldable pub referenced : List Reference → ℕ → Bool
referenced refs e = is_some (of_event e refs)

-- the occurrence that is meant, 0 where it is void, for "max(0, factor × p + offset)"
abbrev pub or_zero : Option Occurrence → ℕ
or_zero None = 0
or_zero (Some k) = k.0

-- "max(0, factor × p + offset)"
abbrev pub start_at : ℕ → Reference → ℕ
start_at p r = or_zero (meant p r)

-- "the smallest of" some numbers, 0 where there is none
unfoldable pub smallest : List ℕ → ℕ
smallest [] = 0
smallest (n ∷ []) = n
smallest (n ∷ (m ∷ ns)) = min n (smallest (m ∷ ns))

-- base is the document's term: "The base of an event is the smallest of max(0, factor × p + offset) over its references"
unfoldable pub base : List Reference → ℕ → ℕ → ℕ
base refs e p = smallest (map (start_at p) (of_event e refs))

-- ---- references, starts and base once more, as propositions
-- "its references": r is one of event e, by the rule's references
pub record ReferenceTo (refs : List Reference) (e : ℕ) (r : Reference) : Type 0 where
  -- the rule has it
  pub one : Memᴰ r refs
  -- it names that event
  pub names : r.event ≡ e

-- not "An event that the rule doesn't reference": some reference is one to it
pub record Referenced (refs : List Reference) (e : ℕ) : Type 0 where
  pub reference : Reference
  pub its : ReferenceTo refs e reference

-- the "max" in "max(0, factor × p + offset)", of any two signed numbers
pub record Maximum (a b m : ℤ) : Type 0 where
  -- it is one of the two
  pub one : (m ≡ a) ⊎ (m ≡ b)
  -- neither is greater
  pub first : a ≤ℤ m
  pub second : b ≤ℤ m

-- "the smallest of max(0, factor × p + offset) over its references": b, of event e
pub record SmallestStart (refs : List Reference) (e p b : ℕ) : Type 0 where
  -- "over its references": one of them
  pub reference : Reference
  pub its : ReferenceTo refs e reference
  -- whose start it is
  pub equal : b ≡ start_at p reference
  -- "the smallest": at most that of each of its references
  pub at_most : (r : Reference) → ReferenceTo refs e r → b ≤ start_at p r

-- ---- where verdicts begin
-- not "void"
abbrev pub is_not_void : Option Occurrence → Bool
is_not_void None = false
is_not_void (Some k) = true

-- not "An instance whose references are all void": i has "a reference that isn't void"
unfoldable pub some_not_void : List Reference → ℕ → Bool
some_not_void [] i = false
some_not_void (r ∷ rs) i = is_not_void (meant i r) || some_not_void rs i

-- "the first i" from a number on at which f holds, at most n later
unfoldable pub first_from : ℕ → ℕ → (ℕ → Bool) → ℕ
first_from zero i f = i
first_from (suc n) i f = cond (f i) i (first_from n (i + 1) f)

-- "Verdicts begin at the first i with a reference that isn't void, and p starts there"; it is at most 9,999, as offsets are
unfoldable pub first_instance : List Reference → ℕ
first_instance refs = first_from offset_limit 0 (some_not_void refs)

-- so of "the rule .. that opening was given", as frames
abbrev pub first_for : List ℕ → ℕ
first_for frames = first_instance (references (tree_of frames))

-- ---- where verdicts begin once more, as propositions
-- not "An instance whose references are all void": one of them isn't at instance i
pub record SomeNotVoid (refs : List Reference) (i : ℕ) : Type 0 where
  pub reference : Reference
  -- the rule has it
  pub one : Memᴰ reference refs
  pub not_void : meant i reference ≢ None

-- "the first i with a reference that isn't void": n
pub record FirstInstance (refs : List Reference) (n : ℕ) : Type 0 where
  -- it is one
  pub some : SomeNotVoid refs n
  -- "the first": none is less
  pub least : (i : ℕ) → SomeNotVoid refs i → n ≤ i
