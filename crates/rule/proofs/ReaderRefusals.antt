-- Refusals 4, 5, 18 and 6 of a tree in their order, as the reader's memory decides them: code p stands for the letters of the name at p
-- (specs/Name: one number for each name of at most 12 letters), value p for the number at p, decimals p for how many it has. specs/Spelling and specs/Answers say
-- them in the document's words. Assumes nothing: definitions.
use Prim.Native.Nat.{ℕ}
use mathlib.Core.Bool.{Bool, true, false, cond}
use mathlib.Core.Option.{Option, none, some}
use mathlib.Core.List.{List, [], ◌∷◌, ◌++◌}
use lib.ListN.{length}
use lib.Dec.{ltb, leb}
use Rattle.rule.specs.Limits.{frame_limit}
use Rattle.rule.specs.ReadLimits.{depth_limit}
use Rattle.rule.specs.Grammar.{Rule}
use Rattle.rule.specs.Measure.{depth, frames, Named, declared, used, names, Sized, sized_by, numbers}
use Rattle.rule.specs.Spelling.{same_role, room}
use Rattle.rule.specs.Draft.{Draft}
use Rattle.rule.specs.Name.{long_name}
use Rattle.rule.specs.Memory.{is_declared, bad-number, many-decimals}
use Rattle.rule.specs.declared.parts.Place.{Place}
use Rattle.rule.specs.declared.parts.Role.{Role}

-- refused with a number and a place, or read as frames
pub data Outcome : Type 0 where
  refused-by : ℕ → ℕ → Outcome
  read_as : List Draft → Outcome

-- as two numbers: the refusal's number and place, or 0 and the number of frames
abbrev pub telling : Outcome → ℕ × ℕ
telling (refused-by k p) = (k, p)
telling (read_as fs) = (0, length fs)

-- the place of the first number that is bad
abbrev pub first_by : (Sized → Bool) → List Sized → Option Place
first_by bad [] = none
first_by bad (sized_by l p ∷ xs) = cond (bad (sized_by l p)) (some p) (first_by bad xs)

module _ (code value decimals : Place → ℕ) where
  -- the names declared in a role, of those that stand in the list
  abbrev pub codes : Role → List Named → List ℕ
  codes r [] = []
  codes r (declared q p ∷ l) = cond (same_role r q) (code p ∷ codes r l) (codes r l)
  codes r (used q p ∷ l) = codes r l

  -- 4: "a name over 12 letters, twice in its list, a 9th event, a 5th note, or undeclared in its role"
  abbrev pub bad-name : List Named → Named → Bool
  bad-name before (declared r p) = cond (leb long_name (code p)) true (cond (is_declared (code p) (codes r before)) true (leb (room r) (length (codes r before))))
  bad-name before (used r p) = cond (is_declared (code p) (codes r before)) false true

  -- where a name stands
  abbrev pub spot : Named → Place
  spot (declared r p) = p
  spot (used r p) = p

  -- "place the first such name": the first that is bad after those before it
  abbrev pub first-name : List Named → List Named → Option Place
  first-name before [] = none
  first-name before (x ∷ xs) = cond (bad-name before x) (some (spot x)) (first-name (before ++ x ∷ []) xs)

  -- 5: "place the first"
  abbrev pub first-number : List Sized → Option Place
  first-number xs = first_by (bad-number code value decimals) xs

  -- 18: "place the first"
  abbrev pub first-decimals : List Sized → Option Place
  first-decimals xs = first_by (many-decimals code value decimals) xs

  -- 18, then 6: "depth over 16 or over 64 frames"
  abbrev pub after-decimals : Rule → Option Place → Outcome
  after-decimals x (some p) = refused-by 18 p.start
  after-decimals x none = cond (ltb depth_limit (depth x)) (refused-by 6 0) (cond (ltb frame_limit (length (frames x))) (refused-by 6 0) (read_as (frames x)))

  -- 5, then the rest
  abbrev pub after-number : Rule → Option Place → Outcome
  after-number x (some p) = refused-by 5 p.start
  after-number x none = after-decimals x (first-decimals (numbers x))

  -- 4, then the rest
  abbrev pub after-name : Rule → Option Place → Outcome
  after-name x (some p) = refused-by 4 p.start
  after-name x none = after-number x (first-number (numbers x))

  -- 4, then 5, then 18, then 6
  abbrev pub outcome : Rule → Outcome
  outcome x = after-name x (first-name [] (names x))
