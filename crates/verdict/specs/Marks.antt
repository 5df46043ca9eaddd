-- What is handed to the evaluator: for each frame that is a reference, its mark and its note's value.
-- From document 01, "Feeding, pulling and the window", the report's marks. Assumes nothing: definitions.
use Rattle.std.specs.Prelude.{◌≡◌, List, ℕ, ◌≤◌, ◌<◌, ℤ, pos, length, get_or}
use Rattle.rule.specs.Frames.{frame_at, frame_count}
use Rattle.rule.specs.Tree.{Reference}
use Rattle.rule.specs.References.{reference_byte, reference_of}
use Rattle.rule.specs.Check.{checked_of}
use Rattle.rule.specs.CheckTold as checking
use Rattle.verdict.specs.Found.{instance_limit, Found, present, pending, void}

-- "a mark (00 present, 01 pending, 02 void)": 00
abbrev pub present_mark : ℕ
present_mark = 0

-- "01 pending"
abbrev pub pending_mark : ℕ
pending_mark = 1

-- "02 void"
abbrev pub void_mark : ℕ
void_mark = 2

-- "a mark .. and the value" say what a reference is; the value counts only where it is present
abbrev pub Tells : Found → ℕ → ℤ → Type 0
Tells (present z) mark note = (mark ≡ present_mark) × (note ≡ z)
Tells pending mark note = mark ≡ pending_mark
Tells void mark note = mark ≡ void_mark

-- "per reference in frame order a mark .. and the value": arrays with an entry for each frame say it of those that are references
abbrev pub TellAll : List ℕ → (Reference → Found) → List ℕ → List ℤ → Type 0
TellAll s found marks notes =
    (k : ℕ) → k < frame_count s → (frame_at s k).kind ≡ reference_byte
    → Tells (found (reference_of (frame_at s k))) (get_or marks k 0) (get_or notes k (pos 0))

-- what judge requires: frames that opening would not refuse, not "p over 1,009,999", an entry for each frame
pub record Judgeable (s : List ℕ) (i : ℕ) (marks : List ℕ) (notes : List ℤ) : Type 0 where
  pub accepted : checked_of s ≡ checking.accepted
  pub instance_in : i ≤ instance_limit
  pub marked : frame_count s ≤ length marks
  pub noted : frame_count s ≤ length notes
