-- What marks and notes show of references, and the report's bytes by them. No public contract cites it.
-- Assumes nothing: definitions.
use Rattle.std.specs.Prelude.{◌≡◌, ℕ, zero, suc, ◌<◌, ◌≤◌, cond, List, [], ◌∷◌, ◌++◌, length, ℤ, pos}
use Rattle.std.specs.Prelude.{◌==◌, slice_index, slice_index_or}
use Rattle.std.specs.Int.{w32}
use Rattle.std.proofs.Common.{of_z}
use Rattle.rule.specs.Limits.{frame_limit}
use Rattle.rule.specs.Frames.{frame_at, frame_count}
use Rattle.rule.specs.Tree.{Reference, LimitsR, word_bytes}
use Rattle.rule.specs.References.{reference_byte, reference_of}
use Rattle.rule.specs.Check.{checked_of}
use Rattle.rule.specs.declared.Frame.{Frame}
use Rattle.rule.specs.CheckTold as checking
use Rattle.verdict.specs.Found.{Found, present, pending, void}
use Rattle.verdict.specs.Value.{note_of}
use Rattle.checker.specs.Limits.{report_least}
use Rattle.checker.specs.Report.{mark_of, false_byte}
use Rattle.checker.specs.declared.found.Seen.{Seen}
use Rattle.checker.specs.declared.found.Seen.TheVariants.{Present, Pending, Void}

-- "a mark (00 present, 01 pending, 02 void) and the value (4 bytes, 0 unless present)"
pub record Shows (x : Found) (mark : ℕ) (note : ℤ) : Type 0 where
  pub mark_is : mark ≡ mark_of x
  pub note_is : note ≡ note_of x

-- what the code says of a reference, as "present, pending, void"
abbrev pub found_of : Seen → Found
found_of (Present z) = present z
found_of Pending = pending
found_of Void = void

-- "per reference in frame order": at each among the first k frames
abbrev pub ShownTo : List ℕ → (Reference → Found) → List ℕ → List ℤ → ℕ → Type 0
ShownTo s found marks notes k =
    (j : ℕ) → j < k → (frame_at s j).kind ≡ reference_byte
    → Shows (found (reference_of (frame_at s j))) (slice_index marks j) (slice_index_or notes j (pos 0))

-- "per reference in frame order": at each of all frames
pub record ShowsAll (s : List ℕ) (found : Reference → Found) (marks : List ℕ) (notes : List ℤ) : Type 0 where
  pub marked : length marks ≡ frame_limit
  pub noted : length notes ≡ frame_limit
  pub shown : ShownTo s found marks notes (frame_count s)

-- ---- what is required
-- of a frame that is a reference: "The factor of i is 1 to 9 (1 if absent), the offset −9,999 to 9,999"
abbrev pub Limited : Frame → Type 0
Limited x = x.kind ≡ reference_byte → LimitsR (reference_of x)

-- of a report's buffer of n bytes, not "under 166 bytes", and of the arrays
pub record Fillable (s : List ℕ) (n : ℕ) (marks : List ℕ) (notes : List ℤ) : Type 0 where
  pub accepted : checked_of s ≡ checking.accepted
  pub room : report_least ≤ n
  pub marked : frame_count s ≤ length marks
  pub noted : frame_count s ≤ length notes

-- ---- the report's bytes
-- "p before the pull (4 bytes), 00 for false, reference count (1 byte)"
abbrev pub header_of : ℕ → ℕ → List ℕ
header_of p n = word_bytes p (false_byte ∷ (n ∷ []))

-- of one reference, "a mark .. and the value (4 bytes, 0 unless present)"
abbrev pub entry_of : ℕ → ℤ → List ℕ
entry_of mark note = mark ∷ word_bytes (of_z w32 note) []

-- "per reference in frame order": after the first k frames
abbrev pub report_to : List ℕ → List ℕ → List ℤ → List ℕ → ℕ → List ℕ
report_to s marks notes out zero = out
report_to s marks notes out (suc k) =
    cond ((frame_at s k).kind == reference_byte)
    (report_to s marks notes out k ++ entry_of (slice_index marks k) (slice_index_or notes k (pos 0)))
    (report_to s marks notes out k)
