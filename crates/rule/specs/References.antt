-- The references of frames, and a pass that looks at references only.
-- From document 01, "From rule text to frames". Assumes nothing: definitions.
use Rattle.std.specs.Prelude.{cond, List, ℕ, zero, suc, ◌+◌, eqb}
use Rattle.rule.specs.Frames.{Source, Kind, kind_byte, frame_at, frame_count}
use Rattle.rule.specs.Tree.{Reference}
use Rattle.rule.specs.declared.Frame.{Frame}

-- the byte of a reference's kind
abbrev pub reference_byte : ℕ
reference_byte = kind_byte (Kind.operand Source.reference)

-- what a frame of that kind names
abbrev pub reference_of : Frame → Reference
reference_of x = record { event = x.event; note = x.note; factor = x.factor; offset = x.value }

module _ {S : Type 0} (f : Reference → S → S) where
  -- over the references among the first i frames
  abbrev pub references_to : List ℕ → S → ℕ → S
  references_to s z zero = z
  references_to s z (suc i) =
      cond (eqb (frame_at s i).kind reference_byte) (f (reference_of (frame_at s i)) (references_to s z i)) (references_to s z i)

-- counting
abbrev pub one_more : Reference → ℕ → ℕ
one_more r n = n + 1

-- how many references the frames have
unfoldable pub reference_count : List ℕ → ℕ
reference_count s = references_to one_more s 0 (frame_count s)
