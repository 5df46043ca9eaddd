-- A rule's scale, none without the clause: the decimals that notes and literals have by it, and the head of the frames.
-- From document 02, point 1. Assumes nothing: definitions.
use Rattle.std.specs.Prelude.{Bool, true, ◌&&◌, cond, List, [], ◌∷◌, ℕ, ◌*◌, ◌≤◌, leb, eqb, pos, nat_abs}
use Rattle.std.specs.Prelude.{length, drop}
use Rattle.std.proofs.Math.Option.{Option, none, some}
use Rattle.rule.specs.Limits.{decimal_limit, frame_bytes}
use Rattle.rule.specs.Frames.{scale_byte, frame, frame_at}
use Rattle.rule.specs.declared.Frame.{Frame}

-- "A clause `scale k;` after the notes says that each note carries k decimals"
abbrev pub note_decimals : Option ℕ → ℕ
note_decimals none = 0
note_decimals (some k) = k

-- "With the clause a literal may have a point and 1 to 6 decimals": the most that it may have
abbrev pub literal_decimals : Option ℕ → ℕ
literal_decimals none = 0
literal_decimals (some k) = decimal_limit

-- "k decimals, 0 to 6"
abbrev pub ScaleFits : Option ℕ → Type 0
ScaleFits none = Unit {0}
ScaleFits (some k) = k ≤ decimal_limit

-- "A frame of kind 04 at the head carries k in byte 1"
abbrev pub head_of : Option ℕ → List Frame
head_of none = []
head_of (some k) = frame scale_byte k 0 0 (pos 0) ∷ []

-- how many frames that are
abbrev pub head_frames : Option ℕ → ℕ
head_frames none = 0
head_frames (some k) = 1

-- ---- of bytes
-- the first frame is of kind 04
abbrev pub headed : List ℕ → Bool
headed s = leb frame_bytes (length s) && eqb (frame_at s 0).kind scale_byte

-- the scale that it carries
abbrev pub scale_of : List ℕ → Option ℕ
scale_of s = cond (headed s) (some (frame_at s 0).event) none

-- 10 wants k "at most 6", and the head's other bytes 0
abbrev pub head_fields : Frame → Bool
head_fields x =
    leb x.event decimal_limit && (eqb x.note 0 && eqb x.factor 0) && eqb (nat_abs x.value) 0

-- of the first frame, where it is of kind 04
abbrev pub head_fine : List ℕ → Bool
head_fine s = cond (headed s) (head_fields (frame_at s 0)) true

-- the frames behind the head
abbrev pub body : List ℕ → List ℕ
body s = drop (head_frames (scale_of s) * frame_bytes) s
