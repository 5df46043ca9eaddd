-- What opening checks of frames: 9, 10, 7 and 8, in this order.
-- From document 01, "What is turned down", and document 02, point 1. Assumes nothing: definitions.
use Rattle.std.specs.Prelude.{Bool, ◌&&◌, cond, List, ℕ, ◌+◌, ◌*◌, ◌%◌, leb, eqb, length}
use Rattle.std.specs.Prelude.{Result, Ok, Err}
use Rattle.std.proofs.Math.Option.{Option}
use Rattle.rule.specs.Limits.{frame_limit, frame_bytes}
use Rattle.rule.specs.Scale.{note_decimals, literal_decimals, head_frames, scale_of, head_fine, body}
use Rattle.rule.specs.Order.{order_of}
use Rattle.rule.specs.Sizes.{sizes_fit}
use Rattle.rule.specs.CheckTold.{CheckAnswer, accepted, refused}

-- 9: "the frames' length isn't 8 to 512 in steps of 8"
abbrev pub whole_frames : ℕ → Bool
whole_frames n = (leb frame_bytes n && leb n (frame_limit * frame_bytes)) && eqb (n % frame_bytes) 0

-- 10 with its place, h frames of the head before it, then 7: "no reference", then 8: "a magnitude over 2^62"
abbrev pub after_order : ℕ → ℕ → List ℕ → Result ℕ ℕ → CheckAnswer
after_order h scale s (Err p) = refused 10 (h + p)
after_order h scale s (Ok m) = cond (eqb m 0) (refused 7 0) (cond (sizes_fit scale s) accepted (refused 8 0))

-- the frames behind the head, by the scale
abbrev pub checked_body : Option ℕ → List ℕ → CheckAnswer
checked_body z s = after_order (head_frames z) (note_decimals z) s (order_of (literal_decimals z) s)

-- the answer for any bytes
unfoldable pub checked_of : List ℕ → CheckAnswer
checked_of s =
    cond (whole_frames (length s)) (cond (head_fine s) (checked_body (scale_of s) (body s)) (refused 10 0)) (refused 9 0)
