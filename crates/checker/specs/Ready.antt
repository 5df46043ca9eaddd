-- What the inner calls require: a state, as its frames and the other fields, and a window that 12, 13 and 27 let through. No
-- contract of open, feed or pull cites it; crate bench calls by it. Assumes nothing: definitions.
use Rattle.std.specs.Prelude.{◌≡◌, ℕ, ◌*◌, List, length, ℤ}
use Rattle.rule.specs.Limits.{frame_limit, frame_bytes}
use Rattle.checker.specs.Admission.{admitted, admission}
use Rattle.checker.specs.Parts.{state_of}
use Rattle.checker.specs.declared.parts.Fields.{Fields}

-- "Feeding, pulling" would not refuse it with 12, 13 or 27; so its sum is the window's
pub record Ready (frames : List ℕ) (fields : Fields) (win : List ℤ) : Type 0 where
  pub long : length frames ≡ frame_limit * frame_bytes
  pub let_in : admission (state_of frames fields) win ≡ admitted
