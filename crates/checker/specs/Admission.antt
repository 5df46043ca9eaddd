-- What feeding and pulling test first: 12, 13, then 27. From document 01, "What is turned down", and document 02, point 11.
-- Assumes nothing: definitions.
use Rattle.std.specs.Prelude.{ℕ, cond, List, ℤ, Result, Ok, Err}
use Rattle.checker.specs.Refusals.{refusal_number}
use Rattle.checker.specs.Open.{window_fits}
use Rattle.checker.specs.StateTest.{state_passes}
use Rattle.checker.specs.Sum.{sum_fits}
use Rattle.checker.specs.declared.refusals.Refusal.{Refusal}
use Rattle.checker.specs.declared.State.{State}

-- "Feeding, pulling": a state and a window are let through, or turned down with a number; none of 12, 13 and 27 names a place
pub data Admission : Type 0 where
  admitted : Admission
  barred : (number : ℕ) → Admission

-- "27, the sum differs, after 13": "each feed and pull compares it"
abbrev pub after_length : State → List ℤ → Admission
after_length s win = cond (sum_fits s win) admitted (barred 27)

-- "Each call checks those of its own, in this order": 12, then 13, then 27
unfoldable pub admission : State → List ℤ → Admission
admission s win = cond (state_passes s) (cond (window_fits s.width win) (after_length s win) (barred 13)) (barred 12)

-- "A refusal returns its number": which the code's answer tells
abbrev pub admission_told : {A : Type 0} → Result A Refusal → Admission
admission_told (Ok x) = admitted
admission_told (Err why) = barred (refusal_number why)
