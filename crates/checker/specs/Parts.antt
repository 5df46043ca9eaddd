-- A state and results put together from frames and the other fields. No contract of open, feed or pull cites it; crates bench and
-- dillplatter call by it. Assumes nothing: definitions.
use Rattle.std.specs.Prelude.{ℕ, List, Result}
use Rattle.checker.specs.State.{Tally, state_with}
use Rattle.checker.specs.declared.parts.Fields.{Fields}
use Rattle.checker.specs.declared.refusals.Refusal.{Refusal}
use Rattle.checker.specs.declared.Returned.{Returned}
use Rattle.checker.specs.declared.State.{State}

-- "per-event counts, p, and the totals" among the fields
abbrev pub tally_of_fields : Fields → Tally
tally_of_fields f = record { counts = f.counts; next = f.next.0; totals = f.totals }

-- "The state carries frames, W (1 to 256), per-event counts, p, and the totals", the profile and the sum: of frames and the other
-- fields
abbrev pub state_of : List ℕ → Fields → State
state_of frames f = state_with frames f.len f.width f.profile (tally_of_fields f) f.sum

-- what a feed or a pull by parts gives, with its state put together
abbrev pub returned : {A : Type 0} → List ℕ → Result A Refusal → Fields → Returned A
returned frames answer fields = record { answer = answer; state = state_of frames fields }
