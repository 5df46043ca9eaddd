-- The states that 12 lets through. From document 01, "What is turned down", 12, and document 02, points 2 and 9.
-- Assumes nothing: definitions.
use Rattle.std.specs.Prelude.{◌≡◌, ℕ, zero, suc, ◌+◌, ◌-◌, ◌<◌, ◌≤◌, Bool, true, false, cond, ◌&&◌}
use Rattle.std.specs.Prelude.{List, length, ℤ, ◌==◌, nat_le}
use Rattle.rule.specs.Limits.{event_limit}
use Rattle.rule.specs.Tree.{Reference}
use Rattle.rule.specs.Check.{checked_of}
use Rattle.rule.specs.CheckTold.{CheckAnswer}
use Rattle.rule.specs.CheckTold as checking
use Rattle.verdict.specs.Found.{instance_limit}
use Rattle.checker.specs.Limits.{window_words, line_limit}
use Rattle.checker.specs.Answer.{opened}
use Rattle.checker.specs.Profile.{frames_most, profile_number, profile_passes}
use Rattle.checker.specs.Base.{referenced, base, Referenced, first_instance}
use Rattle.checker.specs.State.{totals_sum, Tally, count_of, tally_in, state_frames, refs_in}
use Rattle.checker.specs.Open.{width_fits, open_def}
use Rattle.checker.specs.declared.Profile.{Profile}
use Rattle.checker.specs.declared.Totals.{Totals}
use Rattle.checker.specs.declared.State.{State}

-- not "frames .. opening would refuse"
abbrev pub is_accepted : CheckAnswer → Bool
is_accepted checking.accepted = true
is_accepted (checking.refused number place) = false

-- not "a state whose frames or W opening would refuse", nor "a board state above them"; there is room for the desk's 64 frames
unfoldable pub rule_passes : State → Bool
rule_passes s =
    (profile_passes s.profile s.width s.len && is_accepted (checked_of (state_frames s))) && width_fits s.width

-- not "a count over 1,000,000", "a nonzero count of an unreferenced event, or a count above base plus W"
unfoldable pub count_passes : List Reference → ℕ → Tally → ℕ → Bool
count_passes refs w t e =
    nat_le (count_of t e) line_limit
    && cond (referenced refs e) (nat_le (count_of t e) (base refs e t.next + w)) (count_of t e == 0)

-- f holds of 0 to n - 1, for 12's counts of every event
unfoldable pub all_to : ℕ → (ℕ → Bool) → Bool
all_to zero f = true
all_to (suc n) f = f n && all_to n f

-- "12 tests the new sum and refuses a p below the start": not such a p, and "The totals sum to p less that start"
abbrev pub totals_pass : ℕ → ℕ → Totals → Bool
totals_pass first p totals = nat_le first p && totals_sum totals == p - first

-- nor "p over 1,009,999"
unfoldable pub tally_passes : List Reference → ℕ → Tally → Bool
tally_passes refs w t =
    all_to event_limit (count_passes refs w t)
    && (nat_le t.next instance_limit && totals_pass (first_instance refs) t.next t.totals)

-- what 12 lets through: none of "Feeding, pulling: a state whose frames or W opening would refuse .. or a count above base plus W"
unfoldable pub state_passes : State → Bool
state_passes s = rule_passes s && tally_passes (refs_in s) s.width (tally_in s)

-- ---- 12 once more, condition by condition
-- what 12 lets through: a state of which none of its conditions holds
pub record Passing (s : State) : Type 0 where
  -- desk or board: "The limit is chosen at opening, stays in the state"; no opening gives another number
  pub profile : Profile
  pub number : s.profile ≡ profile_number profile
  -- not "frames .. opening would refuse", by their number: 64 of the desk, 16 of the board
  pub room : s.len ≤ frames_most profile
  -- not "a state whose frames or W opening would refuse", nor "a board state above them": with 32 × W words they are opened
  pub opens : (win : List ℤ) → length win ≡ window_words s.width
      → (open_def profile (state_frames s) s.width win).answer ≡ opened
  -- not "a count over 1,000,000"
  pub few_lines : (e : ℕ) → e < event_limit → count_of (tally_in s) e ≤ line_limit
  -- not "p over 1,009,999"
  pub few_verdicts : s.next.0 ≤ instance_limit
  -- not "a p below the start"
  pub begun : first_instance (refs_in s) ≤ s.next.0
  -- "The totals sum to p less that start"
  pub sum : totals_sum s.totals ≡ s.next.0 - first_instance (refs_in s)
  -- not "a nonzero count of an unreferenced event"
  pub none : (e : ℕ) → e < event_limit → (Referenced (refs_in s) e → ⊥) → count_of (tally_in s) e ≡ 0
  -- not "a count above base plus W"
  pub within : (e : ℕ) → e < event_limit → Referenced (refs_in s) e
      → count_of (tally_in s) e ≤ base (refs_in s) e s.next.0 + s.width
