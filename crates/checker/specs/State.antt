-- The state, and each change of it. From document 01, "Feeding, pulling and the window" and "What is turned down".
-- Assumes nothing: definitions.
use Rattle.std.specs.Prelude.{◌≡◌, ℕ, ◌+◌, ◌-◌, ◌*◌, ◌/◌, List, ◌++◌, length, take, replicate}
use Rattle.std.specs.Prelude.{slice_index, slice_set}
use Rattle.rule.specs.Limits.{event_limit, frame_limit, frame_bytes}
use Rattle.rule.specs.Tree.{Reference, RuleTree, references}
use Rattle.rule.specs.Build.{tree_of}
use Rattle.verdict.specs.declared.Verdict.{Verdict}
use Rattle.verdict.specs.declared.Verdict.TheVariants.{True, False, Unknown}
use Rattle.checker.specs.Base.{first_for}
use Rattle.checker.specs.Profile.{profile_number}
use Rattle.checker.specs.declared.Profile.{Profile}
use Rattle.checker.specs.declared.Totals.{Totals}
use Rattle.checker.specs.declared.State.{State}

-- ---- totals
-- "a total for each of the verdicts, 0 at first"
abbrev pub no_totals : Totals
no_totals = record { held = 0; failed = 0; unknown = 0 }

-- "that verdict's total go up by 1"
abbrev pub counted : Totals → Verdict → Totals
counted t True = record { held = t.held + 1; failed = t.failed; unknown = t.unknown }
counted t False = record { held = t.held; failed = t.failed + 1; unknown = t.unknown }
counted t Unknown = record { held = t.held; failed = t.failed; unknown = t.unknown + 1 }

-- the sum in "The totals sum to p less that start"
abbrev pub totals_sum : Totals → ℕ
totals_sum t = t.held + t.failed + t.unknown

-- ---- "the counts, p and totals in the state", which the plain machine has too; next is p
pub record Tally : Type 0 where
  pub counts : List ℕ
  pub next : ℕ
  pub totals : Totals

-- "An event's count"
abbrev pub count_of : Tally → ℕ → ℕ
count_of t e = slice_index t.counts e

-- no lines and no totals yet: "empty at first .. 0 at first", with p
abbrev pub tally_from : ℕ → Tally
tally_from p = record { counts = replicate event_limit 0; next = p; totals = no_totals }

-- an accepted line "is counted": one more of its event
abbrev pub with_line : Tally → ℕ → Tally
with_line t e = record { counts = slice_set t.counts e (count_of t e + 1); next = t.next; totals = t.totals }

-- "p and that verdict's total go up by 1"
abbrev pub with_verdict : Tally → Verdict → Tally
with_verdict t v = record { counts = t.counts; next = t.next + 1; totals = counted t.totals v }

-- ---- states; only here their fields are listed
-- "The state carries frames, W (1 to 256), per-event counts, p, and the totals"; document 02, point 9: "stays in the state", and
-- point 11: "The state keeps the wrapping 32-bit sum of the window's words"
abbrev pub state_with : List ℕ → ℕ → ℕ → ℕ → Tally → ℕ → State
state_with frames n w number t sum =
    record {
      frames = frames;
      len = n;
      width = w;
      profile = number;
      counts = t.counts;
      next = record { 0 = t.next };
      totals = t.totals;
      sum = sum;
    }

-- "per-event counts, p, and the totals" of a state
abbrev pub tally_in : State → Tally
tally_in s = record { counts = s.counts; next = s.next.0; totals = s.totals }

-- a state with other "per-event counts, p, and the totals"
unfoldable pub with_tally : State → Tally → State
with_tally s t = state_with s.frames s.len s.width s.profile t s.sum

-- a state with another "sum of the window's words"
unfoldable pub with_sum : State → ℕ → State
with_sum s sum = state_with s.frames s.len s.width s.profile (tally_in s) sum

-- "the state that is zero throughout, with no frames"
abbrev pub zero_state : State
zero_state = state_with (replicate (frame_limit * frame_bytes) 0) 0 0 0 (tally_from 0) 0

-- "the state .. that an unrefused opening gave back", zero after the last frame; document 02, point 2: "p starts there". The sum is
-- 0, as "opening sets all to 0"
unfoldable pub fresh_state : Profile → List ℕ → ℕ → State
fresh_state profile frames w =
    state_with (frames ++ replicate (frame_limit * frame_bytes - length frames) 0) (length frames / frame_bytes) w
    (profile_number profile) (tally_from (first_for frames)) 0

-- "a state whose frames": those that its rule is
abbrev pub state_frames : State → List ℕ
state_frames s = take (s.len * frame_bytes) s.frames

-- "the rule .. that opening was given", as a tree
abbrev pub rule_in : State → RuleTree
rule_in s = tree_of (state_frames s)

-- the rule's references, "in frame order"
abbrev pub refs_in : State → List Reference
refs_in s = references (rule_in s)

-- "the rule and W that opening was given", and the profile: the same in two states
pub record SameRule (s s' : State) : Type 0 where
  pub frames : s'.frames ≡ s.frames
  pub len : s'.len ≡ s.len
  pub width : s'.width ≡ s.width
  pub profile : s'.profile ≡ s.profile
