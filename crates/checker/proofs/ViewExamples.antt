-- Views, computed: the limit of 166 bytes from both sides, which bytes they have, and two logs with no time in common.
-- Assumes nothing.
use Rattle.std.proofs.Common.{◌≡◌, ℕ, List, [], ◌∷◌, ◌++◌, replicate, ℤ, pos, refl}
use Rattle.rule.specs.Frames.{kind_of}
use Rattle.rule.specs.Tree.{postfix, bytes_of}
use Rattle.rule.specs.References.{reference_count}
use Rattle.rule.specs.Order.{order_of}
use Rattle.rule.specs.Sizes.{sizes_fit}
use Rattle.rule.specs.Build.{tree_of}
use Rattle.rule.specs.Check.{checked_of}
use Rattle.rule.proofs.Laws.{latency}
use Rattle.log_lines.specs.Digit.{digit_value}
use Rattle.log_lines.specs.Line.{digits_at_front, bad_place, line_of}
use Rattle.verdict.specs.declared.Verdict.TheVariants.{True, False, Unknown}
use Rattle.checker.specs.Limits.{window_words}
use Rattle.checker.specs.Base.{of_event, referenced, smallest, base, some_not_void, first_from, first_instance}
use Rattle.checker.specs.State.{fresh_state, with_tally, with_sum}
use Rattle.checker.specs.Ring.{stored, kept}
use Rattle.checker.specs.Sum.{added_up, sum_of}
use Rattle.checker.specs.Open.{open_def}
use Rattle.checker.specs.declared.Profile.TheVariants.{Desk}
use Rattle.checker.specs.StateTest.{rule_passes, count_passes, all_to, tally_passes, state_passes}
use Rattle.checker.specs.Admission.{admission}
use Rattle.checker.specs.Feed.{feed_event, feed_def}
use Rattle.checker.specs.Report.{report_bytes}
use Rattle.checker.specs.Pull.{pull_read, pull_def}
use Rattle.checker.specs.Calls.{Call, outs}
use Rattle.checker.specs.Demand.{verdicts}
use Rattle.checker.specs.View.{view_def, views, views_out, InstanceVerdict, reported_from, reported_out, seen}
use Rattle.checker.proofs.Marked.{line, next}

-- ---- "a buffer under 166 bytes gives 14 and an empty view"
none : view_def [] ≡ record { number = 14; bytes = [] }
unfolding view_def
none = refl

under : view_def (replicate 165 7) ≡ record { number = 14; bytes = [] }
unfolding view_def
under = refl

least : view_def (replicate 166 7) ≡ record { number = 0; bytes = 7 ∷ 7 ∷ 7 ∷ 7 ∷ 7 ∷ [] }
unfolding view_def
least = refl

-- ---- "the report's first 5 bytes"
first-five : view_def (10 ∷ 11 ∷ 12 ∷ 13 ∷ 14 ∷ 15 ∷ replicate 250 7) ≡ record { number = 0; bytes = 10 ∷ 11 ∷ 12 ∷ 13 ∷ 14 ∷ [] }
unfolding view_def
first-five = refl

-- ---- "i and the verdict"
-- the greatest instance that can be reported is 1,009,998
greatest : seen (record { instance = 1009998; verdict = False }) ≡ 0 ∷ 0x0F ∷ 0x69 ∷ 0x4E ∷ 0 ∷ []
greatest = refl

some-reported : reported_from 3 (False ∷ True ∷ Unknown ∷ False ∷ [])
    ≡ record { instance = 3; verdict = False } ∷ record { instance = 6; verdict = False } ∷ []
unfolding reported_from
some-reported = refl

-- ---- "though every note differ": two logs of document 01's first rule
abbrev frames : List ℕ
frames = bytes_of (postfix latency)

-- a window for W, as opening may find it
abbrev window : ℕ → List ℤ
window w = replicate (window_words w) (pos 7)

-- an in and an out at these times, and a pull
abbrev turn : ℕ → ℕ → List Call
turn begun ended = line 0 begun ∷ line 1 ended ∷ next ∷ []

-- 30, 25 and 100 units
abbrev one_log : List Call
one_log = turn 10 40 ++ (turn 50 75 ++ turn 100 200)

-- 26, 0 and 999 units
abbrev other_log : List Call
other_log = turn 1000 1026 ++ (turn 2000 2000 ++ turn 3000 3999)

-- instances 0 and 2 are false, and 1 is true
abbrev both_reported : List InstanceVerdict
both_reported = record { instance = 0; verdict = False } ∷ record { instance = 2; verdict = False } ∷ []

abbrev both_views : List (List ℕ)
both_views = (0 ∷ 0 ∷ 0 ∷ 0 ∷ 0 ∷ []) ∷ (0 ∷ 0 ∷ 0 ∷ 2 ∷ 0 ∷ []) ∷ []

two_logs : (reported_out Desk frames 4 (window 4) one_log ≡ both_reported)
    × (views_out Desk frames 4 (window 4) one_log ≡ both_views)
    × (reported_out Desk frames 1 (window 1) other_log ≡ both_reported)
    × (views_out Desk frames 1 (window 1) other_log ≡ both_views)
unfolding view_def views reported_from verdicts kind_of reference_count order_of sizes_fit tree_of checked_of digit_value digits_at_front bad_place line_of of_event referenced smallest base some_not_void first_from first_instance fresh_state with_tally with_sum stored kept added_up sum_of open_def rule_passes count_passes all_to tally_passes state_passes admission feed_event feed_def report_bytes pull_read pull_def outs
two_logs = (refl, refl, refl, refl)
