-- Logs of the earlier edition. From document 02, point 8: "every verdict over an old log is the one over its raised log".
-- Assumes nothing: definitions.
use Rattle.std.specs.Prelude.{◌≡◌, ℕ, cond, List, map, ℤ, ◌==◌}
use Rattle.rule.specs.Tree.{RuleTree, references}
use Rattle.rule.specs.Build.{tree_of}
use Rattle.log_lines.specs.Earlier.{old_line_of, done, turned, raised_def}
use Rattle.log_lines.specs.Earlier as log
use Rattle.checker.specs.Answer.{Answer, opened, accepted, ignored, waiting, verdict, refused}
use Rattle.checker.specs.State.{tally_in}
use Rattle.checker.specs.Feed.{FeedRead, feed_read, feed_answer}
use Rattle.checker.specs.Calls.{Call, feed, pull, Out, fed, pulled, Step, outs, end, checker}
use Rattle.checker.specs.Machine.{Machine, at_first, tally_of, after_feed, machine}
use Rattle.checker.specs.Demand.{fresh, verdicts, checker_after, handed_out}
use Rattle.checker.specs.declared.Profile.{Profile}

-- ---- the plain machine over old lines
module _ (rule : RuleTree) (w : ℕ) where
  -- as document 01 has feeding, with old lines for lines and 23 for 15: "event, three notes .. the fourth note 0"
  abbrev pub old_feed : Machine → List ℕ → FeedRead
  old_feed m line = feed_read (references rule) w (tally_of m) (old_line_of line)

  -- one call whose line, if it has one, is an old one; a pull is document 01's
  abbrev pub old_machine : Machine → Call → Step Machine
  old_machine m (feed line) = record { out = fed (feed_answer (old_feed m line)); next = after_feed m (old_feed m line) }
  old_machine m (pull buffer) = machine rule w m (pull buffer)

-- with the rule as frames
abbrev pub old_machine_for : List ℕ → ℕ → Machine → Call → Step Machine
old_machine_for frames w = old_machine (tree_of frames) w

-- ---- "its raised log"
-- the raised line, or other bytes in place of a line that 23 names
abbrev pub raised_or : List ℕ → log.ConversionAnswer → List ℕ → List ℕ
raised_or other done raised = raised
raised_or other (turned number place) raised = other

-- a call with its line raised
abbrev pub raised_call : List ℕ → Call → Call
raised_call other (feed line) = feed (raised_or other (raised_def line).answer (raised_def line).line)
raised_call other (pull buffer) = pull buffer

-- a line that 23 names is turned down by both, each in its own way: over the old line 23 with its place, over its raised line 15 at
-- 0. Every other answer is the same
abbrev pub in_raised : Answer → Answer
in_raised opened = opened
in_raised accepted = accepted
in_raised ignored = ignored
in_raised waiting = waiting
in_raised (verdict v) = verdict v
in_raised (refused number place) = cond (number == 23) (refused 15 0) (refused number place)

-- so of what a call gives; a pull gives the same
abbrev pub out_raised : Out → Out
out_raised (fed a) = fed (in_raised a)
out_raised (pulled a report) = pulled a report

-- "every verdict over an old log is the one over its raised log": a list of calls whose lines are old ones, on the plain machine,
-- and the list with each line raised, on a fresh checker
pub record RaisedLog (profile : Profile) (frames : List ℕ) (w : ℕ) (win : List ℤ) (other : List ℕ) (cs : List Call)
    : Type 0 where
  -- each answer with its number and place and each report buffer
  pub answers : outs checker (map (raised_call other) cs) (fresh profile frames w win)
      ≡ map out_raised (outs (old_machine_for frames w) cs (at_first frames))
  -- the verdicts handed out
  pub verdicts_same : handed_out profile frames w win (map (raised_call other) cs)
      ≡ verdicts (outs (old_machine_for frames w) cs (at_first frames))
  -- the counts, p and totals
  pub state : tally_in (checker_after profile frames w win (map (raised_call other) cs)).state
      ≡ tally_of (end (old_machine_for frames w) cs (at_first frames))
