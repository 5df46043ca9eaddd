-- Pulling: 12, 13, 27, 14, then the verdict of the next instance or 'waiting'. From document 01, "Feeding, pulling and the window"
-- and "What is turned down", and document 02, point 11. Pull is the document's term. Assumes nothing: definitions.
use Rattle.std.specs.Prelude.{ℕ, cond, List, length, ℤ, nat_lt}
use Rattle.rule.specs.Tree.{Reference, RuleTree}
use Rattle.verdict.specs.Found.{Found, Given}
use Rattle.verdict.specs.Settled.{judgement}
use Rattle.verdict.specs.declared.Verdict.{Verdict}
use Rattle.std.specs.Prelude.{Option, Some, None}
use Rattle.checker.specs.Limits.{report_least}
use Rattle.checker.specs.Answer.{Answer, waiting, verdict, refused, pull_told}
use Rattle.checker.specs.State.{tally_in, rule_in, refs_in, with_verdict, with_tally}
use Rattle.checker.specs.Found.{given_in_window}
use Rattle.checker.specs.Report.{report_after}
use Rattle.checker.specs.Admission.{Admission, admitted, barred, admission}
use Rattle.checker.specs.declared.Returned.{Returned}
use Rattle.checker.specs.declared.State.{State}

-- ---- the decision, which the plain machine and the checker share
-- "a buffer that 14 names", 'waiting', or "its verdict"
pub data PullRead : Type 0 where
  short waits : PullRead
  gave : Verdict → PullRead

-- "If instance p is settled by the lists, the answer is its verdict .. Else the answer is 'waiting'"
abbrev pub offered : Option Verdict → PullRead
offered None = waits
offered (Some v) = gave v

-- "a buffer that 14 names is refused with 14": n is the buffer's length; by what is given of the instance
unfoldable pub pull_read : RuleTree → Given → ℕ → PullRead
pull_read rule g n = cond (nat_lt n report_least) short (offered (judgement g rule))

-- "is refused with 14 .. the answer is its verdict .. Else the answer is 'waiting'"
abbrev pub pull_answer : PullRead → Answer
pull_answer short = refused 14 0
pull_answer waits = waiting
pull_answer (gave v) = verdict v

-- "a false one fills the report": the buffer after the pull
abbrev pub pull_report : ℕ → List Reference → (Reference → Found) → List ℕ → PullRead → List ℕ
pull_report i refs found buffer short = buffer
pull_report i refs found buffer waits = buffer
pull_report i refs found buffer (gave v) = report_after i refs found buffer v

-- ---- the checker
-- "the answer, the state and all lent words": those of the report buffer; the window is only read
pub record PullResult : Type 0 where
  pub answer : Answer
  pub state : State
  pub report : List ℕ

-- "A refusal .. changes nothing"
abbrev pub not_pulled : State → List ℕ → Answer → PullResult
not_pulled s buffer a = record { answer = a; state = s; report = buffer }

-- "A reference of instance i", where i is p: what is given by the counts and the window
abbrev pub given_here : State → List ℤ → Given
given_here s win = given_in_window s.width s.counts win s.next.0

-- "A reference of instance i", where i is p: what it is by the counts and the window
abbrev pub found_here : State → List ℤ → Reference → Found
found_here s win = (given_here s win).found

-- "A refused .. pull .. and 'waiting' change nothing"
abbrev pub state_after : State → PullRead → State
state_after s short = s
state_after s waits = s
state_after s (gave v) = with_tally s (with_verdict (tally_in s) v)

-- "the answer is its verdict, a false one fills the report .., and p and that verdict's total go up by 1"
abbrev pub pulled_by : State → List ℤ → List ℕ → PullRead → PullResult
pulled_by s win buffer x =
    record {
      answer = pull_answer x;
      state = state_after s x;
      report = pull_report s.next.0 (refs_in s) (found_here s win) buffer x;
    }

-- what a pull of a state that is let through reads: n is the buffer's length
abbrev pub next_in : State → List ℤ → ℕ → PullRead
next_in s win n = pull_read (rule_in s) (given_here s win) n

-- "A refusal .. changes nothing"; from what is let through a verdict is pulled
abbrev pub pulled_if : State → List ℤ → List ℕ → Admission → PullResult
pulled_if s win buffer admitted = pulled_by s win buffer (next_in s win (length buffer))
pulled_if s win buffer (barred number) = not_pulled s buffer (refused number 0)

-- "for .. every argument": pull is the document's term; 12, 13, 27, then 14
unfoldable pub pull_def : State → List ℤ → List ℕ → PullResult
pull_def s win buffer = pulled_if s win buffer (admission s win)

-- what the code's answer and state and the buffer after the call are, as such a result
abbrev pub pull_outcome : Returned (Option Verdict) → List ℕ → PullResult
pull_outcome r report = record { answer = pull_told r.answer; state = r.state; report = report }
