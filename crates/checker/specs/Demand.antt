-- Words of the third demand: verdicts handed out, lines accepted, and what another order of lines may change.
-- From document 01, "Feeding, pulling and the window". Assumes nothing: definitions.
use Rattle.std.specs.Prelude.{◌≡◌, ℕ, zero, suc, ◌+◌, ◌≢◌, List, [], ◌∷◌, ◌++◌, map, length, ℤ}
use mathlib.Core.List.{Memᴰ}
use Rattle.rule.specs.Frames.{Bytes}
use Rattle.rule.specs.Tree.{Reference, references}
use Rattle.rule.specs.Build.{tree_of}
use Rattle.verdict.specs.Found.{Found, present, pending, found_in, given_in}
use Rattle.verdict.specs.Settled.{judgement}
use Rattle.std.specs.Prelude.{Some}
use Rattle.verdict.specs.Later.{Gains}
use Rattle.verdict.specs.declared.Verdict.{Verdict}
use Rattle.verdict.specs.declared.Verdict.TheVariants.{True, False, Unknown}
use Rattle.checker.specs.Answer.{Answer, opened, accepted, ignored, waiting, verdict, refused}
use Rattle.checker.specs.Base.{first_for}
use Rattle.checker.specs.State.{tally_in}
use Rattle.checker.specs.Report.{report_bytes, written}
use Rattle.checker.specs.Open.{open_def}
use Rattle.checker.specs.Feed.{FeedRead, turned, skipped, taken}
use Rattle.checker.specs.Calls.{Call, feed, pull, Out, fed, pulled, outs, end, Checker, checker}
use Rattle.checker.specs.Machine.{Machine, at_first, tally_of, machine_feed, machine_for}
use Rattle.checker.specs.declared.Profile.{Profile}
use Rattle.checker.specs.declared.Totals.{Totals}

-- "an unrefused opening"; the frames are bytes, as a slice of them is
pub record Unrefused (profile : Profile) (frames : List ℕ) (w : ℕ) (win : List ℤ) : Type 0 where
  pub bytes : Bytes frames
  pub answer : (open_def profile frames w win).answer ≡ opened

-- "A fresh checker is the state and window that an unrefused opening gave back"
abbrev pub fresh : Profile → List ℕ → ℕ → List ℤ → Checker
fresh profile frames w win = record { state = (open_def profile frames w win).state; words = (open_def profile frames w win).words }

-- "each answer with its number and place", without the report buffer
abbrev pub answer_of : Out → Answer
answer_of (fed a) = a
answer_of (pulled a report) = a

-- ---- verdicts
-- "the answer is its verdict": one such answer before others
abbrev pub handed : Answer → List Verdict → List Verdict
handed opened vs = vs
handed accepted vs = vs
handed ignored vs = vs
handed waiting vs = vs
handed (verdict v) vs = v ∷ vs
handed (refused number place) vs = vs

-- the "verdicts pulled" in a list of calls, the first instance's first
unfoldable pub verdicts : List Out → List Verdict
verdicts [] = []
verdicts (o ∷ os) = handed (answer_of o) (verdicts os)

-- f at i, i + 1, .., i + n - 1, for the instances from the first on, "verdicts pulled"
unfoldable pub instances_from : {A : Type 0} → ℕ → ℕ → (ℕ → A) → List A
instances_from i zero f = []
instances_from i (suc n) f = f i ∷ instances_from (i + 1) n f

-- 1 where a verdict is the one that is counted, for "a total for each of the verdicts"
abbrev pub is_it : Verdict → Verdict → ℕ
is_it True True = 1
is_it True False = 0
is_it True Unknown = 0
is_it False True = 0
is_it False False = 1
is_it False Unknown = 0
is_it Unknown True = 0
is_it Unknown False = 0
is_it Unknown Unknown = 1

-- "a total for each of the verdicts": how often one is among others
unfoldable pub count_in : List Verdict → Verdict → ℕ
count_in [] v = 0
count_in (x ∷ xs) v = is_it v x + count_in xs v

-- "the totals true, false, unknown"
abbrev pub totals_of : List Verdict → Totals
totals_of vs = record { held = count_in vs True; failed = count_in vs False; unknown = count_in vs Unknown }

-- ---- after a list of calls, from an opening with this profile, these frames, this W and this window
-- "After every list": the checker
abbrev pub checker_after : Profile → List ℕ → ℕ → List ℤ → List Call → Checker
checker_after profile frames w win cs = end checker cs (fresh profile frames w win)

-- "the machine's lists after the last call", with its p and totals
abbrev pub machine_after : List ℕ → ℕ → List Call → Machine
machine_after frames w cs = end (machine_for frames w) cs (at_first frames)

-- "verdicts pulled" from the checker
abbrev pub handed_out : Profile → List ℕ → ℕ → List ℤ → List Call → List Verdict
handed_out profile frames w win cs = verdicts (outs checker cs (fresh profile frames w win))

-- ---- "The third demand is a single claim about the whole list and not one for each call"
pub record ThirdDemand (profile : Profile) (frames : List ℕ) (w : ℕ) (win : List ℤ) (cs : List Call) : Type 0 where
  -- "After every list, each answer with its number and place and each report buffer after its pull are as the machine gave them"
  pub answers : outs checker cs (fresh profile frames w win) ≡ outs (machine_for frames w) cs (at_first frames)
  -- "and the counts, p and totals in the state are the machine's"
  pub state : tally_in (checker_after profile frames w win cs).state ≡ tally_of (machine_after frames w cs)
  -- "The definition over all lines accepted in the list is the one over the machine's lists after the last call"
  pub final : map Some (handed_out profile frames w win cs)
      ≡ instances_from (first_for frames) (length (handed_out profile frames w win cs))
      (λ (i : ℕ). judgement (given_in (machine_after frames w cs).lists i) (tree_of frames))
  -- document 02, point 2: "The totals sum to p less that start"
  pub totals : ((checker_after profile frames w win cs).state.next.0
      ≡ first_for frames + length (handed_out profile frames w win cs))
      × ((checker_after profile frames w win cs).state.totals ≡ totals_of (handed_out profile frames w win cs))
  -- "So 12 and 13 never come in such a list"; document 02, point 11: 27, "like 12 and 13 it never comes in a list"
  pub never_12_13_27 : (x : Out) → Memᴰ x (outs checker cs (fresh profile frames w win)) → (place : ℕ)
      → (answer_of x ≢ refused 12 place) × ((answer_of x ≢ refused 13 place) × (answer_of x ≢ refused 27 place))

-- ---- accepted lines
-- of "accepted lines, each as its four notes": one, with its event
pub record Entry : Type 0 where
  pub event : ℕ
  pub notes : List ℤ

-- "Any other line is accepted": one such line before others
abbrev pub joining : FeedRead → List Entry → List Entry
joining (turned number place) es = es
joining skipped es = es
joining (taken e notes) es = record { event = e; notes = notes } ∷ es

-- "Accepted lines are those that the machine accepts": in the order in which a list of calls brings them
unfoldable pub accepted_in : List ℕ → ℕ → List Call → Machine → List Entry
accepted_in frames w [] m = []
accepted_in frames w (feed line ∷ cs) m =
    joining (machine_feed (tree_of frames) w m line) (accepted_in frames w cs (machine_for frames w m (feed line)).next)
accepted_in frames w (pull buffer ∷ cs) m = accepted_in frames w cs (machine_for frames w m (pull buffer)).next

-- "two orders of lines": the same lines in another order between events, and perhaps later lines
pub data Reordered : List Entry → List Entry → Type 0 where
  same : (es : List Entry) → Reordered es es
  later : (es more : List Entry) → Reordered es (es ++ more)
  swapped : (front : List Entry) (a b : Entry) (rest : List Entry) → a.event ≢ b.event
      → Reordered (front ++ (a ∷ (b ∷ rest))) (front ++ (b ∷ (a ∷ rest)))
  then : (es fs gs : List Entry) → Reordered es fs → Reordered fs gs → Reordered es gs

-- ---- reports
-- the report buffer after a pull that hands a verdict out, before others
abbrev pub reporting : Answer → List ℕ → List (List ℕ) → List (List ℕ)
reporting opened report rs = rs
reporting accepted report rs = rs
reporting ignored report rs = rs
reporting waiting report rs = rs
reporting (verdict v) report rs = report ∷ rs
reporting (refused number place) report rs = rs

-- "each report buffer after its pull", of the pulls that hand a verdict out: one beside each verdict, in the same order
unfoldable pub reports : List Out → List (List ℕ)
reports [] = []
reports (fed a ∷ os) = reports os
reports (pulled a report ∷ os) = reporting a report (reports os)

-- those of the checker
abbrev pub reports_out : Profile → List ℕ → ℕ → List ℤ → List Call → List (List ℕ)
reports_out profile frames w win cs = reports (outs checker cs (fresh profile frames w win))

-- what each reference of instance i is by the lines that a list accepts
abbrev pub found_after : List ℕ → ℕ → List Call → ℕ → Reference → Found
found_after frames w cs i = found_in (machine_after frames w cs).lists i

-- "Marks show the moment of the pull": a report of instance i, by the lines accepted before a pull of the list at which p is i; by
-- all lines that the list accepts each reference is the same, or it was pending
pub record Reported (frames : List ℕ) (w : ℕ) (cs : List Call) (i : ℕ) (report : List ℕ) : Type 0 where
  pub before : List Call
  pub buffer : List ℕ
  pub after : List Call
  pub split : before ++ (pull buffer ∷ after) ≡ cs
  pub turn : (machine_after frames w before).next ≡ i
  pub bytes : report ≡ written (report_bytes i (map (found_after frames w before i) (references (tree_of frames)))) buffer
  pub gains : (r : Reference) → Gains (found_after frames w before i r) (found_after frames w cs i r)

-- "Report marks are free only between two lists": a reference of one instance may be present in one and pending in the other
pub data FreeBetween : Found → Found → Type 0 where
  equal : (x : Found) → FreeBetween x x
  present_pending : (z : ℤ) → FreeBetween (present z) pending
  pending_present : (z : ℤ) → FreeBetween pending (present z)

-- the reports of instance i in two lists: the same but for such references
pub record ReportedTwice (frames : List ℕ) (w w' : ℕ) (cs cs' : List Call) (i : ℕ)
    (report report' : List ℕ) : Type 0 where
  pub first : Reported frames w cs i report
  pub second : Reported frames w' cs' i report'
  pub marks : (r : Reference)
      → FreeBetween (found_after frames w first.before i r) (found_after frames w' second.before i r)
