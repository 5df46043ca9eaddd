-- What machine hands see of reports. From document 02, point 3. View and machine hands are the document's terms.
-- Assumes nothing: definitions.
use Rattle.std.specs.Prelude.{ℕ, ◌+◌, Bool, true, false, cond, List, [], ◌∷◌, length, take, ℤ, nat_lt}
use Rattle.std.specs.Prelude.{Result, Ok, Err}
use Rattle.std.specs.Borrow.{Bor}
use Rattle.rule.specs.Tree.{word_bytes}
use Rattle.verdict.specs.declared.Verdict.{Verdict}
use Rattle.verdict.specs.declared.Verdict.TheVariants.{True, False, Unknown}
use Rattle.checker.specs.Limits.{report_least}
use Rattle.checker.specs.Answer.{Answer, opened, accepted, ignored, waiting, verdict, refused}
use Rattle.checker.specs.Refusals.{refusal_number}
use Rattle.checker.specs.Base.{first_for}
use Rattle.checker.specs.Report.{false_byte}
use Rattle.checker.specs.Calls.{Call, Out, fed, pulled, outs, checker}
use Rattle.checker.specs.Demand.{fresh, handed_out}
use Rattle.checker.specs.declared.refusals.Refusal.{Refusal}
use Rattle.checker.specs.declared.Profile.{Profile}

-- ---- the call
-- "a view of the report's first 5 bytes"
abbrev pub view_length : ℕ
view_length = 5

-- "gives 14 and an empty view": the refusal's number, 0 where nothing is refused, and the view's bytes
pub record ViewResult : Type 0 where
  pub number : ℕ
  pub bytes : List ℕ

-- "a view of the report's first 5 bytes, that part of the buffer itself; a buffer under 166 bytes gives 14 and an empty view"
unfoldable pub view_def : List ℕ → ViewResult
view_def buffer =
    cond (nat_lt (length buffer) report_least)
    (record { number = 14; bytes = [] })
    (record { number = 0; bytes = take view_length buffer })

-- which of them the code's answer tells: the bytes of the part that it gives, or a refusal with "an empty view"
abbrev pub view_told : Result (Bor (List ℕ)) Refusal → ViewResult
view_told (Ok view) = record { number = 0; bytes = view.now }
view_told (Err why) = record { number = refusal_number why; bytes = [] }

-- ---- views in a list of calls
-- document 01: "A false verdict fills a report in a lent buffer; other verdicts leave it"
abbrev pub fills : Verdict → Bool
fills True = false
fills False = true
fills Unknown = false

-- the view of the buffer as a pull left it, where that pull filled a report, before others
abbrev pub viewing : Answer → List ℕ → List (List ℕ) → List (List ℕ)
viewing opened report vs = vs
viewing accepted report vs = vs
viewing ignored report vs = vs
viewing waiting report vs = vs
viewing (verdict v) report vs = cond (fills v) ((view_def report).bytes ∷ vs) vs
viewing (refused number place) report vs = vs

-- "one view after each report"
unfoldable pub views : List Out → List (List ℕ)
views [] = []
views (fed a ∷ os) = views os
views (pulled a report ∷ os) = viewing a report (views os)

-- "give the hands, one view after each report": what a list of calls on a fresh checker gives
abbrev pub views_out : Profile → List ℕ → ℕ → List ℤ → List Call → List (List ℕ)
views_out profile frames w win cs = views (outs checker cs (fresh profile frames w win))

-- ---- "their reported instances and verdicts"
-- one of them
pub record InstanceVerdict : Type 0 where
  pub instance : ℕ
  pub verdict : Verdict

-- those that fill a report, of verdicts of which the first is instance i's
unfoldable pub reported_from : ℕ → List Verdict → List InstanceVerdict
reported_from i [] = []
reported_from i (v ∷ vs) =
    cond (fills v) (record { instance = i; verdict = v } ∷ reported_from (i + 1) vs) (reported_from (i + 1) vs)

-- those of the verdicts that a list of calls on a fresh checker hands out
abbrev pub reported_out : Profile → List ℕ → ℕ → List ℤ → List Call → List InstanceVerdict
reported_out profile frames w win cs = reported_from (first_for frames) (handed_out profile frames w win cs)

-- "Machine hands get i and the verdict", as document 01 has them in a report: "p before the pull (4 bytes), 00 for false", the only
-- verdict that fills one
abbrev pub seen : InstanceVerdict → List ℕ
seen x = word_bytes x.instance (false_byte ∷ [])
