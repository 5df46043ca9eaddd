-- From marks and notes to what a pull gives. Assumes nothing.
use Rattle.std.proofs.Common.{◌≡◌, ℕ, ◌≤◌, true, false, ltb, List, length, ℤ, sym, refl, ap, ◌∙◌, arith}
use Rattle.std.specs.Prelude.{Option, Some, None, Ok}
use Rattle.rule.specs.Frames.{frame_count, Bytes}
use Rattle.rule.specs.Tree.{Reference, references}
use Rattle.rule.specs.Build.{tree_of}
use Rattle.rule.specs.References.{reference_count}
use Rattle.rule.proofs.Laws.{passed}
use Rattle.rule.specs.Check.{checked_of}
use Rattle.rule.specs.CheckTold as checking
use Rattle.verdict.specs.Found.{instance_limit, Found}
use Rattle.verdict.specs.Settled.{judgement}
use Rattle.verdict.specs.Marks.{Judgeable}
use Rattle.verdict.specs.Pass.{judgement_of}
use Rattle.verdict.specs.declared.Verdict.{Verdict}
use Rattle.verdict.specs.declared.Verdict.TheVariants.{True, False, Unknown}
use Rattle.verdict.proofs.Main.{judge_accepted}
use Rattle.checker.specs.Limits.{report_least}
use Rattle.checker.specs.State.{rule_in}
use Rattle.checker.specs.Admission.{admitted, admission}
use Rattle.checker.specs.Report.{written}
use Rattle.checker.specs.Answer.{refused}
use Rattle.checker.specs.Pull.{pull_read, offered, pull_report, given_here, not_pulled, state_after, pulled_by, pull_def, pull_outcome}
use Rattle.checker.specs.Sights.{ShowsAll, Fillable, header_of, report_to}
use Rattle.checker.specs.Parts.{state_of, returned}
use Rattle.checker.specs.declared.parts.Fields.{Fields}
use Rattle.checker.specs.declared.State.{State}
use Rattle.checker.proofs.PullFound.{shown_told}
use Rattle.checker.proofs.PullReport.{report-is}

module _ {fs : List ℕ} {found : Reference → Found} {marks : List ℕ} {notes : List ℤ} (o : checked_of fs ≡ checking.accepted) (l : ShowsAll fs found marks notes) where
  offer_few : frame_count fs ≤ 64
  offer_few = omega (arith, (passed fs o).whole.most)

  pub offer_judge : {p : ℕ} → p ≤ instance_limit → Judgeable fs p marks notes
  offer_judge i =
      record {
        accepted = o;
        instance_in = i;
        marked = omega (arith, offer_few, l.marked);
        noted = omega (arith, offer_few, l.noted);
      }

  pub offer_fill : {m : ℕ} → report_least ≤ m → Fillable fs m marks notes
  offer_fill room =
      record {
        accepted = o;
        room = room;
        marked = omega (arith, offer_few, l.marked);
        noted = omega (arith, offer_few, l.noted);
      }

  module _ (p : ℕ) (j : Option Verdict) (e : j ≡ judgement_of fs p marks notes) where
    -- what the pass says, the definition says
    pub offer_judged : j ≡ judgement (record { instance = p; found = found }) (tree_of fs)
    offer_judged = e ∙ judge_accepted fs (record { instance = p; found = found }) marks notes o (shown_told fs found marks notes l.shown)

    -- a false verdict fills the report
    pub offered_false : Bytes fs → (buffer report : List ℕ) → report ≡ written (report_to fs marks notes (header_of p (reference_count fs)) (frame_count fs)) buffer
        → j ≡ Some False → report ≡ pull_report p (references (tree_of fs)) found buffer (offered j)
    offered_false b buffer report w q = rw q (w ∙ ap (λ (x : List ℕ). written x buffer) (report-is found b o marks notes p l.shown))

-- others leave it
pub offered_other : (i : ℕ) (refs : List Reference) (found : Reference → Found) (buffer : List ℕ) (j : Option Verdict) → (j ≡ Some False → ⊥)
    → buffer ≡ pull_report i refs found buffer (offered j)
offered_other i refs found buffer None h = refl
offered_other i refs found buffer (Some True) h = refl
offered_other i refs found buffer (Some False) h = absurd (h refl)
offered_other i refs found buffer (Some Unknown) h = refl

-- ---- a pull by its tests
module _ (s : State) (win : List ℤ) (buffer : List ℕ) where
  pub pull_14 : admission s win ≡ admitted → ltb (length buffer) report_least ≡ true → not_pulled s buffer (refused 14 0) ≡ pull_def s win buffer
  unfolding pull_def pull_read
  pull_14 a r = rw (a, r)

  pub pull_offers : admission s win ≡ admitted → ltb (length buffer) report_least ≡ false
      → (j : Option Verdict) → j ≡ judgement (given_here s win) (rule_in s) → pulled_by s win buffer (offered j) ≡ pull_def s win buffer
  unfolding pull_def pull_read
  pull_offers a r j e = rw (a, r, sym e)

-- ---- what the code gives, as a result
pub pulled_as : (frames : List ℕ) (f after : Fields) (win : List ℤ) (buffer report : List ℕ) (j : Option Verdict)
    → state_of frames after ≡ state_after (state_of frames f) (offered j)
    → report ≡ (pulled_by (state_of frames f) win buffer (offered j)).report
    → pull_outcome (returned frames (Ok j) after) report ≡ pulled_by (state_of frames f) win buffer (offered j)
pulled_as frames f after win buffer report None e w = rw (e, w)
pulled_as frames f after win buffer report (Some v) e w = rw (e, w)
