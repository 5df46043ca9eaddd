-- Calls whose lines are old ones, on the plain machine, and the same with each line raised, on the checker. Assumes nothing.
use Rattle.std.proofs.Common.{◌≡◌, ℕ, ◌+◌, eqb, leb, List, [], ◌∷◌, map, ℤ, sym, refl, ap, ◌∙◌, ap₂, ⊎_elim}
use Rattle.rule.specs.Tree.{Reference, references}
use Rattle.rule.specs.Build.{tree_of}
use Rattle.log_lines.specs.Line.{LineAnswer, line_of}
use Rattle.log_lines.specs.Line as line
use Rattle.log_lines.specs.Earlier.{old_line_of, raised_def}
use Rattle.log_lines.specs.Earlier as log
use Rattle.log_lines.proofs.Main.{raised-or-refused}
use Rattle.verdict.specs.declared.Verdict.{Verdict}
use Rattle.checker.specs.Limits.{line_limit}
use Rattle.checker.specs.Answer.{Answer, opened, accepted, ignored, waiting, verdict, refused}
use Rattle.checker.specs.Base.{referenced, base}
use Rattle.checker.specs.State.{Tally, count_of}
use Rattle.checker.specs.Feed.{FeedRead, feed_event, feed_read, feed_answer}
use Rattle.checker.specs.Calls.{Call, feed, pull, Out, fed, pulled, outs, end}
use Rattle.checker.specs.Machine.{Machine, at_first, tally_of, after_feed, machine_for}
use Rattle.checker.specs.Demand.{Unrefused, handed, verdicts}
use Rattle.checker.specs.Earlier.{old_machine_for, raised_or, raised_call, in_raised, out_raised, RaisedLog}
use Rattle.checker.specs.declared.Profile.{Profile}
use Rattle.checker.proofs.Choices.{cond_case}
use Rattle.checker.proofs.Lists

-- a line that was read is never answered with 23
event-same : (refs : List Reference) (w : ℕ) (t : Tally) (e : ℕ) (notes : List ℤ)
    → in_raised (feed_answer (feed_event refs w t e notes)) ≡ feed_answer (feed_event refs w t e notes)
unfolding feed_event
event-same refs w t e notes =
    cond_case (λ (f : FeedRead). in_raised (feed_answer f) ≡ feed_answer f) (referenced refs e) _ _
    (λ _. cond_case (λ (f : FeedRead). in_raised (feed_answer f) ≡ feed_answer f) (leb line_limit (count_of t e)) _ _
    (λ _. refl)
    (λ _. cond_case (λ (f : FeedRead). in_raised (feed_answer f) ≡ feed_answer f) (leb (base refs e t.next + w) (count_of t e)) _ _
    (λ _. refl)
    (λ _. refl)))
    (λ _. refl)

-- ---- one call, with bytes that 15 refuses at 0 in place of a line that 23 names
module _ (frames : List ℕ) (w : ℕ) (other : List ℕ) (named : line_of other ≡ line.refused 15 0) (m : Machine) where
  -- feeding a line as it was read
  abbrev read_as : LineAnswer → FeedRead
  read_as t = feed_read (references (tree_of frames)) w (tally_of m) t

  -- the line that is fed
  abbrev bytes : List ℕ → List ℕ
  bytes s = raised_or other (raised_def s).answer (raised_def s).line

  abbrev Same : List ℕ → Type 0
  Same s = (feed_answer (read_as (line_of (bytes s))) ≡ in_raised (feed_answer (read_as (old_line_of s))))
      × (after_feed m (read_as (line_of (bytes s))) ≡ after_feed m (read_as (old_line_of s)))

  same-raised : (s : List ℕ) {e : ℕ} {a b c d : ℤ} → old_line_of s ≡ line.line e a b c d → (raised_def s).answer ≡ log.done
      → line_of (raised_def s).line ≡ old_line_of s → Same s
  same-raised s {e} {a} {b} {c} {d} read raised same =
      let reading : line_of (bytes s) ≡ old_line_of s =
      ap (λ (x : log.ConversionAnswer). line_of (raised_or other x (raised_def s).line)) raised ∙ same in
      let notes = event-same (references (tree_of frames)) w (tally_of m) e (a ∷ (b ∷ (c ∷ (d ∷ [])))) in (
        ap (λ (t : LineAnswer). feed_answer (read_as t)) (reading ∙ read)
            ∙ sym notes
            ∙ ap (λ (t : LineAnswer). in_raised (feed_answer (read_as t))) (sym read),
        ap (λ (t : LineAnswer). after_feed m (read_as t)) reading,
      )

  same-refused : (s : List ℕ) {p : ℕ} → old_line_of s ≡ line.refused 23 p → (raised_def s).answer ≡ log.turned 23 p → Same s
  same-refused s {p} read raised =
      let reading : line_of (bytes s) ≡ line.refused 15 0 =
      ap (λ (x : log.ConversionAnswer). line_of (raised_or other x (raised_def s).line)) raised ∙ named in (
        ap (λ (t : LineAnswer). feed_answer (read_as t)) reading ∙ ap (λ (t : LineAnswer). in_raised (feed_answer (read_as t))) (sym read),
        ap (λ (t : LineAnswer). after_feed m (read_as t)) reading ∙ ap (λ (t : LineAnswer). after_feed m (read_as t)) (sym read),
      )

  same-fed : (s : List ℕ) → Same s
  same-fed s =
      ⊎_elim (λ h. same-raised s h.0 h.1 h.2) (λ h. same-refused s h.0 h.1) (raised-or-refused s)

  out_step : (c : Call) → (machine_for frames w m (raised_call other c)).out ≡ out_raised (old_machine_for frames w m c).out
  out_step (feed s) = ap fed (same-fed s).0
  out_step (pull buffer) = refl

  next-step : (c : Call) → (machine_for frames w m (raised_call other c)).next ≡ (old_machine_for frames w m c).next
  next-step (feed s) = (same-fed s).1
  next-step (pull buffer) = refl

-- ---- a list of calls
module _ (frames : List ℕ) (w : ℕ) (other : List ℕ) (named : line_of other ≡ line.refused 15 0) where
  all-outs : (cs : List Call) (m : Machine)
      → outs (machine_for frames w) (map (raised_call other) cs) m ≡ map out_raised (outs (old_machine_for frames w) cs m)
  unfolding outs
  all-outs [] m = refl
  all-outs (c ∷ cs) m =
      ap₂ ◌∷◌ (out_step frames w other named m c)
      (ap (outs (machine_for frames w) (map (raised_call other) cs)) (next-step frames w other named m c) ∙ all-outs cs _)

  all_end : (cs : List Call) (m : Machine)
      → end (machine_for frames w) (map (raised_call other) cs) m ≡ end (old_machine_for frames w) cs m
  unfolding end
  all_end [] m = refl
  all_end (c ∷ cs) m =
      ap (end (machine_for frames w) (map (raised_call other) cs)) (next-step frames w other named m c) ∙ all_end cs _

-- a refusal hands out no verdict, whatever its number
handed-same : (a : Answer) (vs : List Verdict) → handed (in_raised a) vs ≡ handed a vs
handed-same opened vs = refl
handed-same accepted vs = refl
handed-same ignored vs = refl
handed-same waiting vs = refl
handed-same (verdict v) vs = refl
handed-same (refused number place) vs =
    cond_case (λ (a : Answer). handed a vs ≡ vs) (eqb number 23) (refused 15 0) (refused number place) (λ _. refl) (λ _. refl)

verdicts-kept : (os : List Out) → verdicts (map out_raised os) ≡ verdicts os
unfolding verdicts
verdicts-kept [] = refl
verdicts-kept (fed a ∷ os) = handed-same a (verdicts (map out_raised os)) ∙ ap (handed a) (verdicts-kept os)
verdicts-kept (pulled a report ∷ os) = ap (handed a) (verdicts-kept os)

pub raised_log : {profile : Profile} {frames : List ℕ} {w : ℕ} {win : List ℤ} → Unrefused profile frames w win
    → (other : List ℕ) → line_of other ≡ line.refused 15 0 → (cs : List Call) → RaisedLog profile frames w win other cs
raised_log {frames} {w} o other named cs =
    let same = Lists.answers o (map (raised_call other) cs) ∙ all-outs frames w other named cs (at_first frames) in
    record {
      answers = same;
      verdicts_same = ap verdicts same ∙ verdicts-kept (outs (old_machine_for frames w) cs (at_first frames));
      state = Lists.state o (map (raised_call other) cs) ∙ ap tally_of (all_end frames w other named cs (at_first frames));
    }
