-- Pulls go on until 'waiting': a verdict raises p by 1, and 12 lets p be at most 1,009,999, so the count of pulls never runs out
-- before. Assumes nothing.
use Rattle.std.proofs.Common.{◌≡◌, ℕ, zero, suc, ◌+◌, ◌*◌, ◌<◌, ◌≤◌, true, cond, List, [], ◌∷◌, take, ℤ, sym, refl, ap, subst, arith}
use Rattle.rule.specs.Limits.{frame_bytes}
use Rattle.rule.specs.Frames.{Bytes}
use Rattle.rule.specs.Reading.{read_of}
use Rattle.rule.specs.ReadTold as reading
use Rattle.rule.proofs.Main.{read-bytes}
use Rattle.verdict.specs.Found.{instance_limit}
use Rattle.verdict.specs.Settled.{judgement}
use Rattle.verdict.specs.declared.Verdict.{Verdict}
use Rattle.std.specs.Prelude.{Option, Some, None}
use Rattle.checker.specs.Answer.{waiting, verdict}
use Rattle.checker.specs.State.{rule_in, with_tally}
use Rattle.checker.specs.Open.{OpenResult, open_def}
use Rattle.checker.specs.StateTest.{state_passes}
use Rattle.checker.specs.Demand.{Unrefused}
use Rattle.checker.specs.Pull.{offered, pull_read, PullResult, given_here, pulled_by, pull_def}
use Rattle.checker.specs.declared.Profile.TheVariants.{Desk}
use Rattle.checker.specs.declared.State.{State}
use Rattle.checker.proofs.Main.{passes_exactly}
use Rattle.checker.proofs.Laws.{both-opened, in_good, opened-stays}
use Rattle.bench.specs.Progress.{Progress, empty_report, pull_of, is_verdict, pulled_once, UntilWaiting, last, more, pulls, pull_limit, fed_line, after_line, after_lines}
use Rattle.bench.specs.Output.{bench_width, before_log, begun, opened_for}
use Rattle.bench.specs.Carried.{LetIn}
use Rattle.bench.proofs.RunLaws.{pulled_in, fed_in}
use Rattle.bench.proofs.Whole.{read_opened}

low : (s : State) → state_passes s ≡ true → s.next.0 ≤ instance_limit
low s g = ((passes_exactly s).0 g).few_verdicts

-- ---- one pull: 'waiting', or a verdict that raises p by 1
data Pulled (p : ℕ) (r : PullResult) : Type 0 where
  waited : r.answer ≡ waiting → Pulled p r
  given : (v : Verdict) → r.answer ≡ verdict v → r.state.next.0 ≡ p + 1 → Pulled p r

pulled-by : (s : State) (win : List ℤ) (j : Option Verdict) → Pulled s.next.0 (pulled_by s win empty_report (offered j))
unfolding with_tally
pulled-by s win None = waited refl
pulled-by s win (Some v) = given v refl refl

next-once : (x : Progress) → (pulled_once x).state.next.0 ≡ (pull_of x).state.next.0
unfolding pulled_once
next-once x = refl

module _ (x : Progress) (s : LetIn x) where
  pulled : Pulled x.state.next.0 (pull_of x)
  unfolding pull_def pull_read
  pulled =
      rw s.admits
      (pulled-by x.state x.words (judgement (given_here x.state x.words) (rule_in x.state)))

  in_pulled : LetIn (pulled_once x)
  unfolding pulled_once
  in_pulled = pulled_in x s x.counts _ refl

  in_fed : (line : List ℕ) → LetIn (fed_line x line)
  unfolding fed_line
  in_fed line = fed_in x s _ x.said line refl

-- ---- as many as are enough
until : (k : ℕ) (x : Progress) → LetIn x → instance_limit < k + x.state.next.0 → UntilWaiting x (pulls k x)
unfolding pulls
until zero x s h = absurd (omega (arith, low x.state (in_good x.state x.words s.admits)))
until (suc k) x s h = go (pulled x s) (until k (pulled_once x) (in_pulled x s))
  where
    go : Pulled x.state.next.0 (pull_of x)
        → (instance_limit < k + (pulled_once x).state.next.0 → UntilWaiting (pulled_once x) (pulls k (pulled_once x)))
        → UntilWaiting x (cond (is_verdict (pull_of x).answer) (pulls k (pulled_once x)) (pulled_once x))
    go (waited e) i = rw (ap is_verdict e) (last x e)
    go (given v e n) i = rw (ap is_verdict e) (more x (pulls k (pulled_once x)) v e (i (omega (arith, next-once x))))

pub pulls_wait : (x : Progress) → LetIn x → UntilWaiting x (pulls pull_limit x)
pulls_wait x s = until pull_limit x s (omega arith)

in_until : (x y : Progress) → UntilWaiting x y → LetIn x → LetIn y
in_until _ _ (last x e) s = in_pulled x s
in_until _ _ (more x y v e u) s = in_until (pulled_once x) y u (in_pulled x s)

-- ---- line by line
in_lines : (x : Progress) (ls : List (List ℕ)) → LetIn x → LetIn (after_lines x ls)
unfolding after_lines
in_lines x [] s = s
in_lines x (l ∷ ls) s =
    let f = in_fed x s l in
    in_lines (after_line x l) ls (in_until (fed_line x l) (after_line x l) (pulls_wait (fed_line x l) f) f)

-- ---- from an unrefused opening
in_first : {frames : List ℕ} {win : List ℤ} → Unrefused Desk frames bench_width win → LetIn (before_log (open_def Desk frames bench_width win))
in_first {frames} {win} o =
    record {
      admits = opened-stays o;
      bytes = subst Bytes (sym (both-opened o).sim.rule) o.bytes;
    }

module _ (text b : List ℕ) (n : ℕ) (s : List ℕ) (r : read_of text b ≡ (reading.frames n, s)) where
  abbrev o : OpenResult
  o = opened_for (take (n * frame_bytes) s)

  sound-read : LetIn (before_log o)
  sound-read = in_first (record { bytes = read-bytes text b n s r; answer = read_opened text b n s r })

  pub first-waits : UntilWaiting (before_log o) (begun o)
  first-waits = pulls_wait (before_log o) sound-read

  pub line-waits : (ls : List (List ℕ)) (line : List ℕ)
      → UntilWaiting (fed_line (after_lines (begun o) ls) line) (after_line (after_lines (begun o) ls) line)
  line-waits ls line =
      let p = in_lines (begun o) ls (in_until (before_log o) (begun o) first-waits sound-read) in
      pulls_wait (fed_line (after_lines (begun o) ls) line) (in_fed (after_lines (begun o) ls) p line)
