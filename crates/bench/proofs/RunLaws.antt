-- Progress, step by step: what waits, what was written out before, and what each step adds. Assumes nothing.
use Rattle.std.proofs.Common.{◌≡◌, ℕ, zero, suc, ◌+◌, ◌-◌, ◌*◌, ◌<◌, ◌≤◌, min, Bool, true, false, cond, List, [], ◌++◌, length, get_or, take, drop, ℤ, sym, refl, ap, subst, ◌∙◌, ap₂, append_assoc, append-nil, arith, length-append, length-take-le, take_all, take_at}
use native.Mathlib.Decide.{dec_lt}
use lib.Seq.{sets, sets-eq}
use Rattle.rule.specs.Limits.{frame_limit, frame_bytes}
use Rattle.rule.specs.Frames.{Bytes}
use Rattle.checker.specs.Limits.{report_least}
use Rattle.checker.specs.Answer.{Answer, open_told, opened}
use Rattle.checker.specs.State.{state_frames, SameRule}
use Rattle.checker.specs.Parts.{state_of}
use Rattle.checker.specs.Open.{OpenResult, open_def, open_outcome}
use Rattle.checker.specs.Admission.{admission}
use Rattle.checker.specs.Demand.{Unrefused}
use Rattle.checker.specs.Ready.{Ready}
use Rattle.checker.specs.Feed.{FeedResult, feed_def}
use Rattle.checker.specs.Pull.{PullResult, pull_def}
use Rattle.checker.specs.declared.Profile.{Profile}
use Rattle.checker.specs.declared.Returned.{Returned}
use Rattle.checker.specs.declared.parts.Fields.{Fields}
use Rattle.checker.specs.declared.State.{State}
use Rattle.checker.proofs.Laws.{opened-stays, fed-stays, pulled-stays, feed-rule, pull-rule}
use Rattle.bench.specs.Print.{report_part}
use Rattle.bench.specs.Progress.{Progress, empty_report, pull_of, printed, is_verdict, pulled_once, pulls, pull_limit, feed_of, fed_line, after_line}
use Rattle.bench.specs.Carried.{LetIn, roomy, Ends, before, After}
use Rattle.bench.specs.declared.run.Counts.{Counts}

-- ---- what waits
ends-none : (s : List ℕ) → Ends s s
ends-none s = record { written = []; same = refl; whole = λ h. refl }

pub ends-all : (s : List ℕ) → roomy < length s → Ends [] s
ends-all s l = record { written = s; same = sym (append-nil s); whole = λ h. absurd (omega arith) }

-- a line put behind what waits
pub ends_more : (line : List ℕ) {x s : List ℕ} → Ends x s → Ends (x ++ line) (s ++ line)
ends_more line {x} {s} e =
    record {
      written = e.written;
      same = ap (λ (t : List ℕ). t ++ line) e.same ∙ append_assoc e.written x line;
      whole = λ h. e.whole (omega (arith, length-append s line));
    }

pub put_behind : (b line : List ℕ) (at n : ℕ) → at + length line ≤ length b → n ≡ at + length line → take n (sets b at line) ≡ take at b ++ line
put_behind b line at n h q =
    let l : length (take at b ++ line) ≡ at + length line = omega (arith, length-append (take at b) line, length-take-le at b (omega arith)) in
    rw (q, sets-eq line b at h) (take_at (take at b ++ line) (drop (at + length line) b) (at + length line) l)

-- a report's bytes, where the buffer has as many as any report
pub report-part : (report : List ℕ) (n : ℕ) → n ≡ min (6 + 5 * get_or report 5 0) report_least → length report ≡ report_least → take n report ≡ report_part report
report-part report n e l = go (6 + 5 * get_or report 5 0) e
  where
    go : (m : ℕ) → n ≡ min m report_least → take n report ≡ take m report
    go m q =
        elim (dec_lt report_least m) [
          | yes h ↦ take_all n report (omega arith) ∙ sym (take_all m report (omega arith))
          | no h ↦ let w : n ≡ m = omega arith in rw w
        ]

-- ---- after each other
pub after-refl : (x : Progress) → After x x
after-refl x = record { written = []; same = refl; whole = λ h. refl }

pub after_trans : {x y z : Progress} → After x y → After y z → After x z
after_trans {x} {y} {z} p q =
    let d : x.said ≡ p.written ++ y.said = ap (λ (v : Progress). v.said) p.same in
    let e : length x.said ≡ length p.written + length y.said = ap length d ∙ length-append p.written y.said in
    record {
      written = p.written ++ q.written;
      same =
          p.same
          ∙ ap (before p.written) q.same
          ∙ ap (λ (s : List ℕ). record { state = z.state; words = z.words; counts = z.counts; said = s }) (sym (append_assoc p.written q.written z.said));
      whole = λ h. rw (p.whole h, q.whole (omega arith));
    }

-- ---- what was written before stays in front
once-before : (w : List ℕ) (x : Progress) → pulled_once (before w x) ≡ before w (pulled_once x)
unfolding pulled_once
once-before w x = rw (append_assoc w x.said (printed (pull_of x).answer (pull_of x).report))

pulls-before : (k : ℕ) (w : List ℕ) (x : Progress) → pulls k (before w x) ≡ before w (pulls k x)
unfolding pulls
pulls-before zero w x = refl
pulls-before (suc k) w x = go (is_verdict (pull_of x).answer) (once-before w x) (pulls-before k w (pulled_once x))
  where
    go : (t : Bool) → pulled_once (before w x) ≡ before w (pulled_once x) → pulls k (before w (pulled_once x)) ≡ before w (pulls k (pulled_once x))
        → cond t (pulls k (pulled_once (before w x))) (pulled_once (before w x)) ≡ before w (cond t (pulls k (pulled_once x)) (pulled_once x))
    go true e i = ap (pulls k) e ∙ i
    go false e i = e

-- ---- one pull
module _ (x : Progress) {a : Answer} {st : State} {report : List ℕ} (d : record { answer = a; state = st; report = report } ≡ pull_of x) where
  pub pulled_as : {said : List ℕ} → Ends said (x.said ++ printed a report)
      → After (pulled_once x) (record { state = st; words = x.words; counts = x.counts; said = said })
  unfolding pulled_once
  pulled_as e =
      let f = rw (ap (λ (r : PullResult). r.answer) d, ap (λ (r : PullResult). r.report) d) at e in
      record { written = f.written; same = rw (ap (λ (r : PullResult). r.state) d, f.same); whole = f.whole }

  -- one that prints nothing
  pub pulled_quiet : printed a report ≡ [] → After (pulled_once x) (record { state = st; words = x.words; counts = x.counts; said = x.said })
  pulled_quiet n = pulled_as (rw (n, append-nil x.said) (ends-none x.said))

-- ---- a checker that 12, 13 and 27 let through stays one
module _ (frames : List ℕ) (f after : Fields) where
  pub ready-pulled : (win : List ℤ) (report : List ℕ) → Ready frames f win → Bytes (state_frames (state_of frames f))
      → state_of frames after ≡ (pull_def (state_of frames f) win report).state → Ready frames after win
  ready-pulled win report r b e =
      record { long = r.long; let_in = ap (λ (s : State). admission s win) e ∙ pulled-stays (state_of frames f) win r.let_in b report }

  pub ready-fed : (win win' : List ℤ) (line : List ℕ) → Ready frames f win → state_of frames after ≡ (feed_def (state_of frames f) win line).state
      → win' ≡ (feed_def (state_of frames f) win line).words → Ready frames after win'
  ready-fed win win' line r e w =
      record { long = r.long; let_in = ap₂ admission e w ∙ fed-stays (state_of frames f) win r.let_in line }

same-frames : (s t : State) → SameRule s t → state_frames t ≡ state_frames s
same-frames s t r = rw (r.frames, r.len)

module _ (x : Progress) (i : LetIn x) {a : Answer} {st : State} (counts : Counts) (said : List ℕ) where
  pub pulled_in : {report : List ℕ} → record { answer = a; state = st; report = report } ≡ pull_of x
      → LetIn (record { state = st; words = x.words; counts = counts; said = said })
  pulled_in d =
      let e : st ≡ (pull_of x).state = ap (λ (r : PullResult). r.state) d in
      rw e (record {
        admits = pulled-stays x.state x.words i.admits i.bytes empty_report;
        bytes = subst Bytes (sym (same-frames x.state (pull_of x).state (pull-rule x.state x.words empty_report))) i.bytes;
      })

  pub fed_in : {win : List ℤ} (line : List ℕ) → record { answer = a; state = st; words = win } ≡ feed_of x line
      → LetIn (record { state = st; words = win; counts = counts; said = said })
  fed_in line d =
      let e : st ≡ (feed_of x line).state = ap (λ (r : FeedResult). r.state) d in
      let w = ap (λ (r : FeedResult). r.words) d in
      rw (e, w) (record {
        admits = fed-stays x.state x.words i.admits line;
        bytes = subst Bytes (sym (same-frames x.state (feed_of x line).state (feed-rule x.state x.words line))) i.bytes;
      })

-- so is what an opening gives
pub ready-opened : (profile : Profile) (frames fs : List ℕ) (w : ℕ) (win : List ℤ) (o : Returned (Unit {0})) (win' : List ℤ) (f : Fields) → Bytes frames → open_told o.answer ≡ opened
    → length fs ≡ frame_limit * frame_bytes → state_of fs f ≡ o.state → open_outcome o win' ≡ open_def profile frames w win → Ready fs f win'
ready-opened profile frames fs w win o win' f b a l e d =
    let u : Unrefused profile frames w win = record { bytes = b; answer = sym (ap (λ (x : OpenResult). x.answer) d) ∙ a } in
    record {
      long = l;
      let_in = ap₂ admission (e ∙ ap (λ (x : OpenResult). x.state) d) (ap (λ (x : OpenResult). x.words) d) ∙ opened-stays u;
    }

-- ---- what is printed only grows
once_grows : (x : Progress) → length x.said ≤ length (pulled_once x).said
unfolding pulled_once
once_grows x = omega (arith, length-append x.said (printed (pull_of x).answer (pull_of x).report))

pulls_grow : (k : ℕ) (x : Progress) → length x.said ≤ length (pulls k x).said
unfolding pulls
pulls_grow zero x = omega arith
pulls_grow (suc k) x = go (is_verdict (pull_of x).answer) (once_grows x) (pulls_grow k (pulled_once x))
  where
    go : (t : Bool) → length x.said ≤ length (pulled_once x).said → length (pulled_once x).said ≤ length (pulls k (pulled_once x)).said
        → length x.said ≤ length (cond t (pulls k (pulled_once x)) (pulled_once x)).said
    go true e i = omega arith
    go false e i = e

pub line_grows : (x : Progress) (line : List ℕ) → length x.said ≤ length (after_line x line).said
unfolding fed_line
line_grows x line = pulls_grow pull_limit (fed_line x line)

-- ---- pulls until waiting
pub pull-next : (want x y : Progress) (left : ℕ) (more : Bool) → 0 < left → After want (pulls left x) → After (pulled_once x) y
    → more ≡ is_verdict (pull_of x).answer → After want (cond more (pulls (left - 1) y) y)
unfolding pulls
pull-next want x y zero more h p q e = absurd (omega arith)
pull-next want x y (suc k) more h p q e =
    let n : suc k - 1 ≡ k = omega arith in
    rw (n, e) (go (is_verdict (pull_of x).answer) p)
  where
    go : (t : Bool) → After want (cond t (pulls k (pulled_once x)) (pulled_once x)) → After want (cond t (pulls k y) y)
    go true r = after_trans r (record { written = q.written; same = ap (pulls k) q.same ∙ pulls-before k q.written y; whole = λ d. q.whole (omega (arith, pulls_grow k (pulled_once x))) })
    go false r = after_trans r q

pub pulls_none : (want x : Progress) (left : ℕ) → left ≡ 0 → After want (pulls left x) → After want x
unfolding pulls
pulls_none want x left e p = rw e at p

-- ---- a line
pub line_before : (w : List ℕ) (x : Progress) (line : List ℕ) → after_line (before w x) line ≡ before w (after_line x line)
unfolding fed_line
line_before w x line = pulls-before pull_limit w (fed_line x line)
