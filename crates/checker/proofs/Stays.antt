-- A state and a window that 12, 13 and 27 let through stay so: what a feed and a pull hand on passes them again, and so does a fresh one.
-- Assumes nothing.
use Rattle.std.proofs.Common.{◌≡◌, ℕ, ◌<◌, ◌≤◌, true, List, [], ◌∷◌, length, ℤ, sym, refl, ap, ◌∙◌, subst, ⊎_elim, eq-eqb}
use mathlib.Core.List.{Memᴰ}
use Rattle.numbers.proofs.Bools.{and-true, true-and}
use Rattle.rule.specs.Frames.{Bytes}
use Rattle.rule.specs.Tree.{Reference, RuleTree, references, LimitsR}
use Rattle.rule.specs.Build.{tree_of}
use Rattle.rule.specs.Opening.{Proper}
use Rattle.rule.proofs.Main.{frames_exactly, tree-of}
use Rattle.log_lines.specs.Line.{line_of}
use Rattle.verdict.specs.Found.{instance_limit, pending}
use Rattle.verdict.specs.Settled.{judgement}
use Rattle.std.specs.Prelude.{Some}
use Rattle.verdict.specs.declared.Verdict.{Verdict}
use Rattle.checker.specs.Limits.{window_words}
use Rattle.checker.specs.Profile.{profile_number}
use Rattle.checker.specs.Base.{base}
use Rattle.checker.specs.State.{Tally, count_of, tally_in, state_frames, rule_in, refs_in, SameRule, with_line, with_verdict, with_tally, with_sum, fresh_state}
use Rattle.checker.specs.Sum.{sum_of}
use Rattle.checker.specs.Found.{by_window}
use Rattle.checker.specs.Open.{OpenResult, open_def}
use Rattle.checker.specs.Admission.{Admission, admitted, barred, admission}
use Rattle.checker.specs.StateTest.{rule_passes, tally_passes, state_passes}
use Rattle.checker.specs.Feed.{FeedRead, turned, skipped, taken, words_with, fed_by, line_in, fed_if, feed_def}
use Rattle.checker.specs.Pull.{PullRead, short, waits, gave, given_here, found_here, pulled_by, next_in, pulled_if, pull_def}
use Rattle.checker.specs.Calls.{Call, feed, pull, end, Checker, checker}
use Rattle.checker.specs.Machine.{at_first}
use Rattle.checker.specs.Demand.{Unrefused, fresh, checker_after}
use Rattle.checker.specs.declared.Profile.{Profile}
use Rattle.checker.specs.declared.State.{State}
use Rattle.checker.proofs.Choices.{less_or}
use Rattle.checker.proofs.Ring.{length-kept}
use Rattle.checker.proofs.Bases.{late-pending}
use Rattle.checker.proofs.Admissions.{let_in, in_good, in_long, in_sum}
use Rattle.checker.proofs.Tallies.{Sound, tally_facts, tally-good, sound-line, sound-verdict}
use Rattle.checker.proofs.Simulation.{in_step_stays, Took, took, all-pending, verdict-settled, Gave, gave-judged}
use Rattle.checker.proofs.Fresh.{passed, opened-fine, both-opened, within_member}
use Rattle.checker.proofs.CodeBase.{within_in}
use Rattle.checker.proofs.CodeStateTest.{good_facts}

-- ---- the state
-- 12 does not look at the sum
passes-sum : (s : State) (n : ℕ) → state_passes (with_sum s n) ≡ state_passes s
unfolding state_passes rule_passes with_sum
passes-sum s n = refl

module _ (s : State) (g : state_passes s ≡ true) where
  pub sound_in : Sound (refs_in s) s.width (tally_in s)
  unfolding state_passes
  sound_in = tally_facts (refs_in s) s.width (tally_in s) (and-true (rule_passes s) (tally_passes (refs_in s) s.width (tally_in s)) g).1

  rule-passes : rule_passes s ≡ true
  unfolding state_passes
  rule-passes = (and-true (rule_passes s) (tally_passes (refs_in s) s.width (tally_in s)) g).0

  good_with : (t : Tally) → Sound (refs_in s) s.width t → state_passes (with_tally s t) ≡ true
  unfolding state_passes rule_passes with_tally
  good_with t x = true-and _ _ rule-passes (tally-good (refs_in s) s.width t x)

  fed-good : (win : List ℤ) (f : FeedRead) → Took (refs_in s) s.width (tally_in s) f → state_passes (fed_by s win f).state ≡ true
  fed-good win (turned number place) t = g
  fed-good win skipped t = g
  fed-good win (taken e notes) t =
      passes-sum (with_tally s (with_line (tally_in s) e)) (sum_of (words_with s win e notes))
      ∙ good_with (with_line (tally_in s) e) (sound-line (refs_in s) s.width (tally_in s) sound_in e t.0 t.1 t.2)

  -- whatever the window and the line are
  pub good-feed : (win : List ℤ) (line : List ℕ) → state_passes (feed_def s win line).state ≡ true
  unfolding feed_def
  good-feed win line = go (admission s win)
    where
      go : (a : Admission) → state_passes (fed_if s win line a).state ≡ true
      go admitted = fed-good win (line_in s (line_of line)) (took (refs_in s) s.width (tally_in s) (line_of line))
      go (barred number) = g

  module _ (b : Bytes (state_frames s)) where
    limits_in : (r : Reference) → Memᴰ r (refs_in s) → LimitsR r
    limits_in = within_member (refs_in s) (within_in b (good_facts s g).accepted)

    some_in : refs_in s ≡ [] → ⊥
    some_in e =
        let p : Proper (state_frames s) = (frames_exactly b).0 (good_facts s g).accepted in
        let t : tree_of (state_frames s) ≡ p.tree = tree-of (record { tree = p.tree; limits = p.limits; bytes = p.bytes }) in
        p.named (subst (λ (x : RuleTree). references x ≡ []) t e)

    -- an instance with a verdict is not the last
    low_in : (win : List ℤ) (v : Verdict) → judgement (given_here s win) (rule_in s) ≡ Some v → s.next.0 < instance_limit
    low_in win v q =
        ⊎_elim
        (λ l. l)
        (λ (l : instance_limit ≤ s.next.0). absurd (verdict-settled v (sym q ∙ all-pending (rule_in s) (given_here s win) some_in (late l))))
        (less_or s.next.0 instance_limit)
      where
        late : instance_limit ≤ s.next.0 → (r : Reference) → Memᴰ r (refs_in s) → found_here s win r ≡ pending
        late l r h =
            let m = limits_in r h in
            late-pending (by_window s.width s.counts win) r s.next.0 m.least m.offset (sound_in.counts r.event m.event).few l

    pulled-good : (win : List ℤ) (buffer : List ℕ) (x : PullRead) → Gave (rule_in s) (given_here s win) x → state_passes (pulled_by s win buffer x).state ≡ true
    pulled-good win buffer short t = g
    pulled-good win buffer waits t = g
    pulled-good win buffer (gave v) t = good_with (with_verdict (tally_in s) v) (sound-verdict (refs_in s) s.width (tally_in s) v sound_in (low_in win v t))

    -- whatever the window and the buffer are
    pub good-pull : (win : List ℤ) (buffer : List ℕ) → state_passes (pull_def s win buffer).state ≡ true
    unfolding pull_def
    good-pull win buffer = go (admission s win)
      where
        go : (a : Admission) → state_passes (pulled_if s win buffer a).state ≡ true
        go admitted = pulled-good win buffer (next_in s win (length buffer)) (gave-judged (rule_in s) (given_here s win) (length buffer))
        go (barred number) = g

  -- ---- the window keeps its length
  fed-long : (win : List ℤ) (f : FeedRead) → length (fed_by s win f).words ≡ length win
  fed-long win (turned number place) = refl
  fed-long win skipped = refl
  fed-long win (taken e notes) = length-kept s.width win notes (good_facts s g).some e (base (refs_in s) e s.next.0) (count_of (tally_in s) e)

  pub feed-long : (win : List ℤ) (line : List ℕ) → length (feed_def s win line).words ≡ length win
  unfolding feed_def
  feed-long win line = go (admission s win)
    where
      go : (a : Admission) → length (fed_if s win line a).words ≡ length win
      go admitted = fed-long win (line_in s (line_of line))
      go (barred number) = refl

-- ---- the state's sum stays that of the window
module _ (s : State) (win : List ℤ) (q : s.sum ≡ sum_of win) where
  fed-sum : (f : FeedRead) → (fed_by s win f).state.sum ≡ sum_of (fed_by s win f).words
  fed-sum (turned number place) = q
  fed-sum skipped = q
  fed-sum (taken e notes) = unfold with_sum in refl

  feed-sum : (line : List ℕ) → (feed_def s win line).state.sum ≡ sum_of (feed_def s win line).words
  unfolding feed_def
  feed-sum line = go (admission s win)
    where
      go : (a : Admission) → (fed_if s win line a).state.sum ≡ sum_of (fed_if s win line a).words
      go admitted = fed-sum (line_in s (line_of line))
      go (barred number) = q

  pulled-sum : (buffer : List ℕ) (x : PullRead) → (pulled_by s win buffer x).state.sum ≡ sum_of win
  pulled-sum buffer short = q
  pulled-sum buffer waits = q
  pulled-sum buffer (gave v) = unfold with_tally in q

  pull-sum : (buffer : List ℕ) → (pull_def s win buffer).state.sum ≡ sum_of win
  unfolding pull_def
  pull-sum buffer = go (admission s win)
    where
      go : (a : Admission) → (pulled_if s win buffer a).state.sum ≡ sum_of win
      go admitted = pulled-sum buffer (next_in s win (length buffer))
      go (barred number) = q

-- ---- the rule and W stay
rule-same : (s : State) → SameRule s s
rule-same s = record { frames = refl; len = refl; width = refl; profile = refl }

rule_with : (s : State) (t : Tally) → SameRule s (with_tally s t)
unfolding with_tally
rule_with s t = record { frames = refl; len = refl; width = refl; profile = refl }

rule-sum : (s : State) (t : Tally) (n : ℕ) → SameRule s (with_sum (with_tally s t) n)
unfolding with_tally with_sum
rule-sum s t n = record { frames = refl; len = refl; width = refl; profile = refl }

module _ (s : State) (win : List ℤ) where
  rule-fed : (f : FeedRead) → SameRule s (fed_by s win f).state
  rule-fed (turned number place) = rule-same s
  rule-fed skipped = rule-same s
  rule-fed (taken e notes) = rule-sum s (with_line (tally_in s) e) (sum_of (words_with s win e notes))

  pub feed-rule : (line : List ℕ) → SameRule s (feed_def s win line).state
  unfolding feed_def
  feed-rule line = go (admission s win)
    where
      go : (a : Admission) → SameRule s (fed_if s win line a).state
      go admitted = rule-fed (line_in s (line_of line))
      go (barred number) = rule-same s

  rule-pulled : (buffer : List ℕ) (x : PullRead) → SameRule s (pulled_by s win buffer x).state
  rule-pulled buffer short = rule-same s
  rule-pulled buffer waits = rule-same s
  rule-pulled buffer (gave v) = rule_with s (with_verdict (tally_in s) v)

  pub pull-rule : (buffer : List ℕ) → SameRule s (pull_def s win buffer).state
  unfolding pull_def
  pull-rule buffer = go (admission s win)
    where
      go : (a : Admission) → SameRule s (pulled_if s win buffer a).state
      go admitted = rule-pulled buffer (next_in s win (length buffer))
      go (barred number) = rule-same s

-- ---- what 12, 13 and 27 let through stays so
module _ (s : State) (win : List ℤ) (a : admission s win ≡ admitted) where
  pub fed-stays : (line : List ℕ) → admission (feed_def s win line).state (feed_def s win line).words ≡ admitted
  fed-stays line =
      let g = in_good s win a in
      let l = feed-long s g win line ∙ in_long s win a ∙ ap window_words (sym (feed-rule s win line).width) in
      let_in (feed_def s win line).state (feed_def s win line).words (good-feed s g win line) (eq-eqb _ _ l) (eq-eqb _ _ (feed-sum s win (in_sum s win a) line))

  pub pulled-stays : Bytes (state_frames s) → (buffer : List ℕ) → admission (pull_def s win buffer).state win ≡ admitted
  pulled-stays b buffer =
      let l = in_long s win a ∙ ap window_words (sym (pull-rule s win buffer).width) in
      let_in (pull_def s win buffer).state win (good-pull s (in_good s win a) b win buffer) (eq-eqb _ _ l) (eq-eqb _ _ (pull-sum s win (in_sum s win a) buffer))

-- so is what an unrefused opening gives
pub opened-stays : {profile : Profile} {frames : List ℕ} {w : ℕ} {win : List ℤ} → Unrefused profile frames w win → admission (open_def profile frames w win).state (open_def profile frames w win).words ≡ admitted
opened-stays {profile} {frames} {w} {win} o = in_step_stays frames w (opened-fine o) (at_first frames) (fresh profile frames w win) (both-opened o)

pub good_open : {profile : Profile} {frames : List ℕ} {w : ℕ} {win : List ℤ} → Unrefused profile frames w win → state_passes (open_def profile frames w win).state ≡ true
good_open {profile} {frames} {w} {win} o = in_good (open_def profile frames w win).state (open_def profile frames w win).words (opened-stays o)

-- ---- the rule, W and the profile through every list of calls
rule-then : {s t u : State} → SameRule s t → SameRule t u → SameRule s u
rule-then a b =
    record { frames = b.frames ∙ a.frames; len = b.len ∙ a.len; width = b.width ∙ a.width; profile = b.profile ∙ a.profile }

calls-rule : (cs : List Call) (k : Checker) → SameRule k.state (end checker cs k).state
unfolding end
calls-rule [] k = rule-same k.state
calls-rule (feed line ∷ cs) k = rule-then (feed-rule k.state k.words line) (calls-rule cs (checker k (feed line)).next)
calls-rule (pull buffer ∷ cs) k = rule-then (pull-rule k.state k.words buffer) (calls-rule cs (checker k (pull buffer)).next)

pub profile-stays : {profile : Profile} {frames : List ℕ} {w : ℕ} {win : List ℤ} → Unrefused profile frames w win → (cs : List Call)
    → (checker_after profile frames w win cs).state.profile ≡ profile_number profile
unfolding fresh_state
profile-stays {profile} {frames} {w} {win} o cs =
    (calls-rule cs (fresh profile frames w win)).profile
    ∙ ap (λ (x : OpenResult). x.state.profile) (passed profile frames w win o.answer).result
