-- A view is the instance and the verdict of its report: after one pull, and over every list of calls. Assumes nothing.
use Rattle.std.proofs.Common.{◌≡◌, ℕ, ◌+◌, ◌*◌, ◌/◌, ◌%◌, ◌≤◌, ltb, ◌↔◌, List, [], ◌∷◌, map, length, get_or, drop, ℤ, sym, refl, ap, ◌∙◌, ap₂, arith, length-append, length-drop, ltb-false, le-ltb}
use Rattle.rule.specs.Tree.{Reference, RuleTree, references}
use Rattle.rule.specs.Build.{tree_of}
use Rattle.verdict.specs.Found.{Found, found_in, Given, given_in}
use Rattle.verdict.specs.Settled.{judgement}
use Rattle.verdict.specs.declared.Verdict.{Verdict}
use Rattle.std.specs.Prelude.{Option, Some, None}
use Rattle.checker.specs.Limits.{report_least}
use Rattle.checker.specs.Answer.{Answer, opened, accepted, ignored, waiting, verdict, refused}
use Rattle.checker.specs.Base.{first_for}
use Rattle.checker.specs.State.{rule_in, refs_in}
use Rattle.checker.specs.Report.{report_bytes, written}
use Rattle.checker.specs.Feed.{FeedRead, turned, skipped, taken, feed_answer}
use Rattle.checker.specs.Admission.{Admission, admitted, barred, admission}
use Rattle.checker.specs.Pull.{PullRead, short, waits, gave, offered, pull_read, pull_answer, pull_report}
use Rattle.checker.specs.Pull.{PullResult, given_here, found_here, next_in, pulled_if, pull_def}
use Rattle.checker.specs.Calls.{Call, feed, pull, outs}
use Rattle.checker.specs.Machine.{Machine, at_first, joined, moved, after_feed, after_pull, machine_feed, machine_pull, machine_for}
use Rattle.checker.specs.Demand.{Unrefused, handed, verdicts}
use Rattle.checker.specs.View.{ViewResult, view_def, viewing, views, views_out}
use Rattle.checker.specs.View.{InstanceVerdict, reported_from, reported_out, seen}
use Rattle.checker.specs.declared.Profile.{Profile}
use Rattle.checker.specs.declared.State.{State}
use Rattle.checker.proofs.Choices.{cond_case}
use Rattle.checker.proofs.Lists as lists
use Rattle.checker.proofs.Reports.{buffer_by}

-- ---- the view of a report
-- what is written makes no buffer shorter
written-long : (n : ℕ) (bytes buffer : List ℕ) → n ≤ length buffer → n ≤ length (written bytes buffer)
written-long n bytes buffer h =
    rw (length-append bytes (drop (length bytes) buffer), length-drop (length bytes) buffer) (omega arith)

-- a reported instance; the verdict is false
abbrev report_of : ℕ → InstanceVerdict
report_of i = record { instance = i; verdict = Verdict.False }

view_report : (i : ℕ) (xs : List Found) (buffer : List ℕ) → report_least ≤ length buffer
    → view_def (written (report_bytes i xs) buffer) ≡ record { number = 0; bytes = seen (report_of i) }
unfolding view_def report_bytes
view_report i xs buffer h = rw (le-ltb _ _ (written-long report_least (report_bytes i xs) buffer h)) refl

-- ---- a pull that gives a verdict has a buffer of 166 bytes and more
abbrev Enough : ℕ → PullRead → Type 0
Enough n short = Unit {0}
Enough n waits = Unit {0}
Enough n (gave v) = report_least ≤ n

enough-offered : (n : ℕ) → report_least ≤ n → (j : Option Verdict) → Enough n (offered j)
enough-offered n h None = tt
enough-offered n h (Some v) = h

enough : (rule : RuleTree) (g : Given) (n : ℕ) → Enough n (pull_read rule g n)
unfolding pull_read
enough rule g n =
    cond_case (Enough n) (ltb n report_least) short (offered (judgement g rule))
    (λ _. tt) (λ q. enough-offered n (ltb-false n report_least q) (judgement g rule))

-- ---- after one pull
-- 1 for the answer that fills a report
abbrev filling : Answer → ℕ
filling opened = 0
filling accepted = 0
filling ignored = 0
filling waiting = 0
filling (verdict Verdict.True) = 0
filling (verdict Verdict.False) = 1
filling (verdict Verdict.Unknown) = 0
filling (refused number place) = 0

-- what is said of an answer that fills no report
no_report : {A : Type 0} (a : Answer) → filling a ≡ 0 → a ≡ verdict Verdict.False → A
no_report a z q = absurd (let one : filling a ≡ 1 = ap filling q in omega arith)

module _ (i : ℕ) (refs : List Reference) (found : Reference → Found) (buffer : List ℕ) where
  view_filled : (x : PullRead) → Enough (length buffer) x → pull_answer x ≡ verdict Verdict.False
      → view_def (pull_report i refs found buffer x) ≡ record { number = 0; bytes = seen (report_of i) }
  view_filled short long q = no_report _ refl q
  view_filled waits long q = no_report _ refl q
  view_filled (gave Verdict.True) long q = no_report _ refl q
  view_filled (gave Verdict.False) long q = view_report i (map found refs) buffer long
  view_filled (gave Verdict.Unknown) long q = no_report _ refl q

-- of what a pull at instance i gives: a report that was filled has this view
abbrev Viewed : ℕ → PullResult → Type 0
Viewed i r = r.answer ≡ verdict Verdict.False → view_def r.report ≡ record { number = 0; bytes = seen (report_of i) }

pub view_after : (s : State) (win : List ℤ) (buffer : List ℕ) → Viewed s.next.0 (pull_def s win buffer)
unfolding pull_def
view_after s win buffer = go (admission s win)
  where
    go : (a : Admission) → Viewed s.next.0 (pulled_if s win buffer a)
    go admitted = view_filled s.next.0 (refs_in s) (found_here s win) buffer (next_in s win (length buffer)) (enough (rule_in s) (given_here s win) (length buffer))
    go (barred number) = no_report (refused number 0) refl

-- ---- the views of a list from m on, os being what it gives: those of its verdicts, the first of instance m's p
module _ (frames : List ℕ) (w : ℕ) where
  -- beside what a feed adds
  seen-fed : (m : Machine) (f : FeedRead) (vs : List Verdict) (ws : List (List ℕ))
      → ws ≡ map seen (reported_from (after_feed m f).next vs) → ws ≡ map seen (reported_from m.next (handed (feed_answer f) vs))
  unfolding joined
  seen-fed m (turned number place) vs ws h = h
  seen-fed m skipped vs ws h = h
  seen-fed m (taken e notes) vs ws h = h

  -- beside what a pull adds
  seen-pulled : (m : Machine) (buffer : List ℕ) (x : PullRead) → Enough (length buffer) x → (vs : List Verdict) (ws : List (List ℕ))
      → ws ≡ map seen (reported_from (after_pull m x).next vs)
      → viewing (pull_answer x) (buffer_by frames w m buffer x) ws ≡ map seen (reported_from m.next (handed (pull_answer x) vs))
  unfolding moved reported_from
  seen-pulled m buffer short long vs ws h = h
  seen-pulled m buffer waits long vs ws h = h
  seen-pulled m buffer (gave Verdict.True) long vs ws h = h
  seen-pulled m buffer (gave Verdict.False) long vs ws h =
      let found = map (found_in m.lists m.next) (references (tree_of frames)) in
      ap₂ ◌∷◌ (ap (λ (r : ViewResult). r.bytes) (view_report m.next found buffer long)) h
  seen-pulled m buffer (gave Verdict.Unknown) long vs ws h = h

  all_seen : (cs : List Call) (m : Machine)
      → views (outs (machine_for frames w) cs m) ≡ map seen (reported_from m.next (verdicts (outs (machine_for frames w) cs m)))
  unfolding outs views verdicts reported_from
  all_seen [] m = refl
  all_seen (feed line ∷ cs) m =
      let f = machine_feed (tree_of frames) w m line in
      let os = outs (machine_for frames w) cs (after_feed m f) in
      seen-fed m f (verdicts os) (views os) (all_seen cs (after_feed m f))
  all_seen (pull buffer ∷ cs) m =
      let x = machine_pull (tree_of frames) w m buffer in
      let os = outs (machine_for frames w) cs (after_pull m x) in
      let long = enough (tree_of frames) (given_in m.lists m.next) (length buffer) in
      seen-pulled m buffer x long (verdicts os) (views os) (all_seen cs (after_pull m x))

module _ {profile : Profile} {frames : List ℕ} {w : ℕ} {win : List ℤ} (o : Unrefused profile frames w win) (cs : List Call) where
  pub views-seen : views_out profile frames w win cs ≡ map seen (reported_out profile frames w win cs)
  views-seen = rw (lists.answers o cs) (all_seen frames w cs (at_first frames))

-- ---- a view fixes the instance and the verdict
-- the number of a word's four bytes
abbrev word_of : ℕ → ℕ → ℕ → ℕ → ℕ
word_of a b c d = ((a * 256 + b) * 256 + c) * 256 + d

word_back : (i : ℕ) → word_of (i / 256 / 256 / 256) (i / 256 / 256 % 256) (i / 256 % 256) (i % 256) ≡ i
word_back i = omega arith

-- the instance and the verdict of a view
abbrev reported : List ℕ → InstanceVerdict
reported bytes = report_of (word_of (get_or bytes 0 0) (get_or bytes 1 0) (get_or bytes 2 0) (get_or bytes 3 0))

reported-seen : (i : ℕ) → reported (seen (report_of i)) ≡ report_of i
reported-seen i = ap report_of (word_back i)

reported-back : (i : ℕ) (vs : List Verdict) → map reported (map seen (reported_from i vs)) ≡ reported_from i vs
unfolding reported_from
reported-back i [] = refl
reported-back i (Verdict.True ∷ vs) = reported-back (i + 1) vs
reported-back i (Verdict.False ∷ vs) = ap₂ ◌∷◌ (reported-seen i) (reported-back (i + 1) vs)
reported-back i (Verdict.Unknown ∷ vs) = reported-back (i + 1) vs

-- ---- two lists
module _ {profile profile' : Profile} {frames : List ℕ} {w w' : ℕ} {win win' : List ℤ}
    (o : Unrefused profile frames w win) (o' : Unrefused profile' frames w' win') (cs cs' : List Call) where
  pub same-views : reported_out profile frames w win cs ≡ reported_out profile' frames w' win' cs'
      → views_out profile frames w win cs ≡ views_out profile' frames w' win' cs'
  same-views e = views-seen o cs ∙ ap (map seen) e ∙ sym (views-seen o' cs')

  same-reported : views_out profile frames w win cs ≡ views_out profile' frames w' win' cs'
      → reported_out profile frames w win cs ≡ reported_out profile' frames w' win' cs'
  same-reported e =
      sym (reported-back (first_for frames) _)
      ∙ ap (map reported) (sym (views-seen o cs) ∙ e ∙ views-seen o' cs')
      ∙ reported-back (first_for frames) _

  pub views_exactly : (views_out profile frames w win cs ≡ views_out profile' frames w' win' cs')
      ↔ (reported_out profile frames w win cs ≡ reported_out profile' frames w' win' cs')
  views_exactly = (same-reported, same-views)
