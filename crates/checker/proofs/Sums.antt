-- p and the totals count the verdicts that a list hands out. Assumes nothing.
use Rattle.std.proofs.Common.{◌≡◌, ℕ, ◌+◌, List, [], ◌∷◌, length, ℤ, sym, ap, ◌∙◌, arith}
use Rattle.rule.specs.Build.{tree_of}
use Rattle.verdict.specs.declared.Verdict.{Verdict}
use Rattle.verdict.specs.declared.Verdict.TheVariants.{True, False, Unknown}
use Rattle.checker.specs.Base.{first_for}
use Rattle.checker.specs.State.{Tally}
use Rattle.checker.specs.Feed.{FeedRead, turned, skipped, taken, feed_answer}
use Rattle.checker.specs.Pull.{PullRead, short, waits, gave, pull_answer}
use Rattle.checker.specs.Calls.{Call, feed, pull, outs, end, checker}
use Rattle.checker.specs.Machine.{Machine, at_first, joined, moved, after_feed, after_pull, machine_feed, machine_pull, machine_for}
use Rattle.checker.specs.Demand.{Unrefused, fresh, handed, verdicts, count_in, totals_of}
use Rattle.checker.specs.declared.Profile.{Profile}
use Rattle.checker.specs.declared.Totals.{Totals}
use Rattle.checker.proofs.Lists as lists
use Rattle.checker.proofs.Final.{verdicts_same}

record Counted (m m' : Machine) (vs : List Verdict) : Type 0 where
  pub next : m'.next ≡ m.next + length vs
  pub held : m'.totals.held ≡ m.totals.held + count_in vs True
  pub failed : m'.totals.failed ≡ m.totals.failed + count_in vs False
  pub unknown : m'.totals.unknown ≡ m.totals.unknown + count_in vs Unknown

counted-fed : (m m' : Machine) (f : FeedRead) (vs : List Verdict) → Counted (after_feed m f) m' vs → Counted m m' (handed (feed_answer f) vs)
unfolding joined
counted-fed m m' (turned number place) vs h = h
counted-fed m m' skipped vs h = h
counted-fed m m' (taken e notes) vs h = record { next = h.next; held = h.held; failed = h.failed; unknown = h.unknown }

counted-pulled : (m m' : Machine) (x : PullRead) (vs : List Verdict) → Counted (after_pull m x) m' vs → Counted m m' (handed (pull_answer x) vs)
unfolding moved count_in
counted-pulled m m' short vs h = h
counted-pulled m m' waits vs h = h
counted-pulled m m' (gave True) vs h =
    record { next = omega (arith, h.next); held = omega (arith, h.held); failed = omega (arith, h.failed); unknown = omega (arith, h.unknown) }
counted-pulled m m' (gave False) vs h =
    record { next = omega (arith, h.next); held = omega (arith, h.held); failed = omega (arith, h.failed); unknown = omega (arith, h.unknown) }
counted-pulled m m' (gave Unknown) vs h =
    record { next = omega (arith, h.next); held = omega (arith, h.held); failed = omega (arith, h.failed); unknown = omega (arith, h.unknown) }

module _ (frames : List ℕ) (w : ℕ) where
  all-counted : (cs : List Call) (m : Machine) → Counted m (end (machine_for frames w) cs m) (verdicts (outs (machine_for frames w) cs m))
  unfolding end outs verdicts count_in
  all-counted [] m = record { next = omega arith; held = omega arith; failed = omega arith; unknown = omega arith }
  all-counted (feed line ∷ cs) m =
      let f = machine_feed (tree_of frames) w m line in
      counted-fed m (end (machine_for frames w) cs (after_feed m f)) f (verdicts (outs (machine_for frames w) cs (after_feed m f))) (all-counted cs (after_feed m f))
  all-counted (pull buffer ∷ cs) m =
      let x = machine_pull (tree_of frames) w m buffer in
      counted-pulled m (end (machine_for frames w) cs (after_pull m x)) x (verdicts (outs (machine_for frames w) cs (after_pull m x))) (all-counted cs (after_pull m x))

-- from the first instance on
sums-are : (frames : List ℕ) (m : Machine) (vs : List Verdict) → Counted (at_first frames) m vs → (m.next ≡ first_for frames + length vs) × (m.totals ≡ totals_of vs)
sums-are frames m vs c =
    let h : m.totals.held ≡ count_in vs True = c.held ∙ omega arith in
    let f : m.totals.failed ≡ count_in vs False = c.failed ∙ omega arith in
    let u : m.totals.unknown ≡ count_in vs Unknown = c.unknown ∙ omega arith in
    (c.next, three m.totals (count_in vs True) (count_in vs False) (count_in vs Unknown) h f u)
  where
    three : (t : Totals) (a b c : ℕ) → t.held ≡ a → t.failed ≡ b → t.unknown ≡ c → t ≡ record { held = a; failed = b; unknown = c }
    three t a b c p q r =
        ap (λ (x : ℕ). record { held = x; failed = t.failed; unknown = t.unknown }) p
        ∙ ap (λ (x : ℕ). record { held = a; failed = x; unknown = t.unknown }) q
        ∙ ap (λ (x : ℕ). record { held = a; failed = b; unknown = x }) r

module _ {profile : Profile} {frames : List ℕ} {w : ℕ} {win : List ℤ} (o : Unrefused profile frames w win) (cs : List Call) where
  -- in the checker's state
  pub sums : ((end checker cs (fresh profile frames w win)).state.next.0 ≡ first_for frames + length (verdicts (outs checker cs (fresh profile frames w win))))
      × ((end checker cs (fresh profile frames w win)).state.totals ≡ totals_of (verdicts (outs checker cs (fresh profile frames w win))))
  sums =
      let t = lists.state o cs in
      let v = verdicts_same o cs in
      let c = sums-are frames (end (machine_for frames w) cs (at_first frames)) (verdicts (outs (machine_for frames w) cs (at_first frames))) (all-counted frames w cs (at_first frames)) in
      (ap (λ (x : Tally). x.next) t ∙ c.0 ∙ ap (λ (l : List Verdict). first_for frames + length l) (sym v), ap (λ (x : Tally). x.totals) t ∙ c.1 ∙ ap totals_of (sym v))
