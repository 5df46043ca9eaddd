-- The verdicts that a list hands out are those of the definition over all lines that it accepts. Assumes nothing.
use Rattle.std.proofs.Common.{◌≡◌, ℕ, zero, suc, ◌+◌, ◌<◌, eqb, List, [], ◌∷◌, ◌++◌, map, length, get_or, ℤ, sym, refl, ap, ◌∙◌, ap₂, append_assoc, append-nil, le_of_suc-le-suc, add-zero, arith}
use Rattle.rule.specs.Build.{tree_of}
use Rattle.verdict.specs.Found.{given_in}
use Rattle.verdict.specs.Settled.{judgement}
use Rattle.verdict.specs.Later.{MoreLines}
use Rattle.verdict.specs.declared.Verdict.{Verdict}
use Rattle.std.specs.Prelude.{Option, Some, None}
use Rattle.verdict.proofs.Main.{lines_stay}
use Rattle.checker.specs.Base.{first_for}
use Rattle.checker.specs.Feed.{FeedRead, turned, skipped, taken, feed_answer}
use Rattle.checker.specs.Pull.{PullRead, short, waits, gave, pull_answer}
use Rattle.checker.specs.Calls.{Call, feed, pull, outs, end, checker}
use Rattle.checker.specs.Machine.{Machine, at_first, joined, moved, after_feed, after_pull, machine_feed, machine_pull, machine_for}
use Rattle.checker.specs.Demand.{Unrefused, fresh, handed, verdicts, instances_from}
use Rattle.checker.specs.declared.Profile.{Profile}
use Rattle.checker.proofs.Choices.{cond_case}
use Rattle.checker.proofs.Simulation.{Gave, gave-judged, verdict-settled}
use Rattle.checker.proofs.Lists as lists

-- ---- what a list of calls adds
pub more-refl : (l : ℕ → List (List ℤ)) → MoreLines l l
more-refl l e = ([], append-nil (l e))

pub more_trans : (a b c : ℕ → List (List ℤ)) → MoreLines a b → MoreLines b c → MoreLines a c
more_trans a b c p q e =
    let x = p e in
    let y = q e in
    (x.0 ++ y.0, sym (append_assoc (a e) x.0 y.0) ∙ ap (λ (l : List (List ℤ)). l ++ y.0) x.1 ∙ y.1)

more-joined : (m : Machine) (e : ℕ) (notes : List ℤ) → MoreLines m.lists (joined m e notes).lists
unfolding joined
more-joined m e notes f =
    cond_case (λ (l : List (List ℤ)). (more : List (List ℤ)) × (m.lists f ++ more ≡ l)) (eqb f e) _ _
    (λ q. (notes ∷ [], refl))
    (λ q. ([], append-nil (m.lists f)))

more-fed : (m : Machine) (f : FeedRead) → MoreLines m.lists (after_feed m f).lists
more-fed m (turned number place) e = more-refl m.lists e
more-fed m skipped e = more-refl m.lists e
more-fed m (taken f notes) e = more-joined m f notes e

more-pulled : (m : Machine) (x : PullRead) → MoreLines m.lists (after_pull m x).lists
unfolding moved
more-pulled m short e = more-refl m.lists e
more-pulled m waits e = more-refl m.lists e
more-pulled m (gave v) e = more-refl m.lists e

module _ (frames : List ℕ) (w : ℕ) where
  more-step : (m : Machine) (c : Call) → MoreLines m.lists (machine_for frames w m c).next.lists
  more-step m (feed line) = more-fed m (machine_feed (tree_of frames) w m line)
  more-step m (pull buffer) = more-pulled m (machine_pull (tree_of frames) w m buffer)

  pub more-end : (cs : List Call) (m : Machine) → MoreLines m.lists (end (machine_for frames w) cs m).lists
  unfolding end
  more-end [] m = more-refl m.lists
  more-end (c ∷ cs) m =
      more_trans m.lists (machine_for frames w m c).next.lists (end (machine_for frames w) cs (machine_for frames w m c).next).lists
      (more-step m c) (more-end cs (machine_for frames w m c).next)

-- what is said of instance i over a machine's lists
abbrev pub said : List ℕ → Machine → ℕ → Option Verdict
said frames m i = judgement (given_in m.lists i) (tree_of frames)

-- a verdict stays when lines are added
pub said-stays : (frames : List ℕ) (m m' : Machine) (i : ℕ) (v : Verdict) → MoreLines m.lists m'.lists → said frames m i ≡ Some v → said frames m' i ≡ Some v
said-stays frames m m' i v more q =
    lines_stay i m.lists m'.lists (tree_of frames) more (λ u. verdict-settled v (sym q ∙ u)) ∙ q

module _ (frames : List ℕ) (w : ℕ) where
  -- the verdicts of a list from m on, in the sense of the machine m' that it ends in
  abbrev Handed : Machine → Machine → List Verdict → Type 0
  Handed m m' vs = (map Some vs ≡ instances_from m.next (length vs) (said frames m')) × (m'.next ≡ m.next + length vs)

  handed-fed : (m m' : Machine) (f : FeedRead) (vs : List Verdict) → Handed (after_feed m f) m' vs → Handed m m' (handed (feed_answer f) vs)
  unfolding joined
  handed-fed m m' (turned number place) vs h = h
  handed-fed m m' skipped vs h = h
  handed-fed m m' (taken e notes) vs h = h

  handed-pulled : (m m' : Machine) (x : PullRead) (vs : List Verdict) → MoreLines m.lists m'.lists → Gave (tree_of frames) (given_in m.lists m.next) x
      → Handed (after_pull m x) m' vs → Handed m m' (handed (pull_answer x) vs)
  unfolding moved instances_from
  handed-pulled m m' short vs b g h = h
  handed-pulled m m' waits vs b g h = h
  handed-pulled m m' (gave v) vs b g h = (ap₂ ◌∷◌ (sym (said-stays frames m m' m.next v b g)) h.0, h.1 ∙ omega arith)

  all-handed : (cs : List Call) (m : Machine) → Handed m (end (machine_for frames w) cs m) (verdicts (outs (machine_for frames w) cs m))
  unfolding end outs verdicts
  all-handed [] m = (unfold instances_from in refl, omega arith)
  all-handed (feed line ∷ cs) m =
      let f = machine_feed (tree_of frames) w m line in
      handed-fed m (end (machine_for frames w) cs (after_feed m f)) f (verdicts (outs (machine_for frames w) cs (after_feed m f))) (all-handed cs (after_feed m f))
  all-handed (pull buffer ∷ cs) m =
      let x = machine_pull (tree_of frames) w m buffer in
      handed-pulled m (end (machine_for frames w) cs (after_pull m x)) x (verdicts (outs (machine_for frames w) cs (after_pull m x)))
      (more_trans m.lists (after_pull m x).lists (end (machine_for frames w) cs (after_pull m x)).lists (more-pulled m x) (more-end frames w cs (after_pull m x)))
      (gave-judged (tree_of frames) (given_in m.lists m.next) (length buffer))
      (all-handed cs (after_pull m x))

module _ {profile : Profile} {frames : List ℕ} {w : ℕ} {win : List ℤ} (o : Unrefused profile frames w win) (cs : List Call) where
  pub verdicts_same : verdicts (outs checker cs (fresh profile frames w win)) ≡ verdicts (outs (machine_for frames w) cs (at_first frames))
  verdicts_same = ap verdicts (lists.answers o cs)

  -- instance by instance from the first on, over the machine's lists after the last call
  pub final : map Some (verdicts (outs checker cs (fresh profile frames w win)))
      ≡ instances_from (first_for frames) (length (verdicts (outs checker cs (fresh profile frames w win)))) (said frames (end (machine_for frames w) cs (at_first frames)))
  final = rw verdicts_same (all-handed frames w cs (at_first frames)).0

-- ---- one verdict
pub verdict-one : (v v' : Verdict) → Some v ≡ Some v' → v ≡ v'
verdict-one v v' q = cc

get_d_map : (l : List Verdict) (i : ℕ) → i < length l → get_or (map Some l) i None ≡ Some (get_or l i Verdict.Unknown)
get_d_map [] i h = absurd (omega arith)
get_d_map (x ∷ xs) zero h = refl
get_d_map (x ∷ xs) (suc i) h = get_d_map xs i (le_of_suc-le-suc h)

get_d_instances_from : (f : ℕ → Option Verdict) (p n i : ℕ) → i < n → get_or (instances_from p n f) i None ≡ f (p + i)
unfolding instances_from
get_d_instances_from f p zero i h = absurd (omega arith)
get_d_instances_from f p (suc n) zero h = rw add-zero
get_d_instances_from f p (suc n) (suc i) h = get_d_instances_from f (p + 1) n i (le_of_suc-le-suc h) ∙ ap f (omega arith)

-- the verdict at a place of a list that is a span
pub instances_from_at : (vs : List Verdict) (p : ℕ) (f : ℕ → Option Verdict) (i : ℕ) → map Some vs ≡ instances_from p (length vs) f → i < length vs → Some (get_or vs i Verdict.Unknown) ≡ f (p + i)
instances_from_at vs p f i q h = sym (get_d_map vs i h) ∙ ap (λ (l : List (Option Verdict)). get_or l i None) q ∙ get_d_instances_from f p (length vs) i h
