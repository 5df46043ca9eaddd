-- Another order of lines between events, later lines, other pulls and another window change no verdict that is handed out.
-- Assumes nothing.
use Rattle.std.proofs.Common.{◌≡◌, ℕ, ◌<◌, Bool, true, false, cond, eqb, ◌≢◌, List, [], ◌∷◌, ◌++◌, length, get_or, ℤ, sym, refl, ap, ◌∙◌, append_assoc, append-nil, eqb-true}
use Rattle.rule.specs.Build.{tree_of}
use Rattle.verdict.specs.Later.{MoreLines}
use Rattle.verdict.specs.declared.Verdict.TheVariants.{Unknown}
use Rattle.checker.specs.Feed.{FeedRead, turned, skipped, taken}
use Rattle.checker.specs.Pull.{PullRead, short, waits, gave}
use Rattle.checker.specs.Calls.{Call, feed, pull, outs, end, checker}
use Rattle.checker.specs.Machine.{Machine, at_first, joined, moved, after_feed, after_pull, machine_feed, machine_pull, machine_for}
use Rattle.checker.specs.Demand.{Unrefused, fresh, verdicts, Entry, joining, accepted_in, Reordered, same, later, swapped, then}
use Rattle.checker.specs.declared.Profile.{Profile}
use Rattle.checker.proofs.Final.{more-refl, more_trans}
use Rattle.checker.proofs.Agree.{agree}

-- an event's lines among some, each as its four notes
abbrev lines_in : List Entry → ℕ → List (List ℤ)
lines_in [] e = []
lines_in (x ∷ xs) e = cond (eqb e x.event) (x.notes ∷ lines_in xs e) (lines_in xs e)

lines_append : (xs ys : List Entry) (e : ℕ) → lines_in (xs ++ ys) e ≡ lines_in xs e ++ lines_in ys e
lines_append [] ys e = refl
lines_append (x ∷ xs) ys e = go (eqb e x.event) (lines_append xs ys e)
  where
    go : (t : Bool) → lines_in (xs ++ ys) e ≡ lines_in xs e ++ lines_in ys e
        → cond t (x.notes ∷ lines_in (xs ++ ys) e) (lines_in (xs ++ ys) e) ≡ cond t (x.notes ∷ lines_in xs e) (lines_in xs e) ++ lines_in ys e
    go true ih = ap (λ (l : List (List ℤ)). x.notes ∷ l) ih
    go false ih = ih

-- two neighbours of different events
swap_two : (a b : Entry) (rest : List Entry) (e : ℕ) → a.event ≢ b.event → lines_in (a ∷ (b ∷ rest)) e ≡ lines_in (b ∷ (a ∷ rest)) e
swap_two a b rest e h = go (eqb e a.event) (eqb e b.event) refl refl
  where
    go : (s t : Bool) → eqb e a.event ≡ s → eqb e b.event ≡ t
        → cond s (a.notes ∷ cond t (b.notes ∷ lines_in rest e) (lines_in rest e)) (cond t (b.notes ∷ lines_in rest e) (lines_in rest e))
        ≡ cond t (b.notes ∷ cond s (a.notes ∷ lines_in rest e) (lines_in rest e)) (cond s (a.notes ∷ lines_in rest e) (lines_in rest e))
    go true true p q = absurd (h (sym (eqb-true e a.event p) ∙ eqb-true e b.event q))
    go true false p q = refl
    go false true p q = refl
    go false false p q = refl

reordered_more : (xs ys : List Entry) → Reordered xs ys → MoreLines (lines_in xs) (lines_in ys)
reordered_more _ _ (same es) = more-refl (lines_in es)
reordered_more _ _ (later es more) = λ e. (lines_in more e, sym (lines_append es more e))
reordered_more _ _ (swapped front a b rest h) = λ e. (
  [],
  append-nil (lines_in (front ++ (a ∷ (b ∷ rest))) e)
      ∙ lines_append front (a ∷ (b ∷ rest)) e ∙ ap (λ (l : List (List ℤ)). lines_in front e ++ l) (swap_two a b rest e h) ∙ sym (lines_append front (b ∷ (a ∷ rest)) e),
)
reordered_more _ _ (then es fs gs p q) = more_trans (lines_in es) (lines_in fs) (lines_in gs) (reordered_more es fs p) (reordered_more fs gs q)

-- ---- the machine's lists are the accepted lines, event by event
module _ (frames : List ℕ) (w : ℕ) where
  taken-lines : (m : Machine) (f : FeedRead) (es : List Entry) (l : ℕ → List (List ℤ)) (e : ℕ) → l e ≡ (after_feed m f).lists e ++ lines_in es e → l e ≡ m.lists e ++ lines_in (joining f es) e
  unfolding joined
  taken-lines m (turned number place) es l e h = h
  taken-lines m skipped es l e h = h
  taken-lines m (taken g notes) es l e h = h ∙ go (eqb e g)
    where
      go : (t : Bool) → cond t (m.lists e ++ (notes ∷ [])) (m.lists e) ++ lines_in es e ≡ m.lists e ++ cond t (notes ∷ lines_in es e) (lines_in es e)
      go true = append_assoc (m.lists e) (notes ∷ []) (lines_in es e)
      go false = refl

  pulled-lines : (m : Machine) (x : PullRead) (e : ℕ) → (after_pull m x).lists e ≡ m.lists e
  unfolding moved
  pulled-lines m short e = refl
  pulled-lines m waits e = refl
  pulled-lines m (gave v) e = refl

  end-lines : (cs : List Call) (m : Machine) (e : ℕ) → (end (machine_for frames w) cs m).lists e ≡ m.lists e ++ lines_in (accepted_in frames w cs m) e
  unfolding end accepted_in
  end-lines [] m e = sym (append-nil (m.lists e))
  end-lines (feed line ∷ cs) m e =
      let f = machine_feed (tree_of frames) w m line in
      taken-lines m f (accepted_in frames w cs (after_feed m f)) (end (machine_for frames w) cs (after_feed m f)).lists e (end-lines cs (after_feed m f) e)
  end-lines (pull buffer ∷ cs) m e =
      let x = machine_pull (tree_of frames) w m buffer in
      end-lines cs (after_pull m x) e ∙ ap (λ (l : List (List ℤ)). l ++ lines_in (accepted_in frames w cs (after_pull m x)) e) (pulled-lines m x e)

more_same : (a a' b b' : ℕ → List (List ℤ)) → ((e : ℕ) → a e ≡ a' e) → ((e : ℕ) → b e ≡ b' e) → MoreLines a' b' → MoreLines a b
more_same a a' b b' p q more e = let x = more e in (x.0, ap (λ (l : List (List ℤ)). l ++ x.0) (p e) ∙ x.1 ∙ sym (q e))

-- where accepted lines are another list's in another order, and perhaps later ones, each event has its lines and perhaps more
pub order-more : (frames : List ℕ) (w w' : ℕ) (cs cs' : List Call)
    → Reordered (accepted_in frames w cs (at_first frames)) (accepted_in frames w' cs' (at_first frames))
    → MoreLines (end (machine_for frames w) cs (at_first frames)).lists (end (machine_for frames w') cs' (at_first frames)).lists
order-more frames w w' cs cs' r =
    let es = accepted_in frames w cs (at_first frames) in
    let es' = accepted_in frames w' cs' (at_first frames) in
    more_same (end (machine_for frames w) cs (at_first frames)).lists (lines_in es) (end (machine_for frames w') cs' (at_first frames)).lists (lines_in es')
    (end-lines frames w cs (at_first frames)) (end-lines frames w' cs' (at_first frames)) (reordered_more es es' r)

module _ {profile profile' : Profile} {frames : List ℕ} {w w' : ℕ} {win win' : List ℤ} (o : Unrefused profile frames w win) (o' : Unrefused profile' frames w' win') (cs cs' : List Call) where
  pub order : Reordered (accepted_in frames w cs (at_first frames)) (accepted_in frames w' cs' (at_first frames)) → (i : ℕ)
      → i < length (verdicts (outs checker cs (fresh profile frames w win))) → i < length (verdicts (outs checker cs' (fresh profile' frames w' win')))
      → get_or (verdicts (outs checker cs (fresh profile frames w win))) i Unknown ≡ get_or (verdicts (outs checker cs' (fresh profile' frames w' win'))) i Unknown
  order r = agree o o' cs cs' (order-more frames w w' cs cs' r)
