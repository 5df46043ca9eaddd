-- Refusal 8's pass takes exactly the conditions of which no magnitude exceeds the limit. Assumes nothing.
use mathlib.Core.Path.{◌≡◌, refl, sym, ap, ◌∙◌}
use mathlib.Core.Logic.{◌↔◌}
use mathlib.Core.Bool.{Bool, true, false, ◌&&◌, cond}
use mathlib.Core.Option.{Option}
use mathlib.Core.List.{List, [], ◌∷◌, ◌++◌}
use Prim.Native.Nat.{ℕ, ◌*◌, ◌≤◌}
use lib.Dec.{leb}
use borrow.Author.Tests.{leb-true, le-leb}
use Rattle.numbers.proofs.Bools.{and-true, true-and}
use Rattle.rule.specs.Limits.{magnitude_limit}
use Rattle.rule.specs.Frames.{Kind, kind_of, bare}
use Rattle.rule.specs.Decimals.{Term, left_side, right_side}
use Rattle.rule.specs.Tree.{Sum, literal, instance, reference, arithmetic, abs, Cond, relation, not, connective, postfix_s, postfix_c, grown, magnitude, magnitudes_s, magnitudes_c, NoneExceeds}
use Rattle.rule.specs.Sizes.{Sizes, fits, over, pushed, sides_fit, sizes_after, size_next, size_at, is_fits, sizes_fit}
use Rattle.rule.specs.declared.Frame.{Frame}
use Rattle.rule.proofs.FrameKinds.{kind-byte}
use Rattle.rule.proofs.FrameLists.{frames_of, runs, runs-all, pass1, pass2}
use Rattle.rule.proofs.FrameRules.{IsBody, frames-are}

cond_both : (t u : Bool) (z : Sizes) → cond t (cond u z over) over ≡ cond (t && u) z over
cond_both true u z = refl
cond_both false u z = refl

fits-cond : (t : Bool) → is_fits (cond t (fits []) over) ≡ t
fits-cond true = refl
fits-cond false = refl

-- ---- lists of magnitudes
pub none_append : (xs ys : List ℕ) → NoneExceeds xs → NoneExceeds ys → NoneExceeds (xs ++ ys)
none_append [] ys p q = q
none_append (a ∷ xs) ys p q = (p.0, none_append xs ys p.1 q)

pub none_left : (xs ys : List ℕ) → NoneExceeds (xs ++ ys) → NoneExceeds xs
none_left [] ys p = tt
none_left (a ∷ xs) ys p = (p.0, none_left xs ys p.1)

pub none_right : (xs ys : List ℕ) → NoneExceeds (xs ++ ys) → NoneExceeds ys
none_right [] ys p = p
none_right (a ∷ xs) ys p = none_right xs ys p.1

-- where each note has k decimals
module _ (k : ℕ) where
  -- ---- the tests that the pass makes of a tree
  abbrev fits_in : Sum → Bool
  fits_in a = leb (magnitude k a).amount magnitude_limit

  abbrev fit_s : Sum → Bool
  fit_s (literal d n) = fits_in (literal d n)
  fit_s instance = fits_in instance
  fit_s (reference r) = fits_in (reference r)
  fit_s (arithmetic o a b) = (fit_s a && fit_s b) && fits_in (arithmetic o a b)
  fit_s (abs a) = fit_s a

  abbrev fit_c : Cond → Bool
  fit_c (relation r a b) = (fit_s a && fit_s b) && sides_fit (magnitude k a) (magnitude k b)
  fit_c (not p) = fit_c p
  fit_c (connective j p q) = fit_c p && fit_c q

  over-stays : (fs : List Frame) → runs (size_next k) fs over ≡ over
  over-stays [] = refl
  over-stays (x ∷ fs) = over-stays fs

  -- after a test, a further pass
  after : (fs : List Frame) (t u : Bool) (ms ns : List (Term ℕ)) → runs (size_next k) fs (fits ms) ≡ cond u (fits ns) over → runs (size_next k) fs (cond t (fits ms) over) ≡ cond (t && u) (fits ns) over
  after fs true u ms ns e = e
  after fs false u ms ns e = over-stays fs

  -- an operator's frame after a test
  size_bare : (o : Kind) (t : Bool) (ms : List (Term ℕ)) (z : Sizes) → sizes_after k o (bare o) ms ≡ z → size_next k (bare o) (cond t (fits ms) over) ≡ cond t z over
  size_bare o true ms z e = ap (λ (j : Kind). sizes_after k j (bare o) ms) (kind-byte o) ∙ e
  size_bare o false ms z e = refl

  size_s : (t : Sum) (ms : List (Term ℕ)) → runs (size_next k) (postfix_s t) (fits ms) ≡ cond (fit_s t) (fits (magnitude k t ∷ ms)) over
  unfolding kind_of
  size_s (literal d n) ms = refl
  size_s instance ms = refl
  size_s (reference r) ms = refl
  size_s (arithmetic o a b) ms =
      pass2 (size_next k) (postfix_s a) (postfix_s b) (bare (Kind.arithmetic o)) _ _ _ (size_s a ms)
      (after (postfix_s b) (fit_s a) (fit_s b) (magnitude k a ∷ ms) (magnitude k b ∷ (magnitude k a ∷ ms)) (size_s b (magnitude k a ∷ ms)))
      ∙ size_bare (Kind.arithmetic o) (fit_s a && fit_s b) (magnitude k b ∷ (magnitude k a ∷ ms)) (pushed (grown o (magnitude k a) (magnitude k b)) ms) refl
      ∙ cond_both (fit_s a && fit_s b) (fits_in (arithmetic o a b)) (fits (magnitude k (arithmetic o a b) ∷ ms))
  size_s (abs a) ms =
      pass1 (size_next k) (postfix_s a) (bare Kind.absolute) _ _ (size_s a ms)
      ∙ size_bare Kind.absolute (fit_s a) (magnitude k a ∷ ms) (fits (magnitude k a ∷ ms)) refl

  size_c : (t : Cond) → runs (size_next k) (postfix_c t) (fits []) ≡ cond (fit_c t) (fits []) over
  size_c (relation r a b) =
      pass2 (size_next k) (postfix_s a) (postfix_s b) (bare (Kind.relation r)) _ _ _ (size_s a [])
      (after (postfix_s b) (fit_s a) (fit_s b) (magnitude k a ∷ []) (magnitude k b ∷ (magnitude k a ∷ [])) (size_s b (magnitude k a ∷ [])))
      ∙ size_bare (Kind.relation r) (fit_s a && fit_s b) (magnitude k b ∷ (magnitude k a ∷ [])) (cond (sides_fit (magnitude k a) (magnitude k b)) (fits []) over) refl
      ∙ cond_both (fit_s a && fit_s b) (sides_fit (magnitude k a) (magnitude k b)) (fits [])
  size_c (not p) = pass1 (size_next k) (postfix_c p) (bare Kind.negation) _ _ (size_c p) ∙ size_bare Kind.negation (fit_c p) [] (fits []) refl
  size_c (connective j p q) =
      pass2 (size_next k) (postfix_c p) (postfix_c q) (bare (Kind.connective j)) _ _ _ (size_c p) (after (postfix_c q) (fit_c p) (fit_c q) [] [] (size_c q))
      ∙ size_bare (Kind.connective j) (fit_c p && fit_c q) [] (fits []) refl

  sizes-frames : (s : List ℕ) (t : Cond) → frames_of s ≡ postfix_c t → sizes_fit k s ≡ fit_c t
  unfolding sizes_fit
  sizes-frames s t e =
      ap is_fits (runs-all (size_next k) s (size_at k s) (λ i. refl) ∙ ap (λ (x : List Frame). runs (size_next k) x (fits [])) e ∙ size_c t) ∙ fits-cond (fit_c t)

  -- ---- the tests are the magnitudes
  -- a sum is one of its own
  pub none-whole : (t : Sum) → NoneExceeds (magnitudes_s k t) → (magnitude k t).amount ≤ magnitude_limit
  none-whole (literal d n) h = h.0
  none-whole instance h = h.0
  none-whole (reference r) h = h.0
  none-whole (arithmetic o a b) h = h.0
  none-whole (abs a) h = h.0

  fit_parts : (t : Sum) → fit_s t ≡ true → NoneExceeds (magnitudes_s k t)
  fit_parts (literal d n) e = (leb-true n magnitude_limit e, tt)
  fit_parts instance e = (leb-true (magnitude k instance).amount magnitude_limit e, tt)
  fit_parts (reference r) e = (leb-true (magnitude k (reference r)).amount magnitude_limit e, tt)
  fit_parts (arithmetic o a b) e =
      let p = and-true (fit_s a && fit_s b) (fits_in (arithmetic o a b)) e in
      let q = and-true (fit_s a) (fit_s b) p.0 in
      (leb-true (magnitude k (arithmetic o a b)).amount magnitude_limit p.1, none_append (magnitudes_s k a) (magnitudes_s k b) (fit_parts a q.0) (fit_parts b q.1))
  fit_parts (abs a) e = let h : NoneExceeds (magnitudes_s k a) = fit_parts a e in (none-whole a h, h)

  parts-fit : (t : Sum) → NoneExceeds (magnitudes_s k t) → fit_s t ≡ true
  parts-fit (literal d n) h = le-leb n magnitude_limit h.0
  parts-fit instance h = refl
  parts-fit (reference r) h = refl
  parts-fit (arithmetic o a b) h =
      true-and (fit_s a && fit_s b) (fits_in (arithmetic o a b))
      (true-and (fit_s a) (fit_s b) (parts-fit a (none_left (magnitudes_s k a) (magnitudes_s k b) h.1)) (parts-fit b (none_right (magnitudes_s k a) (magnitudes_s k b) h.1)))
      (le-leb (magnitude k (arithmetic o a b)).amount magnitude_limit h.0)
  parts-fit (abs a) h = parts-fit a h.1

  module _ (a b : Sum) where
    abbrev left : ℕ
    left = left_side ◌*◌ (magnitude k a) (magnitude k b)

    abbrev right : ℕ
    right = right_side ◌*◌ (magnitude k a) (magnitude k b)

  fit_all : (t : Cond) → fit_c t ≡ true → NoneExceeds (magnitudes_c k t)
  fit_all (relation r a b) e =
      let p = and-true (fit_s a && fit_s b) (sides_fit (magnitude k a) (magnitude k b)) e in
      let q = and-true (fit_s a) (fit_s b) p.0 in
      let u = and-true (leb (left a b) magnitude_limit) (leb (right a b) magnitude_limit) p.1 in
      none_append (magnitudes_s k a ++ magnitudes_s k b) _ (none_append (magnitudes_s k a) (magnitudes_s k b) (fit_parts a q.0) (fit_parts b q.1))
      (leb-true (left a b) magnitude_limit u.0, (leb-true (right a b) magnitude_limit u.1, tt))
  fit_all (not p) e = fit_all p e
  fit_all (connective j p q) e = let u = and-true (fit_c p) (fit_c q) e in none_append (magnitudes_c k p) (magnitudes_c k q) (fit_all p u.0) (fit_all q u.1)

  all_fit : (t : Cond) → NoneExceeds (magnitudes_c k t) → fit_c t ≡ true
  all_fit (relation r a b) h =
      let p = none_left (magnitudes_s k a ++ magnitudes_s k b) _ h in
      let q = none_right (magnitudes_s k a ++ magnitudes_s k b) _ h in
      true-and (fit_s a && fit_s b) (sides_fit (magnitude k a) (magnitude k b))
      (true-and (fit_s a) (fit_s b) (parts-fit a (none_left (magnitudes_s k a) (magnitudes_s k b) p)) (parts-fit b (none_right (magnitudes_s k a) (magnitudes_s k b) p)))
      (true-and (leb (left a b) magnitude_limit) (leb (right a b) magnitude_limit) (le-leb (left a b) magnitude_limit q.0) (le-leb (right a b) magnitude_limit q.1.0))
  all_fit (not p) h = all_fit p h
  all_fit (connective j p q) h = true-and (fit_c p) (fit_c q) (all_fit p (none_left (magnitudes_c k p) (magnitudes_c k q) h)) (all_fit q (none_right (magnitudes_c k p) (magnitudes_c k q) h))

  pub sizes_iff : {z : Option ℕ} {s : List ℕ} (r : IsBody z s) → (sizes_fit k s ≡ true) ↔ NoneExceeds (magnitudes_c k r.tree)
  sizes_iff {z} {s} r =
      let e : sizes_fit k s ≡ fit_c r.tree = sizes-frames s r.tree (frames-are z r) in
      (λ h. fit_all r.tree (sym e ∙ h), λ h. e ∙ all_fit r.tree h)
