-- Marks and notes: what the loop keeps, and that they tell what judge asks. Assumes nothing.
use Rattle.std.proofs.Common.{◌≡◌, ℕ, ◌+◌, ◌<◌, ◌≤◌, Bool, true, false, eqb, List, length, get_or, set, ℤ, pos, sym, refl, ◌∙◌, subst, arith, length-set, get_or-set_other, get_or-set_same, eqb-true}
use borrow.Author.Tests.{eqb-false}
use Rattle.rule.specs.Frames.{frame_at, frame_count}
use Rattle.rule.specs.Tree.{Reference}
use Rattle.rule.specs.References.{reference_byte, reference_of}
use Rattle.rule.specs.Check.{checked_of}
use Rattle.rule.specs.declared.Frame.{Frame}
use Rattle.rule.specs.CheckTold as checking
use Rattle.rule.proofs.Laws.{passed, reference-at}
use Rattle.verdict.specs.Found.{Found, present, pending, void}
use Rattle.verdict.specs.Marks.{Tells, TellAll}
use Rattle.checker.specs.Sights.{Shows, ShownTo, Limited}

shows_tells : (x : Found) (m : ℕ) (z : ℤ) → Shows x m z → Tells x m z
shows_tells (present y) m z w = (w.mark_is, w.note_is)
shows_tells pending m z w = w.mark_is
shows_tells void m z w = w.mark_is

pub shown_told : (s : List ℕ) (found : Reference → Found) (marks : List ℕ) (notes : List ℤ) → ShownTo s found marks notes (frame_count s) → TellAll s found marks notes
shown_told s found marks notes w k h e = shows_tells (found (reference_of (frame_at s k))) (get_or marks k 0) (get_or notes k (pos 0)) (w k h e)

pub shown-next : (s : List ℕ) (found : Reference → Found) (marks : List ℕ) (notes : List ℤ) (k m : ℕ) (z : ℤ) → ShownTo s found marks notes k
    → k < length marks → k < length notes → ((frame_at s k).kind ≡ reference_byte → Shows (found (reference_of (frame_at s k))) m z)
    → ShownTo s found (set marks k m) (set notes k z) (k + 1)
shown-next s found marks notes k m z w hm hn new j h e = go (eqb j k) refl
  where
    go : (t : Bool) → eqb j k ≡ t → Shows (found (reference_of (frame_at s j))) (get_or (set marks k m) j 0) (get_or (set notes k z) j (pos 0))
    go true d =
        let q : j ≡ k = eqb-true j k d in
        subst (λ (i : ℕ). Shows (found (reference_of (frame_at s i))) (get_or (set marks k m) i 0) (get_or (set notes k z) i (pos 0))) (sym q)
        (rw (get_or-set_same marks k m 0 hm, get_or-set_same notes k z (pos 0) hn) (new (subst (λ (i : ℕ). (frame_at s i).kind ≡ reference_byte) q e)))
    go false d =
        let q : j ≡ k → ⊥ = eqb-false j k d in
        rw (get_or-set_other marks k j m 0 q, get_or-set_other notes k j z (pos 0) q) (w j (omega (arith, q)) e)

-- ---- the loop as a whole
pub record LookedTo (s : List ℕ) (found : Reference → Found) (marks : List ℕ) (notes : List ℤ) (k : ℕ) : Type 0 where
  pub marked : length marks ≡ 64
  pub noted : length notes ≡ 64
  pub shown : ShownTo s found marks notes k

pub few_frames : (s : List ℕ) → checked_of s ≡ checking.accepted → frame_count s ≤ 64
few_frames s e = omega (arith, (passed s e).whole.most)

pub limited : (s : List ℕ) (k : ℕ) (x : Frame) → checked_of s ≡ checking.accepted → k < frame_count s → x ≡ frame_at s k → Limited x
limited s k x a h e = subst (λ (y : Frame). Limited y) (sym e) (reference-at s k h (passed s a))

pub looked-next : (s : List ℕ) (found : Reference → Found) (marks : List ℕ) (notes : List ℤ) (k : ℕ) → LookedTo s found marks notes k → k < 64
    → (x : Frame) → x ≡ frame_at s k → (m : ℕ) (z : ℤ) → (x.kind ≡ reference_byte → Shows (found (reference_of x)) m z)
    → LookedTo s found (set marks k m) (set notes k z) (k + 1)
looked-next s found marks notes k w h x e m z new =
    record {
      marked = length-set marks k m ∙ w.marked;
      noted = length-set notes k z ∙ w.noted;
      shown = shown-next s found marks notes k m z w.shown (omega (arith, w.marked)) (omega (arith, w.noted))
          (subst (λ (y : Frame). (y.kind ≡ reference_byte → Shows (found (reference_of y)) m z)) e new);
    }
