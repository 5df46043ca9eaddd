-- What judge answers, in the words of trees. Assumes nothing.
use mathlib.Core.Path.{◌≡◌, refl, sym, ap, ◌∙◌, subst}
use mathlib.Core.Bool.{Bool, true, false}
use mathlib.Core.List.{List}
use Prim.Native.Nat.{ℕ, suc, ◌+◌, ◌≤◌}
use native.Mathlib.Omega.{arith}
use lib.Dec.{leb, eqb}
use lib.IntN.{ℤ, pos}
use lib.ListN.{length, get_or, drop, length-drop}
use lib.Seq.{get_or-drop}
use borrow.Author.Tests.{leb-true}
use Rattle.numbers.proofs.Bools.{and-true}
use Rattle.rule.specs.Frames.{scale_byte, frame_at}
use Rattle.rule.specs.Tree.{Reference, IsRule}
use Rattle.rule.specs.Scale.{note_decimals, literal_decimals, head_frames, headed, scale_of, head_fine, body}
use Rattle.rule.specs.Order.{InOrder}
use Rattle.rule.specs.References.{reference_of}
use Rattle.rule.specs.Build.{tree_of}
use Rattle.rule.specs.Check.{checked_of}
use Rattle.rule.specs.CheckTold as checking
use Rattle.rule.specs.declared.Frame.{Frame}
use Rattle.rule.proofs.Main.{tree-of}
use Rattle.rule.proofs.Laws.{passed, rule-fine, rule-head, rule-body, tree-body, frame-behind}
use Rattle.verdict.specs.Found.{Found, Given}
use Rattle.verdict.specs.Settled.{judgement}
use Rattle.verdict.specs.Marks.{Tells, TellAll}
use Rattle.verdict.specs.Pass.{judgement_of}
use Rattle.verdict.proofs.Mirror.{judge_body}

-- ---- what is told of a rule's frames is told of those behind the head
module _ (s : List ℕ) (found : Reference → Found) (marks : List ℕ) (notes : List ℤ) (t : TellAll s found marks notes) where
  behind : 8 ≤ length s → TellAll (drop 8 s) found (drop 1 marks) (drop 1 notes)
  behind h k l e =
      let b : frame_at s (suc k) ≡ frame_at (drop 8 s) k = frame-behind s k h in
      let n = length-drop 8 s in
      let q : Tells (found (reference_of (frame_at s (suc k)))) (get_or marks (suc k) 0) (get_or notes (suc k) (pos 0)) = t (suc k) (omega arith) (ap (λ (x : Frame). x.kind) b ∙ e) in
      let i : 1 + k ≡ suc k = omega arith in
      subst (λ (x : Frame). Tells (found (reference_of x)) (get_or (drop 1 marks) k 0) (get_or (drop 1 notes) k (pos 0))) b
      (subst (λ (m : ℕ). Tells (found (reference_of (frame_at s (suc k)))) m (get_or (drop 1 notes) k (pos 0))) (sym (get_or-drop 1 marks k 0 ∙ ap (λ (j : ℕ). get_or marks j 0) i))
      (subst (λ (z : ℤ). Tells (found (reference_of (frame_at s (suc k)))) (get_or marks (suc k) 0) z) (sym (get_or-drop 1 notes k (pos 0) ∙ ap (λ (j : ℕ). get_or notes j (pos 0)) i)) q))

  told_by : (b : Bool) → headed s ≡ b → TellAll (body s) found (drop (head_frames (scale_of s)) marks) (drop (head_frames (scale_of s)) notes)
  told_by true e = rw e (behind (leb-true 8 (length s) (and-true (leb 8 (length s)) (eqb (frame_at s 0).kind scale_byte) e).0))
  told_by false e = rw e t

  told_body : TellAll (body s) found (drop (head_frames (scale_of s)) marks) (drop (head_frames (scale_of s)) notes)
  told_body = told_by (headed s) refl

by-body : (s : List ℕ) (g : Given) (marks : List ℕ) (notes : List ℤ) → head_fine s ≡ true → InOrder (literal_decimals (scale_of s)) (body s) → TellAll s g.found marks notes
    → judgement_of s g.instance marks notes ≡ judgement g (tree_of s)
unfolding judgement_of
by-body s g marks notes h f t =
    judge_body (literal_decimals (scale_of s)) (note_decimals (scale_of s)) (body s) g (drop (head_frames (scale_of s)) marks) (drop (head_frames (scale_of s)) notes) f (told_body s g.found marks notes t)
    ∙ ap (judgement g) (sym (tree-body s h))

pub judge_accepted : (s : List ℕ) (g : Given) (marks : List ℕ) (notes : List ℤ) → checked_of s ≡ checking.accepted → TellAll s g.found marks notes
    → judgement_of s g.instance marks notes ≡ judgement g (tree_of s)
judge_accepted s g marks notes e t = let p = passed s e in by-body s g marks notes p.head p.order t

pub judge_postfix : {s : List ℕ} (r : IsRule s) (g : Given) (marks : List ℕ) (notes : List ℤ) → TellAll s g.found marks notes
    → judgement_of s g.instance marks notes ≡ judgement g r.tree
judge_postfix {s} r g marks notes t = by-body s g marks notes (rule-head r) (rule-fine (scale_of s) (rule-body r)) t ∙ ap (judgement g) (tree-of r)
