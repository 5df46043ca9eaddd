-- The answer of the check is the one that its constructor describes. Assumes nothing.
use mathlib.Core.Path.{◌≡◌, refl, sym, ap, subst, ◌∙◌}
use mathlib.Core.Logic.{◌↔◌}
use mathlib.Core.Bool.{Bool, true, false, cond}
use mathlib.Core.Option.{Option}
use mathlib.Core.List.{List, []}
use Prim.Native.Nat.{ℕ}
use lib.Dec.{eqb}
use lib.ListN.{length}
use Rattle.std.specs.Prelude.{Result, Ok, Err}
use Rattle.numbers.proofs.Bools.{true-false}
use Rattle.rule.specs.Frames.{Bytes}
use Rattle.rule.specs.Tree.{IsRule, references, magnitudes_c, magnitudes, NoneExceeds}
use Rattle.rule.specs.Scale.{note_decimals, literal_decimals, head_frames, scale_of, head_fine, body}
use Rattle.rule.specs.References.{reference_count}
use Rattle.rule.specs.Order.{order_of, InOrder}
use Rattle.rule.specs.Sizes.{sizes_fit}
use Rattle.rule.specs.Check.{whole_frames, after_order, checked_body, checked_of}
use Rattle.rule.specs.Opening.{Whole, PlaceOf10, Opening, refused_9, refused_10, refused_7, refused_8, accepted}
use Rattle.rule.specs.CheckTold.{CheckAnswer}
use Rattle.rule.specs.CheckTold as checking
use Rattle.rule.proofs.FrameOrder.{fine-count, fine-order}
use Rattle.rule.proofs.FrameLength.{true-whole, whole-true, whole-false}
use Rattle.rule.proofs.FrameRules.{IsBody, fine-rule, rule-fine}
use Rattle.rule.proofs.FrameHeads.{rule-scale, rule-head, rule-body, body_bytes, body-whole, body-rule}
use Rattle.rule.proofs.FrameBytePlaces.{place-bytes, head-place, place-one, no_place}
use Rattle.rule.proofs.FrameReferences.{no_reference, reference-none, reference-some}
use Rattle.rule.proofs.FrameSizes.{sizes_iff}

-- ---- the magnitudes of a rule are those of its body
module _ {s : List ℕ} (r : IsRule s) where
  abbrev by-scale : Option ℕ → Type 0
  by-scale z = NoneExceeds (magnitudes_c (note_decimals z) r.tree.condition)

  fits-rule : sizes_fit (note_decimals (scale_of s)) (body s) ≡ true → NoneExceeds (magnitudes r.tree)
  fits-rule e = subst by-scale (rule-scale r) ((sizes_iff (note_decimals (scale_of s)) (rule-body r)).0 e)

  rule_fits_lem : NoneExceeds (magnitudes r.tree) → sizes_fit (note_decimals (scale_of s)) (body s) ≡ true
  rule_fits_lem h = (sizes_iff (note_decimals (scale_of s)) (rule-body r)).1 (subst by-scale (sym (rule-scale r)) h)

-- ---- the answer has what its constructor says
module _ (s : List ℕ) (b : Bytes s) (w : Whole (length s)) where
  by_size : (r : IsRule s) (t : Bool) → (references r.tree ≡ [] → ⊥) → sizes_fit (note_decimals (scale_of s)) (body s) ≡ t → Opening s (cond t checking.accepted (checking.refused 8 0))
  by_size r true h g = accepted w r h (fits-rule r g)
  by_size r false h g = refused_8 w r h (λ a. true-false (sym (rule_fits_lem r a) ∙ g))

  by_count : (r : IsRule s) (t : Bool) → eqb (reference_count (body s)) 0 ≡ t
      → Opening s (cond t (checking.refused 7 0) (cond (sizes_fit (note_decimals (scale_of s)) (body s)) checking.accepted (checking.refused 8 0)))
  by_count r true g = refused_7 w r (no_reference (rule-body r) g)
  by_count r false g = by_size r (sizes_fit (note_decimals (scale_of s)) (body s)) (λ e. true-false (sym (reference-none (rule-body r) e) ∙ g)) refl

  by_order : head_fine s ≡ true → (o : Result ℕ ℕ) → order_of (literal_decimals (scale_of s)) (body s) ≡ o
      → Opening s (after_order (head_frames (scale_of s)) (note_decimals (scale_of s)) (body s) o)
  by_order f (Ok m) g =
      let i : InOrder (literal_decimals (scale_of s)) (body s) = fine-order (literal_decimals (scale_of s)) (body s) m g in
      let r : IsBody (scale_of s) (body s) = fine-rule (scale_of s) (body_bytes b) (body-whole s w.steps) i in
      subst (λ (n : ℕ). Opening s (after_order (head_frames (scale_of s)) (note_decimals (scale_of s)) (body s) (Ok n))) (sym (fine-count (literal_decimals (scale_of s)) (body s) m g))
      (by_count (body-rule b w.steps f r) (eqb (reference_count (body s)) 0) refl)
  by_order f (Err p) g = refused_10 w (place-bytes s b w.steps w.least f p g)

  by-head : (t : Bool) → head_fine s ≡ t → Opening s (cond t (checked_body (scale_of s) (body s)) (checking.refused 10 0))
  by-head true f = by_order f (order_of (literal_decimals (scale_of s)) (body s)) refl
  by-head false f = refused_10 w (head-place s w.least f)

by_length : (s : List ℕ) → Bytes s → (t : Bool) → whole_frames (length s) ≡ t → Opening s (cond t (cond (head_fine s) (checked_body (scale_of s) (body s)) (checking.refused 10 0)) (checking.refused 9 0))
by_length s b true e = by-head s b (true-whole (length s) e) (head_fine s) refl
by_length s b false e = refused_9 (λ w. true-false (sym (whole-true (length s) w) ∙ e))

opening : {s : List ℕ} → Bytes s → Opening s (checked_of s)
unfolding checked_of
opening {s} b = by_length s b (whole_frames (length s)) refl

-- ---- and no other answer has it
over_size : {s : List ℕ} (r : IsRule s) (t : Bool) → (NoneExceeds (magnitudes r.tree) → ⊥) → sizes_fit (note_decimals (scale_of s)) (body s) ≡ t → sizes_fit (note_decimals (scale_of s)) (body s) ≡ false
over_size r true h e = absurd (h (fits-rule r e))
over_size r false h e = e

placed : {s : List ℕ} {o : CheckAnswer} {p : ℕ} → Whole (length s) → PlaceOf10 s p → Opening s o → o ≡ checking.refused 10 p
placed w a (refused_9 v) = absurd (v w)
placed w a (refused_10 v c) = ap (checking.refused 10) (place-one c a)
placed w a (refused_7 v r h) = absurd (no_place r a)
placed w a (refused_8 v r h e) = absurd (no_place r a)
placed w a (accepted v r h e) = absurd (no_place r a)

answer : {s : List ℕ} {o : CheckAnswer} → Bytes s → Opening s o → checked_of s ≡ o
unfolding checked_of
answer {s} b (refused_9 w) = rw (whole-false (length s) w)
answer {s} b (refused_10 w a) = placed w a (opening b)
answer {s} b (refused_7 w r h) = rw (whole-true (length s) w, rule-head r, rule-fine (scale_of s) (rule-body r), reference-none (rule-body r) h)
answer {s} b (refused_8 w r h a) =
    rw (whole-true (length s) w, rule-head r, rule-fine (scale_of s) (rule-body r), reference-some (rule-body r) h, over_size r (sizes_fit (note_decimals (scale_of s)) (body s)) a refl)
answer {s} b (accepted w r h a) = rw (whole-true (length s) w, rule-head r, rule-fine (scale_of s) (rule-body r), reference-some (rule-body r) h, rule_fits_lem r a)

pub opening_iff : {s : List ℕ} → Bytes s → (o : CheckAnswer) → (checked_of s ≡ o) ↔ Opening s o
opening_iff {s} b o = (λ e. subst (Opening s) e (opening b), answer b)
