-- Which frames are accepted, and which are refused with 10 and at which place. Assumes nothing.
use mathlib.Core.Path.{◌≡◌, refl, sym, subst}
use mathlib.Core.Logic.{◌↔◌}
use mathlib.Core.List.{List, [], ◌∷◌, ◌++◌}
use Prim.Native.Nat.{ℕ, ◌*◌, ◌≤◌}
use native.Mathlib.Omega.{arith}
use lib.ListN.{length, length-append}
use Rattle.rule.specs.Limits.{frame_limit}
use Rattle.rule.specs.Frames.{Kind, bare, Bytes}
use Rattle.rule.specs.Tree.{Cond, relation, not, connective, RuleTree, postfix_s, postfix_c, postfix, IsRule}
use Rattle.rule.specs.Scale.{head_of}
use Rattle.rule.specs.References.{reference_count}
use Rattle.rule.specs.Check.{checked_of}
use Rattle.rule.proofs.CheckNumbers.{number_of, place_of}
use Rattle.rule.specs.Opening.{Whole, PlaceOf10, Opening, refused_9, refused_10, refused_7, refused_8, accepted, Proper}
use Rattle.rule.specs.CheckTold.{CheckAnswer}
use Rattle.rule.specs.CheckTold as checking
use Rattle.rule.specs.declared.Frame.{Frame}
use Rattle.rule.proofs.FrameReferences.{rule-length, at_most_32, count-of}
use Rattle.rule.proofs.CheckAnswers.{opening_iff}

-- ---- frames of a rule: at least one, and as many as the bytes say
last_frame : (xs : List Frame) (x : Frame) → 1 ≤ length (xs ++ (x ∷ []))
last_frame xs x = rw (length-append xs (x ∷ [])) (omega arith)

some-cond : (t : Cond) → 1 ≤ length (postfix_c t)
some-cond (relation r a b) = last_frame (postfix_s a ++ postfix_s b) (bare (Kind.relation r))
some-cond (not p) = last_frame (postfix_c p) (bare Kind.negation)
some-cond (connective j p q) = last_frame (postfix_c p ++ postfix_c q) (bare (Kind.connective j))

some-frame : (t : RuleTree) → 1 ≤ length (postfix t)
some-frame t = rw (length-append (head_of t.scale) (postfix_c t.condition)) (let h = some-cond t.condition in omega arith)

pub whole_of : {s : List ℕ} (r : IsRule s) → length (postfix r.tree) ≤ frame_limit → Whole (length s)
whole_of {s} r h =
    let n : ℕ = length (postfix r.tree) in
    let e : length s ≡ n * 8 = rule-length r in
    let a : 1 ≤ n = some-frame r.tree in
    record { least = omega arith; most = omega arith; steps = omega arith }

short-of : {s : List ℕ} (r : IsRule s) → Whole (length s) → length (postfix r.tree) ≤ frame_limit
short-of {s} r w =
    let e : length s ≡ length (postfix r.tree) * 8 = rule-length r in
    let m : length s ≤ 512 = w.most in
    omega arith

abbrev pub proper-rule : {s : List ℕ} → Proper s → IsRule s
proper-rule p = record { tree = p.tree; limits = p.limits; bytes = p.bytes }

-- ---- accepted
to-proper : {s : List ℕ} {o : CheckAnswer} → number_of o ≡ 0 → Opening s o → Proper s
to-proper e (refused_9 w) = absurd (let z : 9 ≡ 0 = e in omega arith)
to-proper e (refused_10 w a) = absurd (let z : 10 ≡ 0 = e in omega arith)
to-proper e (refused_7 w r h) = absurd (let z : 7 ≡ 0 = e in omega arith)
to-proper e (refused_8 w r h a) = absurd (let z : 8 ≡ 0 = e in omega arith)
to-proper e (accepted w r h a) = record { tree = r.tree; limits = r.limits; bytes = r.bytes; short = short-of r w; named = h; exact = a }

from-proper : {s : List ℕ} → Proper s → Opening s checking.accepted
from-proper p = accepted (whole_of (proper-rule p) p.short) (proper-rule p) p.named p.exact

pub accepted_iff : {s : List ℕ} → Bytes s → (checked_of s ≡ checking.accepted) ↔ Proper s
accepted_iff b = (λ e. to-proper refl ((opening_iff b checking.accepted).0 e), λ p. (opening_iff b checking.accepted).1 (from-proper p))

-- ---- refused with 10
to-place : {s : List ℕ} {o : CheckAnswer} (p : ℕ) → number_of o ≡ 10 → place_of o ≡ p → Opening s o → Whole (length s) × PlaceOf10 s p
to-place p e f (refused_9 w) = absurd (let z : 9 ≡ 10 = e in omega arith)
to-place {s} p e f (refused_10 w a) = (w, subst (PlaceOf10 s) f a)
to-place p e f (refused_7 w r h) = absurd (let z : 7 ≡ 10 = e in omega arith)
to-place p e f (refused_8 w r h a) = absurd (let z : 8 ≡ 10 = e in omega arith)
to-place p e f (accepted w r h a) = absurd (let z : 0 ≡ 10 = e in omega arith)

pub place_iff : {s : List ℕ} → Bytes s → (p : ℕ) → (checked_of s ≡ checking.refused 10 p) ↔ (Whole (length s) × PlaceOf10 s p)
place_iff b p =
    (λ e. to-place p refl refl ((opening_iff b (checking.refused 10 p)).0 e), λ a. (opening_iff b (checking.refused 10 p)).1 (refused_10 a.0 a.1))

-- ---- few references
pub few : {s : List ℕ} → Bytes s → checked_of s ≡ checking.accepted → reference_count s ≤ 32
few {s} b e =
    let p : Proper s = (accepted_iff b).0 e in
    let r : IsRule s = proper-rule p in
    subst (λ (n : ℕ). n ≤ 32) (sym (count-of r)) (at_most_32 r (whole_of r p.short).most)
