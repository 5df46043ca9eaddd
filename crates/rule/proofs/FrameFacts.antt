-- What an accepted answer says of the passes and of each frame: for whoever walks accepted frames. Assumes nothing.
use mathlib.Core.Path.{◌≡◌, refl, sym, ap, ◌∙◌, subst}
use mathlib.Core.Bool.{Bool, true, false, cond}
use mathlib.Core.Option.{Option}
use mathlib.Core.List.{List, [], ◌∷◌, ◌++◌}
use Prim.Native.Nat.{ℕ, zero, suc, ◌+◌, ◌≤◌, ◌<◌}
use native.Mathlib.Omega.{arith}
use lib.Dec.{T, leb, eqb}
use lib.IntN.{pos, nat_abs}
use lib.ListN.{length, drop, length-drop}
use borrow.Author.Tests.{eqb-true}
use Rattle.std.specs.Prelude.{Result, Ok, Err}
use Rattle.numbers.proofs.Bools.{and-true}
use Rattle.rule.specs.Limits.{decimal_limit}
use Rattle.rule.specs.Frames.{Source, Kind, kind_byte, scale_byte, frame_at, frame_count, fields_of}
use Rattle.rule.specs.Tree.{Reference, Sum, literal, instance, reference, arithmetic, abs, Cond, relation, not, connective, RuleTree, LimitsR, LimitsS, LimitsC, Limits, references_s, references_c, references}
use Rattle.rule.specs.Scale.{note_decimals, literal_decimals, head_frames, headed, scale_of, head_fine, body}
use Rattle.rule.specs.References.{reference_byte, reference_of}
use Rattle.rule.specs.Order.{order_of, InOrder}
use Rattle.rule.specs.Sizes.{sizes_fit}
use Rattle.rule.specs.Check.{whole_frames, after_order, checked_body, checked_of}
use Rattle.rule.proofs.CheckNumbers.{number_of}
use Rattle.rule.specs.Opening.{Whole}
use Rattle.rule.specs.CheckTold as checking
use Rattle.rule.specs.declared.Frame.{Frame}
use Rattle.rule.proofs.FrameKinds.{kind_at}
use Rattle.rule.proofs.FrameOrder.{fine-order}
use Rattle.rule.proofs.FrameLists.{frame_past}
use Rattle.rule.proofs.FrameStacks.{found}
use Rattle.rule.proofs.FrameLength.{true-whole}
use Rattle.rule.proofs.FrameParsing.{literal-value, reference-limits}

-- ---- an accepted answer
pub record Passed (s : List ℕ) : Type 0 where
  pub whole : Whole (length s)
  pub head : head_fine s ≡ true
  pub order : InOrder (literal_decimals (scale_of s)) (body s)
  pub sizes : sizes_fit (note_decimals (scale_of s)) (body s) ≡ true

not-refused : (n p : ℕ) → (n ≡ 0 → ⊥) → checking.refused n p ≡ checking.accepted → ⊥
not-refused n p h e = h (ap number_of e)

sizes-by : (t u : Bool) → cond t (checking.refused 7 0) (cond u checking.accepted (checking.refused 8 0)) ≡ checking.accepted → u ≡ true
sizes-by true u e = absurd (not-refused 7 0 (λ z. omega arith) e)
sizes-by false true e = refl
sizes-by false false e = absurd (not-refused 8 0 (λ z. omega arith) e)

order-by : (z : Option ℕ) (s : List ℕ) (o : Result ℕ ℕ) → order_of (literal_decimals z) s ≡ o → after_order (head_frames z) (note_decimals z) s o ≡ checking.accepted
    → InOrder (literal_decimals z) s × (sizes_fit (note_decimals z) s ≡ true)
order-by z s (Err p) g e = absurd (not-refused 10 (head_frames z + p) (λ z. omega arith) e)
order-by z s (Ok m) g e = (fine-order (literal_decimals z) s m g, sizes-by (eqb m 0) (sizes_fit (note_decimals z) s) e)

head-by : (s : List ℕ) → Whole (length s) → (t : Bool) → head_fine s ≡ t → cond t (checked_body (scale_of s) (body s)) (checking.refused 10 0) ≡ checking.accepted → Passed s
head-by s w true h e =
    let q = order-by (scale_of s) (body s) (order_of (literal_decimals (scale_of s)) (body s)) refl e in
    record { whole = w; head = h; order = q.0; sizes = q.1 }
head-by s w false h e = absurd (not-refused 10 0 (λ z. omega arith) e)

passed-by : (s : List ℕ) (t : Bool) → whole_frames (length s) ≡ t → cond t (cond (head_fine s) (checked_body (scale_of s) (body s)) (checking.refused 10 0)) (checking.refused 9 0) ≡ checking.accepted → Passed s
passed-by s true w e = head-by s (true-whole (length s) w) (head_fine s) refl e
passed-by s false w e = absurd (not-refused 9 0 (λ z. omega arith) e)

pub passed : (s : List ℕ) → checked_of s ≡ checking.accepted → Passed s
unfolding checked_of
passed s e = passed-by s (whole_frames (length s)) refl e

-- ---- each frame's fields, of a body
module _ (most : ℕ) (s : List ℕ) (i : ℕ) (h : i < frame_count s) (f : InOrder most s) where
  fields_as : (k : Kind) → (frame_at s i).kind ≡ kind_byte k → T (fields_of most k (frame_at s i))
  fields_as k e = subst (λ (o : Kind). T (fields_of most o (frame_at s i))) (kind_at k (frame_at s i).kind e) (found most s i h f).fields

  -- a reference's are within the limits
  body-reference : (frame_at s i).kind ≡ reference_byte → LimitsR (reference_of (frame_at s i))
  body-reference e = reference-limits (frame_at s i) (fields_as (Kind.operand Source.reference) e)

  -- a literal is not negative
  pub literal-at : (frame_at s i).kind ≡ kind_byte (Kind.operand Source.literal) → (frame_at s i).value ≡ pos (nat_abs (frame_at s i).value)
  literal-at e = literal-value most (frame_at s i) (fields_as (Kind.operand Source.literal) e)

-- eight bytes on
pub frame-behind : (s : List ℕ) (i : ℕ) → 8 ≤ length s → frame_at s (suc i) ≡ frame_at (drop 8 s) i
frame-behind [] i h = absurd (omega arith)
frame-behind (k ∷ []) i h = absurd (omega arith)
frame-behind (k ∷ (e ∷ [])) i h = absurd (omega arith)
frame-behind (k ∷ (e ∷ (n ∷ []))) i h = absurd (omega arith)
frame-behind (k ∷ (e ∷ (n ∷ (f ∷ [])))) i h = absurd (omega arith)
frame-behind (k ∷ (e ∷ (n ∷ (f ∷ (a ∷ []))))) i h = absurd (omega arith)
frame-behind (k ∷ (e ∷ (n ∷ (f ∷ (a ∷ (b ∷ [])))))) i h = absurd (omega arith)
frame-behind (k ∷ (e ∷ (n ∷ (f ∷ (a ∷ (b ∷ (c ∷ []))))))) i h = absurd (omega arith)
frame-behind (k ∷ (e ∷ (n ∷ (f ∷ (a ∷ (b ∷ (c ∷ (d ∷ s)))))))) i h = frame_past k e n f a b c d s i

behind-head : (most : ℕ) (s : List ℕ) (i : ℕ) → 8 ≤ length s → i < frame_count s → eqb (frame_at s 0).kind scale_byte ≡ true → InOrder most (drop 8 s) → (frame_at s i).kind ≡ reference_byte → LimitsR (reference_of (frame_at s i))
behind-head most s zero l h e f k = absurd (let a : 4 ≡ 3 = sym (eqb-true (frame_at s 0).kind scale_byte e) ∙ k in omega arith)
behind-head most s (suc i) l h e f k =
    let b : frame_at s (suc i) ≡ frame_at (drop 8 s) i = frame-behind s i l in
    let n = length-drop 8 s in
    subst (λ (x : Frame). LimitsR (reference_of x)) (sym b) (body-reference most (drop 8 s) i (omega arith) f (sym (ap (λ (x : Frame). x.kind) b) ∙ k))

-- and of a rule: behind the head
pub reference-at : (s : List ℕ) (i : ℕ) → i < frame_count s → Passed s → (frame_at s i).kind ≡ reference_byte → LimitsR (reference_of (frame_at s i))
reference-at s i h p = by-head (headed s) refl
  where
    by-head : (t : Bool) → headed s ≡ t → (frame_at s i).kind ≡ reference_byte → LimitsR (reference_of (frame_at s i))
    by-head false e = body-reference 0 s i h (rw e at p.order)
    by-head true e = behind-head decimal_limit s i p.whole.least h (and-true (leb 8 (length s)) (eqb (frame_at s 0).kind scale_byte) e).1 (rw e at p.order)

-- ---- every reference of a tree within the limits is within them
abbrev pub AllWithin : List Reference → Type 0
AllWithin [] = Unit {0}
AllWithin (r ∷ rs) = LimitsR r × AllWithin rs

within_append : (xs ys : List Reference) → AllWithin xs → AllWithin ys → AllWithin (xs ++ ys)
within_append [] ys p q = q
within_append (r ∷ xs) ys p q = (p.0, within_append xs ys p.1 q)

module _ (z : Option ℕ) where
  within_s : (t : Sum) → LimitsS z t → AllWithin (references_s t)
  within_s (literal d n) l = tt
  within_s instance l = tt
  within_s (reference r) l = (l, tt)
  within_s (arithmetic o a b) l = within_append (references_s a) (references_s b) (within_s a l.0) (within_s b l.1)
  within_s (abs a) l = within_s a l

  within_c : (t : Cond) → LimitsC z t → AllWithin (references_c t)
  within_c (relation r a b) l = within_append (references_s a) (references_s b) (within_s a l.0) (within_s b l.1)
  within_c (not p) l = within_c p l
  within_c (connective j p q) l = within_append (references_c p) (references_c q) (within_c p l.0) (within_c q l.1)

pub references-within : (t : RuleTree) → Limits t → AllWithin (references t)
references-within t l = within_c t.scale t.condition l.1
