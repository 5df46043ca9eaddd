-- What frames in order say of the magnitudes and of the stacks: each frame has the sums and conditions that it needs,
-- and there are as many magnitudes as sums. Assumes nothing.
use mathlib.Core.Path.{◌≡◌, refl, ◌∙◌, subst}
use mathlib.Core.Bool.{Bool, true, false, ◌&&◌, cond}
use mathlib.Core.List.{List, [], ◌∷◌}
use Prim.Native.Nat.{ℕ, zero, suc, ◌+◌, ◌-◌, ◌*◌, ◌≤◌, ◌<◌, zero-le}
use native.Mathlib.Omega.{arith}
use lib.Dec.{T, leb, eqb, leb→le, eqb→eq}
use lib.ListN.{length}
use Rattle.std.specs.Prelude.{Option as Maybe, None}
use Rattle.numbers.proofs.Bools.{and_l, and_r}
use Rattle.rule.specs.Limits.{frame_limit, frame_bytes, decimal_limit, magnitude_limit}
use Rattle.rule.specs.Frames.{Source, literal, instance, reference, Arithmetic, add, subtract, multiply}
use Rattle.rule.specs.Frames.{Kind, operand, arithmetic, absolute, relation, negation, connective, none, kind_of, Effect, sum_of, cond_of, relates, no_rule, effect, frame_at, frame_count, fields_of}
use Rattle.rule.specs.Decimals.{Term}
use Rattle.rule.specs.Tree.{grown}
use Rattle.rule.specs.Order.{stepped, step_by, frame_step, Prefix, viable, stuck, order_at, order_next, prefix_at, InOrder, Orderly}
use Rattle.rule.specs.Sizes.{Sizes, fits, over, topped, sides_fit, compared, operand_size, sizes_after, size_next, size_at}
use Rattle.rule.specs.Stack.{SumsFor, CondsFor, EnoughSums, EnoughConds, all_decimals}
use Rattle.rule.specs.declared.Frame.{Frame}
use Rattle.rule.specs.declared.order.Shape.{Shape}
use Rattle.rule.proofs.FrameOrder.{Live, sums_of, conds_of, live, sums_le}
use Rattle.rule.proofs.FrameParsing.{literal-decimals}

-- ---- a frame that leaves a viable prefix has the fields of its kind, and the sums and conditions that it needs
live_cond : (i : ℕ) (t : Bool) (h : Maybe Shape) → Live (order_at i (cond t h None)) → T t × Live (order_at i h)
live_cond i true h l = (tt, l)
live_cond i false h l = absurd l

module _ (i c k : ℕ) where
  ready_by : (f : Effect) → Live (order_at i (stepped f c k)) → SumsFor f k × CondsFor f c
  ready_by (sum_of n) l = (leb→le n k (live_cond i (leb n k) _ l).0, tt)
  ready_by (cond_of n) l =
      let t = (live_cond i (leb n c && eqb k 0) _ l).0 in
      (eqb→eq k 0 (and_r (leb n c) (eqb k 0) t), leb→le n c (and_l (leb n c) (eqb k 0) t))
  ready_by relates l = (eqb→eq k 2 (live_cond i (eqb k 2) _ l).0, tt)
  ready_by no_rule l = (l, tt)

-- what a frame finds
pub record Found (most : ℕ) (x : Frame) (p : Prefix) : Type 0 where
  pub fields : T (fields_of most (kind_of x.kind) x)
  pub sums : EnoughSums (kind_of x.kind) (sums_of p)
  pub conds : EnoughConds (kind_of x.kind) (conds_of p)

found-next : (most : ℕ) (i : ℕ) (x : Frame) (p : Prefix) → Live (order_next most i x p) → Found most x p
found-next most i x (viable c k) l =
    let q = live_cond i (fields_of most (kind_of x.kind) x) (step_by (kind_of x.kind) c k) l in
    let r = ready_by i c k (effect (kind_of x.kind)) q.1 in
    record { fields = q.0; sums = r.0; conds = r.1 }
found-next most i x (stuck p) l = absurd l

-- each frame of frames in order
pub found : (most : ℕ) (s : List ℕ) (i : ℕ) → i < frame_count s → InOrder most s → Found most (frame_at s i) (prefix_at most s i)
found most s i h f = found-next most i (frame_at s i) (prefix_at most s i) (live most s (suc i) h f)

-- ---- as many magnitudes as sums
abbrev Same : Prefix → Sizes → Type 0
Same (stuck p) z = Unit {0}
Same (viable c k) over = Unit {0}
Same (viable c k) (fits ms) = length ms ≡ k

same_over : (p : Prefix) → Same p over
same_over (viable c k) = tt
same_over (stuck p) = tt

same_cond : (i : ℕ) (t : Bool) (h : Maybe Shape) (z : Sizes) → (T t → Same (order_at i h) z) → Same (order_at i (cond t h None)) z
same_cond i true h z f = f tt
same_cond i false h z f = tt

same_push : (t : Bool) (c k : ℕ) (m : Term ℕ) (ms : List (Term ℕ)) → suc (length ms) ≡ k → Same (viable c k) (cond t (fits (m ∷ ms)) over)
same_push true c k m ms h = h
same_push false c k m ms h = tt

same-top : (f : Term ℕ → Term ℕ → Term ℕ) (c k : ℕ) (ms : List (Term ℕ)) → 2 ≤ k → length ms ≡ k → Same (viable c (k - 2 + 1)) (topped f ms)
same-top f c k [] h e = absurd (omega arith)
same-top f c k (b ∷ []) h e = absurd (omega arith)
same-top f c k (b ∷ (a ∷ ms)) h e = same_push (leb (f a b).amount magnitude_limit) c (k - 2 + 1) (f a b) ms (omega arith)

same_none : (t : Bool) (c : ℕ) → Same (viable c 0) (cond t (fits []) over)
same_none true c = refl
same_none false c = tt

same-compared : (c : ℕ) (ms : List (Term ℕ)) → Same (viable c 0) (compared ms)
same-compared c [] = refl
same-compared c (b ∷ []) = refl
same-compared c (b ∷ (a ∷ ms)) = same_none (sides_fit a b) c

module _ (scale i : ℕ) (x : Frame) (c k : ℕ) (ms : List (Term ℕ)) (h : length ms ≡ k) where
  same_by : (o : Kind) → Same (order_at i (step_by o c k)) (sizes_after scale o x ms)
  same_by (operand s) =
      same_cond i (leb 0 k) _ _ (λ t. same_push (leb (operand_size scale s x).amount magnitude_limit) c (k - 0 + 1) (operand_size scale s x) ms (omega arith))
  same_by (arithmetic o) = same_cond i (leb 2 k) _ (topped (grown o) ms) (λ t. same-top (grown o) c k ms (leb→le 2 k t) h)
  same_by absolute = same_cond i (leb 1 k) _ (fits ms) (λ t. let w : 1 ≤ k = leb→le 1 k t in omega arith)
  same_by (relation r) = same_cond i (eqb k 2) _ (compared ms) (λ t. same-compared (c + 1) ms)
  same_by negation = same_cond i (leb 1 c && eqb k 0) _ (fits ms) (λ t. h ∙ eqb→eq k 0 (and_r (leb 1 c) (eqb k 0) t))
  same_by (connective j) = same_cond i (leb 2 c && eqb k 0) _ (fits ms) (λ t. h ∙ eqb→eq k 0 (and_r (leb 2 c) (eqb k 0) t))
  same_by none = tt

same_out : (p : Prefix) (ms : List (Term ℕ)) → Live p → Same p (fits ms) → length ms ≡ sums_of p
same_out (viable c k) ms l h = h
same_out (stuck q) ms l h = absurd l

-- ---- decimals: at most 6 more with each frame
abbrev FewIn : ℕ → Sizes → Type 0
FewIn n (fits ms) = all_decimals ms ≤ n
FewIn n over = Unit {0}

few_push : (t : Bool) (n : ℕ) (m : Term ℕ) (ms : List (Term ℕ)) → m.decimals + all_decimals ms ≤ n → FewIn n (cond t (fits (m ∷ ms)) over)
few_push true n m ms h = h
few_push false n m ms h = tt

few-grown : (o : Arithmetic) (a b : Term ℕ) → (grown o a b).decimals ≤ b.decimals + a.decimals
few-grown add a b = omega arith
few-grown subtract a b = omega arith
few-grown multiply a b = omega arith

few-top : (o : Arithmetic) (n : ℕ) (ms : List (Term ℕ)) → all_decimals ms ≤ n → FewIn n (topped (grown o) ms)
few-top o n [] h = h
few-top o n (b ∷ []) h = h
few-top o n (b ∷ (a ∷ ms)) h = few_push (leb (grown o a b).amount magnitude_limit) n (grown o a b) ms (omega (arith, few-grown o a b))

few-none : (t : Bool) (n : ℕ) → FewIn n (cond t (fits []) over)
few-none true n = zero-le
few-none false n = tt

few-compared : (n : ℕ) (ms : List (Term ℕ)) → FewIn n (compared ms)
few-compared n [] = zero-le
few-compared n (b ∷ []) = zero-le
few-compared n (b ∷ (a ∷ ms)) = few-none (sides_fit a b) n

more-few : (n m : ℕ) → n ≤ m → (z : Sizes) → FewIn n z → FewIn m z
more-few n m h (fits ms) f = omega arith
more-few n m h over f = tt

module _ (most scale : ℕ) (few-m : most ≤ decimal_limit) (few-s : scale ≤ decimal_limit) where
  few-operand : (s : Source) (x : Frame) → T (fields_of most (operand s) x) → (operand_size scale s x).decimals ≤ decimal_limit
  few-operand literal x t = let h = literal-decimals most x t in omega arith
  few-operand instance x t = zero-le
  few-operand reference x t = few-s

  few-by : (o : Kind) (x : Frame) (n : ℕ) (ms : List (Term ℕ)) → T (fields_of most o x) → all_decimals ms ≤ n → FewIn (n + decimal_limit) (sizes_after scale o x ms)
  few-by (operand s) x n ms t h =
      few_push (leb (operand_size scale s x).amount magnitude_limit) (n + decimal_limit) (operand_size scale s x) ms (omega (arith, few-operand s x t))
  few-by (arithmetic o) x n ms t h = more-few n (n + decimal_limit) (omega arith) (topped (grown o) ms) (few-top o n ms h)
  few-by absolute x n ms t h = omega arith
  few-by (relation r) x n ms t h = few-compared (n + decimal_limit) ms
  few-by negation x n ms t h = omega arith
  few-by (connective j) x n ms t h = omega arith
  few-by none x n ms t h = omega arith

  few-next : (x : Frame) (n : ℕ) (z : Sizes) → T (fields_of most (kind_of x.kind) x) → FewIn n z → FewIn (n + decimal_limit) (size_next scale x z)
  few-next x n (fits ms) t h = few-by (kind_of x.kind) x n ms t h
  few-next x n over t h = tt

  few-at : (s : List ℕ) (i : ℕ) → i ≤ frame_count s → InOrder most s → FewIn (decimal_limit * i) (size_at scale s i)
  few-at s zero h f = zero-le
  few-at s (suc i) h f =
      more-few (decimal_limit * i + decimal_limit) (decimal_limit * suc i) (omega arith) (size_at scale s (suc i))
      (few-next (frame_at s i) (decimal_limit * i) (size_at scale s i) (found most s i h f).fields (few-at s i (omega arith) f))

  pub few-decimals : (s : List ℕ) (i : ℕ) (ms : List (Term ℕ)) → i ≤ frame_count s → InOrder most s → size_at scale s i ≡ fits ms → all_decimals ms ≤ decimal_limit * i
  few-decimals s i ms h f e = subst (FewIn (decimal_limit * i)) e (few-at s i h f)

module _ (most scale : ℕ) where
  same_next : (i : ℕ) (x : Frame) (p : Prefix) (z : Sizes) → Same p z → Same (order_next most i x p) (size_next scale x z)
  same_next i x (stuck q) z h = tt
  same_next i x (viable c k) over h = same_over (order_at i (frame_step most x c k))
  same_next i x (viable c k) (fits ms) h =
      same_cond i (fields_of most (kind_of x.kind) x) (step_by (kind_of x.kind) c k) (sizes_after scale (kind_of x.kind) x ms)
      (λ t. same_by scale i x c k ms h (kind_of x.kind))

  same_at : (s : List ℕ) (i : ℕ) → Same (prefix_at most s i) (size_at scale s i)
  same_at s zero = refl
  same_at s (suc i) = same_next i (frame_at s i) (prefix_at most s i) (size_at scale s i) (same_at s i)

  pub sizes-length : (s : List ℕ) (i : ℕ) (ms : List (Term ℕ)) → Live (prefix_at most s i) → size_at scale s i ≡ fits ms → length ms ≡ sums_of (prefix_at most s i)
  sizes-length s i ms l e = same_out (prefix_at most s i) ms l (subst (Same (prefix_at most s i)) e (same_at s i))

-- ---- for the loop over the magnitudes
-- what a frame finds before it
pub record SizeReady (x : Frame) (ms : List (Term ℕ)) : Type 0 where
  pub enough : EnoughSums (kind_of x.kind) (length ms)
  pub room : length ms < frame_limit
  pub few : all_decimals ms ≤ decimal_limit * frame_limit

pub size_ready : (scale : ℕ) (s : List ℕ) (i : ℕ) (ms : List (Term ℕ)) (x : Frame) → i < frame_count s → length s ≤ frame_limit * frame_bytes → scale ≤ decimal_limit → Orderly s
    → x ≡ frame_at s i → size_at scale s i ≡ fits ms → SizeReady x ms
size_ready scale s i ms x h n g o w e =
    let q : length ms ≡ sums_of (prefix_at o.most s i) = sizes-length o.most scale s i ms (live o.most s i (omega arith) o.order) e in
    let b : sums_of (prefix_at o.most s i) ≤ i = sums_le o.most s i in
    let d : all_decimals ms ≤ decimal_limit * i = few-decimals o.most scale o.few g s i ms (omega arith) o.order e in
    record {
      enough = rw (w, q) (found o.most s i h o.order).sums;
      room = omega arith;
      few = omega arith;
    }
