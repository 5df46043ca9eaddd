-- Laws of refusal 10's pass over the frames. Assumes nothing.
use mathlib.Core.Path.{◌≡◌, refl, sym, ap, ◌∙◌, subst}
use mathlib.Core.Bool.{Bool, true, false, ◌&&◌, cond}
use mathlib.Core.List.{List}
use Prim.Native.Nat.{ℕ, zero, suc, ◌+◌, ◌-◌, ◌≤◌, ◌<◌, zero-le}
use native.Mathlib.Nat.{le_refl, le_trans, add-suc, add-zero}
use native.Mathlib.Numerals.{add-one}
use native.Mathlib.Omega.{arith}
use lib.Dec.{leb, eqb}
use borrow.Author.Tests.{eqb-true}
use Rattle.std.specs.Prelude.{Option as Maybe, Some, None}
use Rattle.std.specs.Prelude.{Ok, Err}
use Rattle.numbers.proofs.Bools.{and-true}
use Rattle.rule.specs.Frames.{kind_of, Effect, sum_of, cond_of, relates, no_rule, effect, frame_at, frame_count, fields_of}
use Rattle.rule.specs.References.{reference_byte, references_to, one_more, reference_count}
use Rattle.rule.specs.Order.{good, stepped, step_by, frame_step, Prefix, viable, stuck, order_at, order_next, prefix_at, ended, order_of, InOrder}
use Rattle.rule.specs.declared.Frame.{Frame}
use Rattle.rule.specs.declared.order.Shape.{Shape}

abbrev pub sums_of : Prefix → ℕ
sums_of (viable c k) = k
sums_of (stuck p) = 0

abbrev pub conds_of : Prefix → ℕ
conds_of (viable c k) = c
conds_of (stuck p) = 0

abbrev pub Live : Prefix → Type 0
Live (viable c k) = Unit {0}
Live (stuck p) = ⊥

-- ---- no more conditions and sums than frames
abbrev total : Prefix → ℕ
total (viable c k) = c + k
total (stuck p) = 0

one_more_lem : (i x y m : ℕ) (t : Bool) → x + y ≤ m → total (order_at i (cond t (good x y) None)) ≤ m
one_more_lem i x y m true h = h
one_more_lem i x y m false h = zero-le

step-total : (i : ℕ) (f : Effect) (c k m : ℕ) → c + k ≤ m → total (order_at i (stepped f c k)) ≤ suc m
step-total i (sum_of n) c k m h = one_more_lem i c (k - n + 1) (suc m) (leb n k) (omega arith)
step-total i (cond_of n) c k m h = one_more_lem i (c - n + 1) 0 (suc m) (leb n c && eqb k 0) (omega arith)
step-total i relates c k m h = one_more_lem i (c + 1) 0 (suc m) (eqb k 2) (omega arith)
step-total i no_rule c k m h = zero-le

tested-total : (i : ℕ) (t : Bool) (h : Maybe Shape) (m : ℕ) → total (order_at i h) ≤ m → total (order_at i (cond t h None)) ≤ m
tested-total i true h m l = l
tested-total i false h m l = zero-le

sums_in : (p : Prefix) → sums_of p ≤ total p
sums_in (viable c k) = omega arith
sums_in (stuck p) = zero-le

conds_in : (p : Prefix) → conds_of p ≤ total p
conds_in (viable c k) = omega arith
conds_in (stuck p) = zero-le

-- ---- every prefix of frames in order is viable
fine-at : {m p : ℕ} → Err p ≡ Ok m → ⊥
fine-at e = let z : ◌≡◌ {A = ℕ} 0 1 = cc in omega arith

-- and one condition and no sum are left
one-cond : (n m c k : ℕ) (t : Bool) → (eqb c 1 && eqb k 0) ≡ t → cond t (Ok m) (Err n) ≡ Ok m → (c ≡ 1) × (k ≡ 0)
one-cond n m c k true e f = let p = and-true (eqb c 1) (eqb k 0) e in (eqb-true c 1 p.0, eqb-true k 0 p.1)
one-cond n m c k false e f = absurd (fine-at f)

one-by : (n m : ℕ) (p : Prefix) → ended n m p ≡ Ok m → p ≡ viable 1 0
one-by n m (viable c k) f = let q = one-cond n m c k (eqb c 1 && eqb k 0) refl f in rw (q.0, q.1)
one-by n m (stuck q) f = absurd (fine-at f)

-- ---- the answer's number of references, and its place
fine-cond : (n m l : ℕ) (t : Bool) → cond t (Ok m) (Err n) ≡ Ok l → l ≡ m
fine-cond n m l true e = cc
fine-cond n m l false e = absurd (fine-at e)

fine-by : (n m l : ℕ) (p : Prefix) → ended n m p ≡ Ok l → l ≡ m
fine-by n m l (viable c k) e = fine-cond n m l (eqb c 1 && eqb k 0) e
fine-by n m l (stuck q) e = absurd (fine-at e)

abbrev Below : ℕ → Prefix → Type 0
Below i (viable c k) = Unit {0}
Below i (stuck p) = p < i

below-order-at : (i : ℕ) (h : Maybe Shape) → Below (suc i) (order_at i h)
below-order-at i (Some h) = tt
below-order-at i None = le_refl (suc i)

place-cond : (n m p : ℕ) (t : Bool) → cond t (Ok m) (Err n) ≡ Err p → p ≤ n
place-cond n m p true e = absurd (fine-at (sym e))
place-cond n m p false e = let z : n ≡ p = cc in omega arith

place-by : (n m p : ℕ) (q : Prefix) → Below n q → ended n m q ≡ Err p → p ≤ n
place-by n m p (viable c k) b e = place-cond n m p (eqb c 1 && eqb k 0) e
place-by n m p (stuck q) b e = let z : q ≡ p = cc in omega arith

-- ---- counting references
count-cond : (t : Bool) (m i : ℕ) → m ≤ i → cond t (m + 1) m ≤ suc i
count-cond true m i h = omega arith
count-cond false m i h = omega arith

pub count_le : (s : List ℕ) (i : ℕ) → references_to one_more s 0 i ≤ i
count_le s zero = zero-le
count_le s (suc i) = count-cond (eqb (frame_at s i).kind reference_byte) (references_to one_more s 0 i) i (count_le s i)

module _ (most : ℕ) where
  next-total : (i : ℕ) (x : Frame) (p : Prefix) (m : ℕ) → total p ≤ m → total (order_next most i x p) ≤ suc m
  next-total i x (viable c k) m h =
      tested-total i (fields_of most (kind_of x.kind) x) (step_by (kind_of x.kind) c k) (suc m) (step-total i (effect (kind_of x.kind)) c k m h)
  next-total i x (stuck p) m h = zero-le

  prefix_total : (s : List ℕ) (i : ℕ) → total (prefix_at most s i) ≤ i
  prefix_total s zero = zero-le
  prefix_total s (suc i) = next-total i (frame_at s i) (prefix_at most s i) i (prefix_total s i)

  pub sums_le : (s : List ℕ) (i : ℕ) → sums_of (prefix_at most s i) ≤ i
  sums_le s i = le_trans (sums_in (prefix_at most s i)) (prefix_total s i)

  pub conds_le : (s : List ℕ) (i : ℕ) → conds_of (prefix_at most s i) ≤ i
  conds_le s i = le_trans (conds_in (prefix_at most s i)) (prefix_total s i)

  -- ---- for the loop
  module _ (s : List ℕ) (i c k : ℕ) (e : prefix_at most s i ≡ viable c k) where
    pub prefix_next : (x : Frame) → x ≡ frame_at s i → (r : Maybe Shape) → r ≡ frame_step most x c k → prefix_at most s (i + 1) ≡ order_at i r
    prefix_next x h r g = rw add-one (ap (order_next most i (frame_at s i)) e ∙ ap (λ (y : Frame). order_at i (frame_step most y c k)) (sym h) ∙ ap (order_at i) (sym g))

    pub counts : c + k ≤ i
    counts = subst (λ (p : Prefix). total p ≤ i) e (prefix_total s i)

  stays : (s : List ℕ) (i p d : ℕ) → prefix_at most s i ≡ stuck p → prefix_at most s (i + d) ≡ stuck p
  stays s i p zero e = rw add-zero e
  stays s i p (suc d) e = rw (add-suc i d) (ap (order_next most (i + d) (frame_at s (i + d))) (stays s i p d e))

  pub stuck_at : (s : List ℕ) (i n p : ℕ) → i ≤ n → prefix_at most s i ≡ stuck p → prefix_at most s n ≡ stuck p
  stuck_at s i n p h e = let q : i + (n - i) ≡ n = omega arith in rw q at (stays s i p (n - i) e)

  -- no step from the first i frames: the place is i
  pub order_stuck : (s : List ℕ) (i c k : ℕ) → prefix_at most s i ≡ viable c k → i + 1 ≤ frame_count s → frame_step most (frame_at s i) c k ≡ None → order_of most s ≡ Err i
  unfolding order_of
  order_stuck s i c k e h g =
      let bad : prefix_at most s (i + 1) ≡ stuck i = prefix_next s i c k e (frame_at s i) refl None (sym g) in
      ap (ended (frame_count s) (reference_count s)) (stuck_at s (i + 1) (frame_count s) i h bad)

  -- after all frames
  pub order_ended : (s : List ℕ) (n c k m : ℕ) → n ≡ frame_count s → prefix_at most s n ≡ viable c k → references_to one_more s 0 n ≡ m → order_of most s ≡ cond (eqb c 1 && eqb k 0) (Ok m) (Err n)
  unfolding order_of reference_count
  order_ended s n c k m h e g = let e' = rw h at e in let g' = rw h at g in rw (e', g', h)

  live-by : (s : List ℕ) (i : ℕ) (p : Prefix) → prefix_at most s i ≡ p → i ≤ frame_count s → InOrder most s → Live p
  unfolding order_of
  live-by s i (viable c k) e h f = tt
  live-by s i (stuck p) e h f =
      fine-at (sym (ap (ended (frame_count s) (reference_count s)) (stuck_at s i (frame_count s) p h e)) ∙ f)

  pub live : (s : List ℕ) (i : ℕ) → i ≤ frame_count s → InOrder most s → Live (prefix_at most s i)
  live s i h f = live-by s i (prefix_at most s i) refl h f

  pub one_left : (s : List ℕ) → InOrder most s → prefix_at most s (frame_count s) ≡ viable 1 0
  unfolding order_of
  one_left s f = one-by (frame_count s) (reference_count s) (prefix_at most s (frame_count s)) f

  pub fine-count : (s : List ℕ) (m : ℕ) → order_of most s ≡ Ok m → m ≡ reference_count s
  unfolding order_of
  fine-count s m e = fine-by (frame_count s) (reference_count s) m (prefix_at most s (frame_count s)) e

  pub fine-order : (s : List ℕ) (m : ℕ) → order_of most s ≡ Ok m → InOrder most s
  fine-order s m e = e ∙ ap Ok (fine-count s m e)

  below_next : (i : ℕ) (x : Frame) (p : Prefix) → Below i p → Below (suc i) (order_next most i x p)
  below_next i x (viable c k) h = below-order-at i (frame_step most x c k)
  below_next i x (stuck p) h = omega arith

  below : (s : List ℕ) (i : ℕ) → Below i (prefix_at most s i)
  below s zero = tt
  below s (suc i) = below_next i (frame_at s i) (prefix_at most s i) (below s i)

  pub place_le : (s : List ℕ) (p : ℕ) → order_of most s ≡ Err p → p ≤ frame_count s
  unfolding order_of
  place_le s p e = place-by (frame_count s) (reference_count s) p (prefix_at most s (frame_count s)) (below s (frame_count s)) e

-- what the loop of refusal 10 goes by
pub ruleset order_laws = (counts, count_le, order_stuck)
