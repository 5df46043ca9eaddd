-- Each value that the pass holds is within the magnitude that check gave its place. Assumes nothing.
use mathlib.Core.Path.{◌≡◌, refl, sym, ap, ◌∙◌}
use mathlib.Core.Bool.{Bool, true, false, ◌&&◌, cond}
use mathlib.Core.List.{List, [], ◌∷◌}
use Prim.Native.Nat.{ℕ, zero, suc, ◌+◌, ◌-◌, ◌*◌, ◌^◌, ◌≤◌, ◌<◌}
use native.Mathlib.Nat.{le_refl, le_trans, mul-le-mul_right}
use borrow.Author.Tests.{leb-true}
use native.Mathlib.Omega.{arith}
use lib.Dec.{T, leb, eqb, leb→le}
use lib.IntN.{ℤ, pos, nat_abs}
use lib.ListN.{length, get_or}
use Rattle.numbers.proofs.Bools.{and_l, and-true, true-false}
use Rattle.rule.specs.Limits.{decimal_limit, instance_magnitude, reference_magnitude, magnitude_limit}
use Rattle.rule.specs.Frames.{Source, literal, instance, reference, Arithmetic, add, subtract, multiply, Kind, operand, arithmetic, absolute, relation, negation, connective, none, kind_of, frame_at, frame_count, fields_of}
use Rattle.rule.specs.Decimals.{Term, term, greater, brought, left_side, right_side}
use Rattle.rule.specs.Tree.{Reference, Sum, grown, magnitude, decimals}
use Rattle.rule.specs.Tree as tree
use Rattle.std.specs.Prelude.{Option, None}
use Rattle.rule.specs.Order.{good, step_by, Prefix, viable, stuck, order_at, order_next, prefix_at, InOrder}
use Rattle.rule.specs.Sizes.{Sizes, fits, over, pushed, topped, sides_fit, compared, operand_size, sizes_after, size_next, size_at, is_fits, sizes_fit}
use Rattle.rule.specs.Build.{top1, top2}
use Rattle.rule.specs.Stack.{Bounded, all_decimals}
use Rattle.rule.specs.declared.Frame.{Frame}
use Rattle.rule.specs.declared.order.Shape.{Shape}
use Rattle.rule.proofs.Laws.{Live, sums_of, conds_of, live, BoundedIn, sizes_in, fits-at, sizes-length, few-decimals}
use Rattle.verdict.specs.Found.{instance_limit, Given}
use Rattle.verdict.specs.Kleene.{not_k, connected}
use Rattle.verdict.specs.Value.{times_z, computed, size_of, note_of, value_s}
use Rattle.verdict.specs.Pass.{pass_by, operand_by, pass_at}
use Rattle.verdict.specs.Stacks.{Small, SmallSides, SidesFor}
use Rattle.verdict.specs.declared.Truth.{Truth}
use Rattle.verdict.specs.declared.evaluate.Pass.{Pass}
use Rattle.verdict.proofs.Built.{length-one, length_two}
use Rattle.verdict.proofs.Numbers.{nat_abs_times, add-within, sub_within, mul_within}

-- ---- as many values as magnitudes, each within its own, with the same decimals
pub record OneWithin (v : Term ℤ) (m : Term ℕ) : Type 0 where
  pub amount : nat_abs v.amount ≤ m.amount
  pub decimals : v.decimals ≡ m.decimals

abbrev pub EachWithin : List (Term ℤ) → List (Term ℕ) → Type 0
EachWithin [] [] = Unit {0}
EachWithin [] (m ∷ ms) = ⊥
EachWithin (v ∷ vs) [] = ⊥
EachWithin (v ∷ vs) (m ∷ ms) = OneWithin v m × EachWithin vs ms

abbrev pub WithinIn : List (Term ℤ) → Sizes → Type 0
WithinIn vs (fits ms) = EachWithin vs ms
WithinIn vs over = Unit {0}

within-cond : (t : Bool) (v : Term ℤ) (m : Term ℕ) (vs : List (Term ℤ)) (ms : List (Term ℕ)) → OneWithin v m → EachWithin vs ms → WithinIn (v ∷ vs) (cond t (fits (m ∷ ms)) over)
within-cond true v m vs ms h k = (h, k)
within-cond false v m vs ms h k = tt

within_push : (v : Term ℤ) (m : Term ℕ) (vs : List (Term ℤ)) (ms : List (Term ℕ)) → OneWithin v m → EachWithin vs ms → WithinIn (v ∷ vs) (pushed m ms)
within_push v m vs ms h k = within-cond (leb m.amount magnitude_limit) v m vs ms h k

within-two : (f : Term ℤ → Term ℤ → Term ℤ) (g : Term ℕ → Term ℕ → Term ℕ) → ((a b : Term ℤ) (m n : Term ℕ) → OneWithin a m → OneWithin b n → OneWithin (f a b) (g m n))
    → (vs : List (Term ℤ)) (ms : List (Term ℕ)) → EachWithin vs ms → WithinIn (top2 f vs) (topped g ms)
within-two f g h [] [] k = tt
within-two f g h [] (m ∷ ms) k = absurd k
within-two f g h (v ∷ vs) [] k = absurd k
within-two f g h (v ∷ []) (m ∷ []) k = k
within-two f g h (v ∷ []) (m ∷ (n ∷ ms)) k = absurd k.1
within-two f g h (v ∷ (u ∷ vs)) (m ∷ []) k = absurd k.1
within-two f g h (v ∷ (u ∷ vs)) (m ∷ (n ∷ ms)) k = within_push (f u v) (g n m) vs ms (h u v n m k.1.0 k.0) k.1.1

within-one : (vs : List (Term ℤ)) (ms : List (Term ℕ)) → EachWithin vs ms → EachWithin (top1 size_of vs) ms
within-one [] ms k = k
within-one (v ∷ vs) [] k = k
within-one (v ∷ vs) (m ∷ ms) k = (record { amount = k.0.amount; decimals = k.0.decimals }, k.1)

within_none : (ms : List (Term ℕ)) → WithinIn [] (compared ms)
within_none [] = tt
within_none (b ∷ []) = tt
within_none (b ∷ (a ∷ ms)) = go (sides_fit a b)
  where
    go : (t : Bool) → WithinIn [] (cond t (fits []) over)
    go true = tt
    go false = tt

-- brought to one count
brought-within : (v : Term ℤ) (m : Term ℕ) (d e : ℕ) → d ≡ e → OneWithin v m → nat_abs (brought times_z d v) ≤ brought ◌*◌ e m
brought-within v m d e q h = rw (nat_abs_times v.amount (10 ^ (d - v.decimals)), q, h.decimals) (mul-le-mul_right (10 ^ (e - m.decimals)) h.amount)

module _ (a b : Term ℤ) (m n : Term ℕ) (h : OneWithin a m) (k : OneWithin b n) where
  same-greater : greater a b ≡ greater m n
  same-greater = rw (h.decimals, k.decimals)

  pub left-within : nat_abs (left_side times_z a b) ≤ left_side ◌*◌ m n
  left-within = brought-within a m (greater a b) (greater m n) same-greater h

  pub right-within : nat_abs (right_side times_z a b) ≤ right_side ◌*◌ m n
  right-within = brought-within b n (greater a b) (greater m n) same-greater k

computed-within : (o : Arithmetic) (a b : Term ℤ) (m n : Term ℕ) → OneWithin a m → OneWithin b n → OneWithin (computed o a b) (grown o m n)
computed-within add a b m n h k =
    record { amount = add-within (left_side times_z a b) (right_side times_z a b) (left_side ◌*◌ m n) (right_side ◌*◌ m n) (left-within a b m n h k) (right-within a b m n h k); decimals = same-greater a b m n h k }
computed-within subtract a b m n h k =
    record { amount = sub_within (left_side times_z a b) (right_side times_z a b) (left_side ◌*◌ m n) (right_side ◌*◌ m n) (left-within a b m n h k) (right-within a b m n h k); decimals = same-greater a b m n h k }
computed-within multiply a b m n h k =
    record { amount = mul_within a.amount b.amount m.amount n.amount h.amount k.amount; decimals = rw (h.decimals, k.decimals) }

-- ---- a tree's sums
module _ (scale : ℕ) (g : Given) (h : g.instance ≤ instance_limit) (n : (r : Reference) → nat_abs (note_of (g.found r)) ≤ reference_magnitude) where
  sum-within : (a : Sum) → OneWithin (value_s scale g a) (magnitude scale a)
  sum-within (tree.literal d k) = record { amount = le_refl k; decimals = refl }
  sum-within tree.instance = record { amount = omega arith; decimals = refl }
  sum-within (tree.reference r) = record { amount = n r; decimals = refl }
  sum-within (tree.arithmetic o a b) = computed-within o (value_s scale g a) (value_s scale g b) (magnitude scale a) (magnitude scale b) (sum-within a) (sum-within b)
  sum-within (tree.abs a) = let q = sum-within a in record { amount = q.amount; decimals = q.decimals }

  pub value-within : (a : Sum) → (nat_abs (value_s scale g a).amount ≤ (magnitude scale a).amount) × ((value_s scale g a).decimals ≡ decimals scale a)
  value-within a = let q = sum-within a in (q.amount, q.decimals)

-- ---- a step of the pass
module _ (scale : ℕ) (x : Frame) (i mark : ℕ) (note : ℤ) (h : i ≤ instance_limit) (g : nat_abs note ≤ reference_magnitude) (p : Pass) where
  within-operand : (s : Source) (ms : List (Term ℕ)) → EachWithin p.sums ms → WithinIn (operand_by scale s x i mark note p).sums (pushed (operand_size scale s x) ms)
  within-operand literal ms k = within_push (term x.value x.event) (term (nat_abs x.value) x.event) p.sums ms (record { amount = le_refl (nat_abs x.value); decimals = refl }) k
  within-operand instance ms k = within_push (term (pos i) 0) (term instance_magnitude 0) p.sums ms (record { amount = omega arith; decimals = refl }) k
  within-operand reference ms k = within_push (term note scale) (term reference_magnitude scale) p.sums ms (record { amount = g; decimals = refl }) k

  within_by : (o : Kind) (ms : List (Term ℕ)) → EachWithin p.sums ms → WithinIn (pass_by scale o x i mark note p).sums (sizes_after scale o x ms)
  within_by (operand s) ms k = within-operand s ms k
  within_by (arithmetic o) ms k = within-two (computed o) (grown o) (computed-within o) p.sums ms k
  within_by absolute ms k = within-one p.sums ms k
  within_by (relation r) ms k = within_none ms
  within_by negation ms k = k
  within_by (connective j) ms k = k
  within_by none ms k = k

  within-next : (z : Sizes) → WithinIn p.sums z → WithinIn (pass_by scale (kind_of x.kind) x i mark note p).sums (size_next scale x z)
  within-next (fits ms) k = within_by (kind_of x.kind) ms k
  within-next over k = tt

-- ---- so the values are small, and as many as the sums
small_by : (vs : List (Term ℤ)) (ms : List (Term ℕ)) → EachWithin vs ms → Bounded ms → Small vs
small_by [] ms k b = tt
small_by (v ∷ vs) [] k b = absurd k
small_by (v ∷ vs) (m ∷ ms) k b = (le_trans k.0.amount b.0, small_by vs ms k.1 b.1)

small_in : (vs : List (Term ℤ)) (z : Sizes) → is_fits z ≡ true → WithinIn vs z → BoundedIn z → Small vs
small_in vs (fits ms) e k b = small_by vs ms k b
small_in vs over e k b = absurd (true-false (sym e))

within-length : (vs : List (Term ℤ)) (ms : List (Term ℕ)) → EachWithin vs ms → length vs ≡ length ms
within-length [] [] k = refl
within-length [] (m ∷ ms) k = absurd k
within-length (v ∷ vs) [] k = absurd k
within-length (v ∷ vs) (m ∷ ms) k = ap suc (within-length vs ms k.1)

within-decimals : (vs : List (Term ℤ)) (ms : List (Term ℕ)) → EachWithin vs ms → all_decimals vs ≡ all_decimals ms
within-decimals [] [] k = refl
within-decimals [] (m ∷ ms) k = absurd k
within-decimals (v ∷ vs) [] k = absurd k
within-decimals (v ∷ vs) (m ∷ ms) k = rw (k.0.decimals, within-decimals vs ms k.1)

-- the sides of a frame that brings them are small, where what it leaves fits
sides-of : (b a : Term ℕ) (ms : List (Term ℕ)) (vs : List (Term ℤ)) → EachWithin vs (b ∷ (a ∷ ms)) → left_side ◌*◌ a b ≤ magnitude_limit → right_side ◌*◌ a b ≤ magnitude_limit → SmallSides vs
sides-of b a ms [] k h g = absurd k
sides-of b a ms (v ∷ []) k h g = absurd k.1
sides-of b a ms (v ∷ (u ∷ vs)) k h g = (le_trans (left-within u v a b k.1.0 k.0) h, le_trans (right-within u v a b k.1.0 k.0) g)

sums-fit : (vs : List (Term ℤ)) (ms : List (Term ℕ)) → EachWithin vs ms → is_fits (topped (grown add) ms) ≡ true → SmallSides vs
sums-fit [] ms k e = tt
sums-fit (v ∷ []) ms k e = tt
sums-fit (v ∷ (u ∷ vs)) [] k e = absurd k
sums-fit (v ∷ (u ∷ vs)) (b ∷ []) k e = absurd k.1
sums-fit (v ∷ (u ∷ vs)) (b ∷ (a ∷ ms)) k e = go (leb (grown add a b).amount magnitude_limit) refl e
  where
    go : (t : Bool) → leb (grown add a b).amount magnitude_limit ≡ t → is_fits (cond t (fits (grown add a b ∷ ms)) over) ≡ true → SmallSides (v ∷ (u ∷ vs))
    go true w f = let l : left_side ◌*◌ a b + right_side ◌*◌ a b ≤ magnitude_limit = leb-true _ _ w in sides-of b a ms (v ∷ (u ∷ vs)) k (omega arith) (omega arith)
    go false w f = absurd (true-false (sym f))

relations_fit : (vs : List (Term ℤ)) (ms : List (Term ℕ)) → EachWithin vs ms → is_fits (compared ms) ≡ true → SmallSides vs
relations_fit [] ms k e = tt
relations_fit (v ∷ []) ms k e = tt
relations_fit (v ∷ (u ∷ vs)) [] k e = absurd k
relations_fit (v ∷ (u ∷ vs)) (b ∷ []) k e = absurd k.1
relations_fit (v ∷ (u ∷ vs)) (b ∷ (a ∷ ms)) k e = go (sides_fit a b) refl e
  where
    go : (t : Bool) → sides_fit a b ≡ t → is_fits (cond t (fits []) over) ≡ true → SmallSides (v ∷ (u ∷ vs))
    go true w f =
        let q = and-true (leb (left_side ◌*◌ a b) magnitude_limit) (leb (right_side ◌*◌ a b) magnitude_limit) w in
        sides-of b a ms (v ∷ (u ∷ vs)) k (leb-true _ _ q.0) (leb-true _ _ q.1)
    go false w f = absurd (true-false (sym f))

sides-by : (scale : ℕ) (o : Kind) (x : Frame) (vs : List (Term ℤ)) (ms : List (Term ℕ)) → EachWithin vs ms → is_fits (sizes_after scale o x ms) ≡ true → SidesFor o vs
sides-by scale (operand s) x vs ms k e = tt
sides-by scale (arithmetic add) x vs ms k e = sums-fit vs ms k e
sides-by scale (arithmetic subtract) x vs ms k e = sums-fit vs ms k e
sides-by scale (arithmetic multiply) x vs ms k e = tt
sides-by scale absolute x vs ms k e = tt
sides-by scale (relation r) x vs ms k e = relations_fit vs ms k e
sides-by scale negation x vs ms k e = tt
sides-by scale (connective j) x vs ms k e = tt
sides-by scale none x vs ms k e = tt

sides_in : (scale : ℕ) (x : Frame) (vs : List (Term ℤ)) (z : Sizes) → WithinIn vs z → is_fits (size_next scale x z) ≡ true → SidesFor (kind_of x.kind) vs
sides_in scale x vs (fits ms) k e = sides-by scale (kind_of x.kind) x vs ms k e
sides_in scale x vs over k e = absurd (true-false (sym e))

module _ (most scale : ℕ) (s : List ℕ) where
  length_in : (k : ℕ) (vs : List (Term ℤ)) (z : Sizes) → size_at scale s k ≡ z → is_fits z ≡ true → Live (prefix_at most s k) → WithinIn vs z → length vs ≡ sums_of (prefix_at most s k)
  length_in k vs (fits ms) e f l w = within-length vs ms w ∙ sizes-length most scale s k ms l e
  length_in k vs over e f l w = absurd (true-false (sym f))

  decimals_in : (k : ℕ) (vs : List (Term ℤ)) (z : Sizes) → most ≤ decimal_limit → scale ≤ decimal_limit → k ≤ frame_count s → InOrder most s → size_at scale s k ≡ z → is_fits z ≡ true → WithinIn vs z → all_decimals vs ≤ decimal_limit * k
  decimals_in k vs (fits ms) p q h g e f w = rw (within-decimals vs ms w) (few-decimals most scale p q s k ms h g e)
  decimals_in k vs over p q h g e f w = absurd (true-false (sym f))

  module _ (i : ℕ) (marks : List ℕ) (notes : List ℤ) (k : ℕ) where
    abbrev sums_at : List (Term ℤ)
    sums_at = (pass_at scale s i marks notes k).sums

    pub sums-length : k ≤ frame_count s → sizes_fit scale s ≡ true → InOrder most s → WithinIn sums_at (size_at scale s k) → length sums_at ≡ sums_of (prefix_at most s k)
    sums-length h f g w = length_in k sums_at (size_at scale s k) refl (fits-at scale s k h f) (live most s k h g) w

    pub decimals-at : most ≤ decimal_limit → scale ≤ decimal_limit → k ≤ frame_count s → sizes_fit scale s ≡ true → InOrder most s → WithinIn sums_at (size_at scale s k) → all_decimals sums_at ≤ decimal_limit * k
    decimals-at p q h f g w = decimals_in k sums_at (size_at scale s k) p q h g refl (fits-at scale s k h f) w

module _ (scale : ℕ) (s : List ℕ) (i : ℕ) (marks : List ℕ) (notes : List ℤ) (k : ℕ) where
  abbrev pub InSizes : Type 0
  InSizes = WithinIn (pass_at scale s i marks notes k).sums (size_at scale s k)

  pub sizes-next : i ≤ instance_limit → nat_abs (get_or notes k (pos 0)) ≤ reference_magnitude → InSizes
      → WithinIn (pass_at scale s i marks notes (suc k)).sums (size_at scale s (suc k))
  sizes-next h g w = within-next scale (frame_at s k) i (get_or marks k 0) (get_or notes k (pos 0)) h g (pass_at scale s i marks notes k) (size_at scale s k) w

  pub small_at : k ≤ frame_count s → sizes_fit scale s ≡ true → InSizes → Small (pass_at scale s i marks notes k).sums
  small_at h f w = small_in (pass_at scale s i marks notes k).sums (size_at scale s k) (fits-at scale s k h f) w (sizes_in scale s k)

  pub sides-at : k < frame_count s → sizes_fit scale s ≡ true → InSizes → SidesFor (kind_of (frame_at s k).kind) (pass_at scale s i marks notes k).sums
  sides-at h f w = sides_in scale (frame_at s k) (pass_at scale s i marks notes k).sums (size_at scale s k) w (fits-at scale s (suc k) h f)

-- ---- as many truth values as conditions
abbrev SameC : Prefix → List Truth → Type 0
SameC (stuck p) cs = Unit {0}
SameC (viable c k) cs = length cs ≡ c

same_cond : (i : ℕ) (t : Bool) (h : Option Shape) (cs : List Truth) → (T t → SameC (order_at i h) cs) → SameC (order_at i (cond t h None)) cs
same_cond i true h cs f = f tt
same_cond i false h cs f = tt

module _ (scale : ℕ) (x : Frame) (i mark : ℕ) (note : ℤ) (p : Pass) (at c k : ℕ) (h : length p.conds ≡ c) where
  same_operand : (s : Source) → length (operand_by scale s x i mark note p).conds ≡ c
  same_operand literal = h
  same_operand instance = h
  same_operand reference = h

  same_by : (o : Kind) → SameC (order_at at (step_by o c k)) (pass_by scale o x i mark note p).conds
  same_by (operand s) = same_cond at (leb 0 k) (good c (k - 0 + 1)) (operand_by scale s x i mark note p).conds (λ t. same_operand s)
  same_by (arithmetic o) = same_cond at (leb 2 k) (good c (k - 2 + 1)) p.conds (λ t. h)
  same_by absolute = same_cond at (leb 1 k) (good c (k - 1 + 1)) p.conds (λ t. h)
  same_by (relation r) = same_cond at (eqb k 2) (good (c + 1) 0) (pass_by scale (relation r) x i mark note p).conds (λ t. omega arith)
  same_by negation =
      same_cond at (leb 1 c && eqb k 0) (good (c - 1 + 1) 0) (top1 not_k p.conds)
      (λ t. length-one not_k p.conds c (leb→le 1 c (and_l (leb 1 c) (eqb k 0) t)) h)
  same_by (connective j) =
      same_cond at (leb 2 c && eqb k 0) (good (c - 2 + 1) 0) (top2 (connected j) p.conds)
      (λ t. length_two (connected j) p.conds c (leb→le 2 c (and_l (leb 2 c) (eqb k 0) t)) h)
  same_by none = tt

same_next : (most scale i mark : ℕ) (note : ℤ) (p : Pass) (at : ℕ) (x : Frame) (z : Prefix) → SameC z p.conds
    → SameC (order_next most at x z) (pass_by scale (kind_of x.kind) x i mark note p).conds
same_next most scale i mark note p at x (viable c k) h =
    same_cond at (fields_of most (kind_of x.kind) x) (step_by (kind_of x.kind) c k) (pass_by scale (kind_of x.kind) x i mark note p).conds
    (λ t. same_by scale x i mark note p at c k h (kind_of x.kind))
same_next most scale i mark note p at x (stuck q) h = tt

same_out : (z : Prefix) (cs : List Truth) → Live z → SameC z cs → length cs ≡ conds_of z
same_out (viable c k) cs l h = h
same_out (stuck q) cs l h = absurd l

module _ (most scale : ℕ) (s : List ℕ) (i : ℕ) (marks : List ℕ) (notes : List ℤ) where
  same_at : (k : ℕ) → SameC (prefix_at most s k) (pass_at scale s i marks notes k).conds
  same_at zero = refl
  same_at (suc k) = same_next most scale i (get_or marks k 0) (get_or notes k (pos 0)) (pass_at scale s i marks notes k) k (frame_at s k) (prefix_at most s k) (same_at k)

  pub conds-length : (k : ℕ) → k ≤ frame_count s → InOrder most s → length (pass_at scale s i marks notes k).conds ≡ conds_of (prefix_at most s k)
  conds-length k h g = same_out (prefix_at most s k) (pass_at scale s i marks notes k).conds (live most s k h g) (same_at k)
