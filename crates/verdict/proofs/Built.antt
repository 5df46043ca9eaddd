-- The trees that frames in order build: as many sums and conditions as refusal 10's pass counts. Assumes nothing.
use mathlib.Core.Path.{◌≡◌, refl, ◌∙◌}
use mathlib.Core.Bool.{Bool, true, false, ◌&&◌, cond}
use mathlib.Core.List.{List, [], ◌∷◌}
use Prim.Native.Nat.{ℕ, zero, suc, ◌+◌, ◌-◌, ◌≤◌}
use native.Mathlib.Omega.{arith}
use lib.Dec.{T, leb, eqb, leb→le, eqb→eq}
use lib.ListN.{length}
use Rattle.numbers.proofs.Bools.{and_l, and_r}
use Rattle.rule.specs.Frames.{Relation, Kind, operand, absolute, negation, none, kind_of, frame_at, fields_of}
use Rattle.rule.specs.Tree.{Sum, arithmetic, abs, Cond, connective}
use Rattle.std.specs.Prelude.{Option, None}
use Rattle.rule.specs.Order.{step_by, Prefix, viable, stuck, order_at, order_next, prefix_at}
use Rattle.rule.specs.Build.{Trees, trees, top1, top2, related, built_by, built, trees_at}
use Rattle.rule.specs.declared.Frame.{Frame}
use Rattle.rule.specs.declared.order.Shape.{Shape}

abbrev pub AsMany : Prefix → Trees → Type 0
AsMany (stuck p) z = Unit {0}
AsMany (viable c k) (trees cs ss) = (length cs ≡ c) × (length ss ≡ k)

many-cond : (i : ℕ) (t : Bool) (h : Option Shape) (z : Trees) → (T t → AsMany (order_at i h) z) → AsMany (order_at i (cond t h None)) z
many-cond i true h z f = f tt
many-cond i false h z f = tt

module _ {A : Type 0} where
  pub length-one : (f : A → A) (l : List A) (n : ℕ) → 1 ≤ n → length l ≡ n → length (top1 f l) ≡ n - 1 + 1
  length-one f [] n h e = absurd (omega arith)
  length-one f (a ∷ l) n h e = omega arith

  pub length_two : (f : A → A → A) (l : List A) (n : ℕ) → 2 ≤ n → length l ≡ n → length (top2 f l) ≡ n - 2 + 1
  length_two f [] n h e = absurd (omega arith)
  length_two f (b ∷ []) n h e = absurd (omega arith)
  length_two f (b ∷ (a ∷ l)) n h e = omega arith

many-related : (i : ℕ) (r : Relation) (c : ℕ) (cs : List Cond) (ss : List Sum) → length cs ≡ c → length ss ≡ 2 → AsMany (viable (c + 1) 0) (related r cs ss)
many-related i r c cs [] h g = absurd (omega arith)
many-related i r c cs (b ∷ []) h g = absurd (omega arith)
many-related i r c cs (b ∷ (a ∷ [])) h g = (omega arith, refl)
many-related i r c cs (b ∷ (a ∷ (d ∷ ss))) h g = absurd (omega arith)

module _ (i c k : ℕ) (x : Frame) (cs : List Cond) (ss : List Sum) (h : length cs ≡ c) (g : length ss ≡ k) where
  many_by : (o : Kind) → AsMany (order_at i (step_by o c k)) (built_by o x cs ss)
  many_by (operand s) = many-cond i (leb 0 k) _ _ (λ t. (h, omega arith))
  many_by (Kind.arithmetic o) = many-cond i (leb 2 k) _ _ (λ t. (h, length_two (arithmetic o) ss k (leb→le 2 k t) g))
  many_by absolute = many-cond i (leb 1 k) _ _ (λ t. (h, length-one abs ss k (leb→le 1 k t) g))
  many_by (Kind.relation r) = many-cond i (eqb k 2) _ _ (λ t. many-related i r c cs ss h (g ∙ eqb→eq k 2 t))
  many_by negation =
      many-cond i (leb 1 c && eqb k 0) _ _
      (λ t. (length-one Cond.not cs c (leb→le 1 c (and_l (leb 1 c) (eqb k 0) t)) h, g ∙ eqb→eq k 0 (and_r (leb 1 c) (eqb k 0) t)))
  many_by (Kind.connective j) =
      many-cond i (leb 2 c && eqb k 0) _ _
      (λ t. (length_two (connective j) cs c (leb→le 2 c (and_l (leb 2 c) (eqb k 0) t)) h, g ∙ eqb→eq k 0 (and_r (leb 2 c) (eqb k 0) t)))
  many_by none = tt

module _ (most : ℕ) where
  many-next : (i : ℕ) (x : Frame) (p : Prefix) (z : Trees) → AsMany p z → AsMany (order_next most i x p) (built x z)
  many-next i x (stuck q) z h = tt
  many-next i x (viable c k) (trees cs ss) h =
      many-cond i (fields_of most (kind_of x.kind) x) (step_by (kind_of x.kind) c k) (built_by (kind_of x.kind) x cs ss)
      (λ t. many_by i c k x cs ss h.0 h.1 (kind_of x.kind))

  pub as_many : (s : List ℕ) (k : ℕ) → AsMany (prefix_at most s k) (trees_at s k)
  as_many s zero = (refl, refl)
  as_many s (suc k) = many-next k (frame_at s k) (prefix_at most s k) (trees_at s k) (as_many s k)
