-- The value of a condition is that of the rational numbers which its notes, its literals and i stand for. Assumes nothing.
use mathlib.Core.Path.{◌≡◌, refl, sym, ap, ap₂, ◌∙◌}
use mathlib.Core.Bool.{Bool, true, cond}
use mathlib.Core.List.{◌++◌}
use Prim.Native.Nat.{ℕ, zero, suc, ◌-◌, ◌*◌, ◌^◌, ◌≤◌, ◌<◌}
use native.Mathlib.Nat.{le-max_left, le-max_right, mul_comm}
use native.Mathlib.Omega.{arith}
use lib.Pow.{pow-add}
use borrow.Author.Tests.{eq-eqb}
use lib.IntN.{ℤ, pos, negsuc, nat_abs, ◌+ℤ◌, ◌-ℤ◌, ◌*ℤ◌}
use Rattle.rule.specs.Frames.{Arithmetic, add, subtract, multiply, Relation, equal}
use Rattle.rule.specs.Tree.{Sum, literal, instance, reference, arithmetic, abs, Cond, relation, connective, references_s}
use Rattle.rule.specs.Decimals.{Term, term, greater, brought}
use Rattle.verdict.specs.Found.{Given, is_missing, some_of}
use Rattle.verdict.specs.Kleene.{not_k, connected, truth}
use Rattle.verdict.specs.Value.{times_z, computed, size_of, note_of, eq_z, holds, compared, value_s, value_c}
use Rattle.verdict.specs.Rational.{Fraction, fraction, crossed, computed_q, size_q, compared_q, value_q, truth_q}
use Rattle.verdict.specs.declared.Truth.TheVariants.{Unknown}
use Rattle.verdict.proofs.Products.{add_mul, sub_mul, mul_assoc, mul_swap, mul_four}
use Rattle.verdict.proofs.Numbers.{nat_abs_times}
use Rattle.verdict.proofs.Scaling.{holds-scaled}

-- a term stands for a fraction: the same number, by cross multiplication
pub record Stands (x : Term ℤ) (p : Fraction) : Type 0 where
  pub above : 0 < p.bottom
  pub same : times_z x.amount p.bottom ≡ times_z p.top (10 ^ x.decimals)

ten-above : (d : ℕ) → 0 < 10 ^ d
ten-above zero = omega arith
ten-above (suc d) = omega (arith, ten-above d)

mul_above : (m n : ℕ) → 0 < m → 0 < n → 0 < m * n
mul_above zero n h k = absurd (omega arith)
mul_above (suc m) zero h k = absurd (omega arith)
mul_above (suc m) (suc n) h k = omega arith

-- what a term stands for
fraction-stands : (x : Term ℤ) → Stands x (fraction x)
fraction-stands x = record { above = ten-above x.decimals; same = refl }

-- brought to a count that is not less, a term stands for the same
ten_up : (c d : ℕ) → c ≤ d → 10 ^ c * 10 ^ (d - c) ≡ 10 ^ d
ten_up c d h = sym (pow-add 10 c (d - c)) ∙ ap (λ (e : ℕ). 10 ^ e) (omega arith)

brought-stands : (x : Term ℤ) (p : Fraction) (d : ℕ) → x.decimals ≤ d → Stands x p → Stands (term (brought times_z d x) d) p
brought-stands x p d h s = record {
  above = s.above;
  same =
      mul_swap x.amount (pos (10 ^ (d - x.decimals))) (pos p.bottom) ∙ ap (λ z. times_z z (10 ^ (d - x.decimals))) s.same
      ∙ mul_assoc p.top (pos (10 ^ x.decimals)) (pos (10 ^ (d - x.decimals))) ∙ ap (times_z p.top) (ten_up x.decimals d h);
}

-- ---- of terms with one count
module _ (a b : ℤ) (d : ℕ) (p q : Fraction) (s : Stands (term a d) p) (t : Stands (term b d) q) where
  abbrev both : ℕ
  both = p.bottom * q.bottom

  both-above : 0 < both
  both-above = mul_above p.bottom q.bottom s.above t.above

  -- each side, by both bottoms
  left_by : times_z a both ≡ times_z (crossed p q) (10 ^ d)
  left_by =
      sym (mul_assoc a (pos p.bottom) (pos q.bottom)) ∙ ap (λ z. times_z z q.bottom) s.same
      ∙ mul_swap p.top (pos (10 ^ d)) (pos q.bottom)

  right_by : times_z b both ≡ times_z (crossed q p) (10 ^ d)
  right_by =
      ap (times_z b) (mul_comm p.bottom q.bottom) ∙ sym (mul_assoc b (pos q.bottom) (pos p.bottom))
      ∙ ap (λ z. times_z z p.bottom) t.same ∙ mul_swap q.top (pos (10 ^ d)) (pos p.bottom)

  add-stands : Stands (term (a +ℤ b) d) (computed_q add p q)
  add-stands = record {
    above = both-above;
    same = add_mul a b (pos both) ∙ ap₂ ◌+ℤ◌ left_by right_by ∙ sym (add_mul (crossed p q) (crossed q p) (pos (10 ^ d)));
  }

  subtract_stands : Stands (term (a -ℤ b) d) (computed_q subtract p q)
  subtract_stands = record {
    above = both-above;
    same = sub_mul a b (pos both) ∙ ap₂ ◌-ℤ◌ left_by right_by ∙ sym (sub_mul (crossed p q) (crossed q p) (pos (10 ^ d)));
  }

  holds-stands : (r : Relation) → holds r a b ≡ compared_q r p q
  holds-stands r =
      sym (holds-scaled r a b both both-above) ∙ ap₂ (holds r) left_by right_by
      ∙ holds-scaled r (crossed p q) (crossed q p) (10 ^ d) (ten-above d)

-- ---- of any two terms
module _ (x y : Term ℤ) (p q : Fraction) (s : Stands x p) (t : Stands y q) where
  left-stands : Stands (term (brought times_z (greater x y) x) (greater x y)) p
  left-stands = brought-stands x p (greater x y) (le-max_left x.decimals y.decimals) s

  right-stands : Stands (term (brought times_z (greater x y) y) (greater x y)) q
  right-stands = brought-stands y q (greater x y) (le-max_right x.decimals y.decimals) t

  multiply-stands : Stands (computed multiply x y) (computed_q multiply p q)
  multiply-stands = record {
    above = mul_above p.bottom q.bottom s.above t.above;
    same =
        mul_four x.amount y.amount (pos p.bottom) (pos q.bottom) ∙ ap₂ ◌*ℤ◌ s.same t.same
        ∙ mul_four p.top (pos (10 ^ x.decimals)) q.top (pos (10 ^ y.decimals))
        ∙ ap (times_z (p.top *ℤ q.top)) (sym (pow-add 10 x.decimals y.decimals));
  }

  -- a relation of terms is that of the fractions
  pub compared-exact : (r : Relation) → compared r x y ≡ compared_q r p q
  compared-exact r =
      holds-stands (brought times_z (greater x y) x) (brought times_z (greater x y) y) (greater x y) p q left-stands right-stands r

computed-stands : (o : Arithmetic) (x y : Term ℤ) (p q : Fraction) → Stands x p → Stands y q → Stands (computed o x y) (computed_q o p q)
computed-stands add x y p q s t =
    add-stands (brought times_z (greater x y) x) (brought times_z (greater x y) y) (greater x y) p q (left-stands x y p q s t) (right-stands x y p q s t)
computed-stands subtract x y p q s t =
    subtract_stands (brought times_z (greater x y) x) (brought times_z (greater x y) y) (greater x y) p q (left-stands x y p q s t) (right-stands x y p q s t)
computed-stands multiply x y p q s t = multiply-stands x y p q s t

size_stands : (x : Term ℤ) (p : Fraction) → Stands x p → Stands (size_of x) (size_q p)
size_stands x p s = record {
  above = s.above;
  same =
      ap pos (sym (nat_abs_times x.amount p.bottom)) ∙ ap (λ z. pos (nat_abs z)) s.same
      ∙ ap pos (nat_abs_times p.top (10 ^ x.decimals));
}

-- ---- of sums and conditions
same-eq_z : (z : ℤ) → eq_z z z ≡ true
same-eq_z (pos n) = eq-eqb n n refl
same-eq_z (negsuc n) = eq-eqb n n refl

module _ (k : ℕ) (g : Given) where
  -- a sum's value stands for its rational number
  pub value-stands : (a : Sum) → Stands (value_s k g a) (value_q k g a)
  value-stands (literal d n) = fraction-stands (term (pos n) d)
  value-stands instance = fraction-stands (term (pos g.instance) 0)
  value-stands (reference r) = fraction-stands (term (note_of (g.found r)) k)
  value-stands (arithmetic o a b) =
      computed-stands o (value_s k g a) (value_s k g b) (value_q k g a) (value_q k g b) (value-stands a) (value-stands b)
  value-stands (abs a) = size_stands (value_s k g a) (value_q k g a) (value-stands a)

  -- that is, the two are equal
  pub sum-exact : (a : Sum) → compared_q equal (fraction (value_s k g a)) (value_q k g a) ≡ true
  sum-exact a = ap (λ z. eq_z z (crossed (value_q k g a) (fraction (value_s k g a)))) (value-stands a).same ∙ same-eq_z (crossed (value_q k g a) (fraction (value_s k g a)))

  -- bringing to one count changes no verdict
  pub scale-exact : (t : Cond) → value_c k g t ≡ truth_q k g t
  scale-exact (relation r a b) =
      ap (λ (u : Bool). cond (some_of is_missing g.found (references_s a ++ references_s b)) Unknown (truth u))
      (compared-exact (value_s k g a) (value_s k g b) (value_q k g a) (value_q k g b) (value-stands a) (value-stands b) r)
  scale-exact (Cond.not p) = ap not_k (scale-exact p)
  scale-exact (connective j p q) = ap₂ (connected j) (scale-exact p) (scale-exact q)
