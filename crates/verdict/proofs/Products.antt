-- Laws of the integers' product: over sums, and in any order. Assumes nothing.
use mathlib.Core.Path.{◌≡◌, refl, sym, ap, ◌∙◌}
use Prim.Native.Nat.{zero, suc, ◌*◌}
use lib.IntN.{ℤ, pos, negsuc, neg_ℤ, suc_ℤ, pred_ℤ, ◌+ℤ◌, ◌-ℤ◌, ◌*ℤ◌}
use lib.IntN.{neg_ℤ-neg_ℤ, +ℤ_idr, +ℤ_assoc, +ℤ-suc_ℤ, +ℤ-pred_ℤ, zero-*ℤ, suc_ℤ-*ℤ, pred_ℤ-*ℤ, *ℤ_comm}

pub neg_mul : (a b : ℤ) → neg_ℤ a *ℤ b ≡ neg_ℤ (a *ℤ b)
neg_mul (pos zero) b = zero-*ℤ b ∙ sym (ap neg_ℤ (zero-*ℤ b))
neg_mul (pos (suc a)) (pos b) = refl
neg_mul (pos (suc a)) (negsuc b) = sym (neg_ℤ-neg_ℤ (pos (suc a * suc b)))
neg_mul (negsuc a) (pos b) = sym (neg_ℤ-neg_ℤ (pos (suc a * b)))
neg_mul (negsuc a) (negsuc b) = refl

-- ---- a product of a sum, by steps of one
add_mul_suc : (a b c : ℤ) → (a +ℤ b) *ℤ c ≡ a *ℤ c +ℤ b *ℤ c → (a +ℤ suc_ℤ b) *ℤ c ≡ a *ℤ c +ℤ suc_ℤ b *ℤ c
add_mul_suc a b c e =
    ap (λ x. x *ℤ c) (+ℤ-suc_ℤ a b) ∙ suc_ℤ-*ℤ (a +ℤ b) c ∙ ap (λ x. x +ℤ c) e ∙ +ℤ_assoc (a *ℤ c) (b *ℤ c) c
    ∙ ap (λ x. a *ℤ c +ℤ x) (sym (suc_ℤ-*ℤ b c))

add_mul_pred : (a b c : ℤ) → (a +ℤ b) *ℤ c ≡ a *ℤ c +ℤ b *ℤ c → (a +ℤ pred_ℤ b) *ℤ c ≡ a *ℤ c +ℤ pred_ℤ b *ℤ c
add_mul_pred a b c e =
    ap (λ x. x *ℤ c) (+ℤ-pred_ℤ a b) ∙ pred_ℤ-*ℤ (a +ℤ b) c ∙ ap (λ x. x -ℤ c) e ∙ +ℤ_assoc (a *ℤ c) (b *ℤ c) (neg_ℤ c)
    ∙ ap (λ x. a *ℤ c +ℤ x) (sym (pred_ℤ-*ℤ b c))

add_mul_zero : (a c : ℤ) → (a +ℤ pos 0) *ℤ c ≡ a *ℤ c +ℤ pos 0 *ℤ c
add_mul_zero a c = ap (λ x. x *ℤ c) (+ℤ_idr a) ∙ sym (ap (λ x. a *ℤ c +ℤ x) (zero-*ℤ c) ∙ +ℤ_idr (a *ℤ c))

pub add_mul : (a b c : ℤ) → (a +ℤ b) *ℤ c ≡ a *ℤ c +ℤ b *ℤ c
add_mul a (pos zero) c = add_mul_zero a c
add_mul a (pos (suc n)) c = add_mul_suc a (pos n) c (add_mul a (pos n) c)
add_mul a (negsuc zero) c = add_mul_pred a (pos 0) c (add_mul_zero a c)
add_mul a (negsuc (suc n)) c = add_mul_pred a (negsuc n) c (add_mul a (negsuc n) c)

pub sub_mul : (a b c : ℤ) → (a -ℤ b) *ℤ c ≡ a *ℤ c -ℤ b *ℤ c
sub_mul a b c = add_mul a (neg_ℤ b) c ∙ ap (λ x. a *ℤ c +ℤ x) (neg_mul b c)

-- ---- products in any order
assoc_suc : (a b c : ℤ) → a *ℤ b *ℤ c ≡ a *ℤ (b *ℤ c) → suc_ℤ a *ℤ b *ℤ c ≡ suc_ℤ a *ℤ (b *ℤ c)
assoc_suc a b c e =
    ap (λ x. x *ℤ c) (suc_ℤ-*ℤ a b) ∙ add_mul (a *ℤ b) b c ∙ ap (λ x. x +ℤ b *ℤ c) e ∙ sym (suc_ℤ-*ℤ a (b *ℤ c))

assoc_pred : (a b c : ℤ) → a *ℤ b *ℤ c ≡ a *ℤ (b *ℤ c) → pred_ℤ a *ℤ b *ℤ c ≡ pred_ℤ a *ℤ (b *ℤ c)
assoc_pred a b c e =
    ap (λ x. x *ℤ c) (pred_ℤ-*ℤ a b) ∙ sub_mul (a *ℤ b) b c ∙ ap (λ x. x -ℤ b *ℤ c) e ∙ sym (pred_ℤ-*ℤ a (b *ℤ c))

assoc_zero : (b c : ℤ) → pos 0 *ℤ b *ℤ c ≡ pos 0 *ℤ (b *ℤ c)
assoc_zero b c = ap (λ x. x *ℤ c) (zero-*ℤ b) ∙ zero-*ℤ c ∙ sym (zero-*ℤ (b *ℤ c))

pub mul_assoc : (a b c : ℤ) → a *ℤ b *ℤ c ≡ a *ℤ (b *ℤ c)
mul_assoc (pos zero) b c = assoc_zero b c
mul_assoc (pos (suc n)) b c = assoc_suc (pos n) b c (mul_assoc (pos n) b c)
mul_assoc (negsuc zero) b c = assoc_pred (pos 0) b c (assoc_zero b c)
mul_assoc (negsuc (suc n)) b c = assoc_pred (negsuc n) b c (mul_assoc (negsuc n) b c)

-- the last two factors change places
pub mul_swap : (a b c : ℤ) → a *ℤ b *ℤ c ≡ a *ℤ c *ℤ b
mul_swap a b c = mul_assoc a b c ∙ ap (λ x. a *ℤ x) (*ℤ_comm b c) ∙ sym (mul_assoc a c b)

-- the inner two of four
pub mul_four : (a b c d : ℤ) → a *ℤ b *ℤ (c *ℤ d) ≡ a *ℤ c *ℤ (b *ℤ d)
mul_four a b c d = sym (mul_assoc (a *ℤ b) c d) ∙ ap (λ x. x *ℤ d) (mul_swap a b c) ∙ mul_assoc (a *ℤ c) b d
