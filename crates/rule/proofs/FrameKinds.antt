-- Laws of kinds: which bytes have which. Assumes nothing.
use mathlib.Core.Path.{◌≡◌, refl, ap, ◌∙◌}
use mathlib.Core.Logic.{◌⊎◌, inl, inr}
use mathlib.Core.Bool.{Bool, true, false, cond}
use mathlib.Core.List.{List, [], ◌∷◌}
use Prim.Native.Nat.{ℕ, ◌+◌, ◌≤◌, ◌<◌}
use native.Mathlib.Decide.{ℕ_discrete}
use native.Mathlib.Omega.{arith}
use lib.Dec.{T, eqb}
use borrow.Author.Tests.{eqb-true}
use Rattle.numbers.proofs.Ranges.{each, all_from, tested}
use Rattle.rule.specs.Frames.{literal, instance, reference, add, subtract, multiply, equal, unequal, less, at_most, more, at_least, and, or, implies, Kind, operand, arithmetic, absolute, relation, negation, connective, none, kind_byte, kinds, kind_in, kind_of, arithmetic_at, relation_at, connective_at, fields_of, bare_fields}
use Rattle.rule.specs.declared.Frame.{Frame}

-- ---- the byte of a kind has that kind
pub kind-byte : (k : Kind) → kind_of (kind_byte k) ≡ k
unfolding kind_of
kind-byte (operand literal) = refl
kind-byte (operand instance) = refl
kind-byte (operand reference) = refl
kind-byte (arithmetic add) = refl
kind-byte (arithmetic subtract) = refl
kind-byte (arithmetic multiply) = refl
kind-byte absolute = refl
kind-byte (relation equal) = refl
kind-byte (relation unequal) = refl
kind-byte (relation less) = refl
kind-byte (relation at_most) = refl
kind-byte (relation more) = refl
kind-byte (relation at_least) = refl
kind-byte negation = refl
kind-byte (connective and) = refl
kind-byte (connective or) = refl
kind-byte (connective implies) = refl
kind-byte none = refl

pub kind_at : (k : Kind) (b : ℕ) → b ≡ kind_byte k → kind_of b ≡ k
kind_at k b e = ap kind_of e ∙ kind-byte k

-- ---- and no other byte has it
first_of : (t : Bool) (k r : Kind) (b : ℕ) → eqb b (kind_byte k) ≡ t → (r ≡ none) ⊎ (b ≡ kind_byte r) → (cond t k r ≡ none) ⊎ (b ≡ kind_byte (cond t k r))
first_of true k r b e h = inr (eqb-true b (kind_byte k) e)
first_of false k r b e h = h

byte_in_lem : (ks : List Kind) (b : ℕ) → (kind_in ks b ≡ none) ⊎ (b ≡ kind_byte (kind_in ks b))
byte_in_lem [] b = inl refl
byte_in_lem (k ∷ ks) b = first_of (eqb b (kind_byte k)) k (kind_in ks b) b refl (byte_in_lem ks b)

pub byte-kind : (b : ℕ) → (kind_of b ≡ none) ⊎ (b ≡ kind_byte (kind_of b))
unfolding kind_of
byte-kind b = byte_in_lem kinds b

-- ---- ranges of bytes
module _ (P : Kind → Type 0) (b : ℕ) where
  pub sum-range : 17 ≤ b → b < 19 → P (arithmetic add) → P (arithmetic subtract) → P (kind_of b)
  unfolding kind_of
  sum-range h k p q = each (λ x. P (kind_of x)) 17 2 b (p, (q, tt)) h k

module _ (b : ℕ) where
  pub arithmetic-at : 17 ≤ b → b < 20 → kind_of b ≡ arithmetic (arithmetic_at b)
  unfolding kind_of
  arithmetic-at h k = each (λ x. kind_of x ≡ arithmetic (arithmetic_at x)) 17 3 b (refl, (refl, (refl, tt))) h k

  pub relation-at : 33 ≤ b → b < 39 → kind_of b ≡ relation (relation_at b)
  unfolding kind_of
  relation-at h k = each (λ x. kind_of x ≡ relation (relation_at x)) 33 6 b (refl, (refl, (refl, (refl, (refl, (refl, tt)))))) h k

  pub connective-at : 50 ≤ b → b < 53 → kind_of b ≡ connective (connective_at b)
  unfolding kind_of
  connective-at h k = each (λ x. kind_of x ≡ connective (connective_at x)) 50 3 b (refl, (refl, (refl, tt))) h k

-- ---- the bytes between the ranges have none
abbrev is_none : Kind → Bool
is_none (operand s) = false
is_none (arithmetic o) = false
is_none absolute = false
is_none (relation r) = false
is_none negation = false
is_none (connective j) = false
is_none none = true

is-none : (k : Kind) → T (is_none k) → k ≡ none
is-none (operand s) t = absurd t
is-none (arithmetic o) t = absurd t
is-none absolute t = absurd t
is-none (relation r) t = absurd t
is-none negation t = absurd t
is-none (connective j) t = absurd t
is-none none t = refl

none-range : (lo d b : ℕ) → T (all_from (λ x. is_none (kind_of x)) lo d) → lo ≤ b → b < lo + d → kind_of b ≡ none
none-range lo d b t h k = is-none (kind_of b) (tested (λ x. is_none (kind_of x)) lo d b t h k)

module _ (b : ℕ) where
  pub none_00 : b < 1 → kind_of b ≡ none
  unfolding kind_of
  none_00 h = none-range 0 1 b tt (omega arith) h

  pub none_04 : 4 ≤ b → b < 17 → kind_of b ≡ none
  unfolding kind_of
  none_04 = none-range 4 13 b tt

  pub none_15 : 21 ≤ b → b < 33 → kind_of b ≡ none
  unfolding kind_of
  none_15 = none-range 21 12 b tt

  pub none_27 : 39 ≤ b → b < 49 → kind_of b ≡ none
  unfolding kind_of
  none_27 = none-range 39 10 b tt

  pub none_35 : 53 ≤ b → b < 256 → kind_of b ≡ none
  unfolding kind_of
  none_35 = none-range 53 203 b tt

-- ---- kinds that leave the sums as they are
abbrev pub is_keeping : Kind → Bool
is_keeping (operand s) = false
is_keeping (arithmetic o) = false
is_keeping absolute = true
is_keeping (relation r) = false
is_keeping negation = true
is_keeping (connective j) = true
is_keeping none = true

module _ (b : ℕ) where
  pub keeping_00 : b < 1 → T (is_keeping (kind_of b))
  unfolding kind_of
  keeping_00 h = tested (λ x. is_keeping (kind_of x)) 0 1 b tt (omega arith) h

  pub keeping_04 : 4 ≤ b → b < 17 → T (is_keeping (kind_of b))
  unfolding kind_of
  keeping_04 = tested (λ x. is_keeping (kind_of x)) 4 13 b tt

  -- below 17, and no operand's
  pub keeping_low : b < 17 → (b ≡ 1 → ⊥) → (b ≡ 2 → ⊥) → (b ≡ 3 → ⊥) → T (is_keeping (kind_of b))
  keeping_low h p q r = elim (ℕ_discrete b 0) [ yes e ↦ keeping_00 (omega arith) | no n ↦ keeping_04 (omega arith) h ]

  pub keeping_14 : 20 ≤ b → b < 33 → T (is_keeping (kind_of b))
  unfolding kind_of
  keeping_14 = tested (λ x. is_keeping (kind_of x)) 20 13 b tt

  pub keeping_27 : 39 ≤ b → b < 256 → T (is_keeping (kind_of b))
  unfolding kind_of
  keeping_27 = tested (λ x. is_keeping (kind_of x)) 39 217 b tt

-- ---- a kind's byte is a byte
pub kind_octet : (k : Kind) → kind_byte k < 256
kind_octet (operand literal) = omega arith
kind_octet (operand instance) = omega arith
kind_octet (operand reference) = omega arith
kind_octet (arithmetic add) = omega arith
kind_octet (arithmetic subtract) = omega arith
kind_octet (arithmetic multiply) = omega arith
kind_octet absolute = omega arith
kind_octet (relation equal) = omega arith
kind_octet (relation unequal) = omega arith
kind_octet (relation less) = omega arith
kind_octet (relation at_most) = omega arith
kind_octet (relation more) = omega arith
kind_octet (relation at_least) = omega arith
kind_octet negation = omega arith
kind_octet (connective and) = omega arith
kind_octet (connective or) = omega arith
kind_octet (connective implies) = omega arith
kind_octet none = omega arith

module _ (most : ℕ) where
  -- ---- a kind that is neither a literal nor a reference has no fields
  bare-fields : (k : Kind) (x : Frame) → (kind_byte k ≡ 1 → ⊥) → (kind_byte k ≡ 3 → ⊥) → fields_of most k x ≡ bare_fields x
  bare-fields (operand literal) x p q = absurd (p refl)
  bare-fields (operand instance) x p q = refl
  bare-fields (operand reference) x p q = absurd (q refl)
  bare-fields (arithmetic o) x p q = refl
  bare-fields absolute x p q = refl
  bare-fields (relation r) x p q = refl
  bare-fields negation x p q = refl
  bare-fields (connective j) x p q = refl
  bare-fields none x p q = refl

  bare-by : (b : ℕ) (x : Frame) → (b ≡ 1 → ⊥) → (b ≡ 3 → ⊥) → (kind_of b ≡ none) ⊎ (b ≡ kind_byte (kind_of b)) → fields_of most (kind_of b) x ≡ bare_fields x
  bare-by b x p q (inl e) = rw e
  bare-by b x p q (inr e) = bare-fields (kind_of b) x (λ h. p (e ∙ h)) (λ h. q (e ∙ h))

  pub bare-kind : (b : ℕ) (x : Frame) → (b ≡ 1 → ⊥) → (b ≡ 3 → ⊥) → fields_of most (kind_of b) x ≡ bare_fields x
  bare-kind b x p q = bare-by b x p q (byte-kind b)
