-- What a kind byte asks for, and one step of the pass by it. Assumes nothing.
use mathlib.Core.Path.{◌≡◌, ◌∙◌}
use mathlib.Core.List.{List, [], ◌∷◌}
use Prim.Native.Nat.{ℕ, ◌≤◌, ◌<◌}
use native.Mathlib.Omega.{arith}
use native.Mathlib.Decide.{ℕ_discrete}
use lib.IntN.{ℤ, nat_abs}
use Rattle.rule.specs.Limits.{magnitude_limit}
use Rattle.rule.specs.Frames.{Arithmetic, add, subtract, multiply, Kind, none, kind_of}
use Rattle.rule.specs.Decimals.{Term}
use Rattle.rule.specs.Build.{top1, top2}
use Rattle.rule.proofs.Laws.{none_00, none_04}
use Rattle.verdict.specs.Value.{computed, size_of}
use Rattle.verdict.specs.Stacks.{Small, SidesFor, FewDecimals, Joinable}

-- below 0x11, and no operand's
pub none-low : (b : ℕ) → b < 0x11 → (b ≡ 1 → ⊥) → (b ≡ 2 → ⊥) → (b ≡ 3 → ⊥) → kind_of b ≡ none
none-low b h p q r = elim (ℕ_discrete b 0) [ yes e ↦ none_00 b (omega arith) | no n ↦ none_04 b (omega arith) h ]

-- ---- what is popped, made one and pushed
module _ {A : Type 0} where
  pub one-made : (f : A → A) (l r n : List A) (a v : A) → l ≡ a ∷ r → v ≡ f a → n ≡ v ∷ r → n ≡ top1 f l
  one-made f l r n a v p e q = q ∙ rw (e, p)

  pub two-made : (f : A → A → A) (l r n : List A) (b a v : A) → l ≡ b ∷ (a ∷ r) → v ≡ f a b → n ≡ v ∷ r → n ≡ top2 f l
  two-made f l r n b a v p e q = q ∙ rw (e, p)

-- ---- what an operation on popped terms requires
pub size-small : (l r : List (Term ℤ)) (a : Term ℤ) → l ≡ a ∷ r → Small (top1 size_of l) → nat_abs a.amount ≤ magnitude_limit
size-small l r a p h = (rw p at h).0

sides-alone : (o : Arithmetic) (b a : Term ℤ) (r : List (Term ℤ)) → SidesFor (Kind.arithmetic o) (b ∷ (a ∷ r)) → SidesFor (Kind.arithmetic o) (b ∷ (a ∷ []))
sides-alone add b a r h = h
sides-alone subtract b a r h = h
sides-alone multiply b a r h = h

pub joinable : (o : Arithmetic) (l r : List (Term ℤ)) (b a : Term ℤ) → l ≡ b ∷ (a ∷ r) → FewDecimals l → SidesFor (Kind.arithmetic o) l → Small (top2 (computed o) l) → Joinable o a b
joinable o l r b a e f s h =
    let g = rw e at f in
    let t = rw e at s in
    let k = rw e at h in
    record { few = omega arith; sides = sides-alone o b a r t; small = k.0 }
