-- What holds of every member of a list. Assumes nothing.
use mathlib.Core.Path.{refl, sym, subst}
use mathlib.Core.List.{List, [], ◌∷◌, Memᴰ}
use Rattle.rule.specs.Measure.{flat}
use Rattle.rule.proofs.FrameDrafts.{All, all_left, all_right}

module _ {A : Type 0} where
  pub all_in : (P : A → Type 0) {a : A} {l : List A} → Memᴰ a l → All P l → P a
  all_in P (Memᴰ.head e) h = subst P (sym e) h.0
  all_in P (Memᴰ.tail i) h = all_in P i h.1

  pub all_map : (P Q : A → Type 0) (l : List A) → ((a : A) → P a → Q a) → All P l → All Q l
  all_map P Q [] f h = tt
  all_map P Q (a ∷ l) f h = (f a h.0, all_map P Q l f h.1)

  -- each member is one
  pub all_own : (l : List A) → All (λ a. Memᴰ a l) l
  all_own [] = tt
  all_own (a ∷ l) = (Memᴰ.head refl, all_map (λ b. Memᴰ b l) (λ b. Memᴰ b (a ∷ l)) l (λ b i. Memᴰ.tail i) (all_own l))

-- what holds of all that a member has by g and by h holds of the member
pub all-flat : {A B C : Type 0} (P : B → Type 0) (Q : C → Type 0) (R : A → Type 0) (g : A → List B) (h : A → List C)
    → ((a : A) → All P (g a) → All Q (h a) → R a) → (l : List A) → All P (flat g l) → All Q (flat h l) → All R l
all-flat P Q R g h f [] p q = tt
all-flat P Q R g h f (a ∷ l) p q =
    (f a (all_left P (g a) (flat g l) p) (all_left Q (h a) (flat h l) q), all-flat P Q R g h f l (all_right P (g a) (flat g l) p) (all_right Q (h a) (flat h l) q))
