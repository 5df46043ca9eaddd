-- Laws of Kleene's tables: they keep what is known. Assumes nothing.
use mathlib.Core.Path.{◌≡◌, refl, ap, ◌∙◌}
use mathlib.Core.Logic.{inl, inr}
use Rattle.rule.specs.Frames.{Connective, and, or, implies}
use Rattle.verdict.specs.Kleene.{not_k, and_k, or_k, connected}
use Rattle.verdict.specs.Later.{Sharpens}
use Rattle.verdict.specs.declared.Truth.{Truth}
use Rattle.verdict.specs.declared.Truth.TheVariants.{True, False, Unknown}

sharpens_trans : (a b c : Truth) → Sharpens a b → Sharpens b c → Sharpens a c
sharpens_trans a b c (inl p) q = inl p
sharpens_trans a b c (inr p) (inl q) = inl (p ∙ q)
sharpens_trans a b c (inr p) (inr q) = inr (p ∙ q)

pub not_sharpens : (a a' : Truth) → Sharpens a a' → Sharpens (not_k a) (not_k a')
not_sharpens a a' (inl p) = inl (ap not_k p)
not_sharpens a a' (inr p) = inr (ap not_k p)

-- unknown on the left: the entry stays whatever it becomes, or is unknown
and-unknown : (a b : Truth) → Sharpens (and_k Unknown b) (and_k a b)
and-unknown a True = inl refl
and-unknown True False = inr refl
and-unknown False False = inr refl
and-unknown Unknown False = inr refl
and-unknown a Unknown = inl refl

or-unknown : (a b : Truth) → Sharpens (or_k Unknown b) (or_k a b)
or-unknown True True = inr refl
or-unknown False True = inr refl
or-unknown Unknown True = inr refl
or-unknown a False = inl refl
or-unknown a Unknown = inl refl

and_comm : (a b : Truth) → and_k a b ≡ and_k b a
and_comm True True = refl
and_comm True False = refl
and_comm True Unknown = refl
and_comm False True = refl
and_comm False False = refl
and_comm False Unknown = refl
and_comm Unknown True = refl
and_comm Unknown False = refl
and_comm Unknown Unknown = refl

or_comm : (a b : Truth) → or_k a b ≡ or_k b a
or_comm True True = refl
or_comm True False = refl
or_comm True Unknown = refl
or_comm False True = refl
or_comm False False = refl
or_comm False Unknown = refl
or_comm Unknown True = refl
or_comm Unknown False = refl
or_comm Unknown Unknown = refl

-- such a table, if it is commutative, keeps what is known on both sides
module _ (t : Truth → Truth → Truth) (unknown-left : (a b : Truth) → Sharpens (t Unknown b) (t a b)) (comm : (a b : Truth) → t a b ≡ t b a) where
  left_sharpens : (a a' b : Truth) → Sharpens a a' → Sharpens (t a b) (t a' b)
  left_sharpens a a' b (inl p) = rw p (unknown-left a' b)
  left_sharpens a a' b (inr p) = inr (ap (λ (x : Truth). t x b) p)

  table_sharpens : (a a' b b' : Truth) → Sharpens a a' → Sharpens b b' → Sharpens (t a b) (t a' b')
  table_sharpens a a' b b' p q =
      sharpens_trans (t a b) (t a' b) (t a' b') (left_sharpens a a' b p) (rw (comm a' b, comm a' b') (left_sharpens b b' a' q))

pub connected_sharpens : (j : Connective) (a a' b b' : Truth) → Sharpens a a' → Sharpens b b' → Sharpens (connected j a b) (connected j a' b')
connected_sharpens and a a' b b' p q = table_sharpens and_k and-unknown and_comm a a' b b' p q
connected_sharpens or a a' b b' p q = table_sharpens or_k or-unknown or_comm a a' b b' p q
connected_sharpens implies a a' b b' p q = table_sharpens or_k or-unknown or_comm (not_k a) (not_k a') b b' (not_sharpens a a' p) q
