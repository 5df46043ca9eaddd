-- What inner functions say of their stacks and of a head. No public contract cites it. Assumes nothing: definitions.
use Rattle.std.specs.Prelude.{◌≡◌, List, [], ◌∷◌, ℕ, ◌+◌, ◌≤◌}
use Rattle.rule.specs.Limits.{magnitude_limit}
use Rattle.rule.specs.Scale.{note_decimals, literal_decimals, head_frames, scale_of}
use Rattle.rule.specs.Decimals.{Term}
use Rattle.rule.specs.Frames.{Kind, Effect, sum_of, cond_of, relates, no_rule, effect}
use Rattle.rule.specs.declared.Head.{Head}

-- a frame needs the sums that it takes
abbrev pub SumsFor : Effect → ℕ → Type 0
SumsFor (sum_of n) k = n ≤ k
SumsFor (cond_of n) k = k ≡ 0
SumsFor relates k = k ≡ 2
SumsFor no_rule k = ⊥

-- and the conditions
abbrev pub CondsFor : Effect → ℕ → Type 0
CondsFor (sum_of n) c = Unit {0}
CondsFor (cond_of n) c = n ≤ c
CondsFor relates c = Unit {0}
CondsFor no_rule c = Unit {0}

-- by its kind
abbrev pub EnoughSums : Kind → ℕ → Type 0
EnoughSums o = SumsFor (effect o)

-- and of conditions
abbrev pub EnoughConds : Kind → ℕ → Type 0
EnoughConds o = CondsFor (effect o)

-- every magnitude is within the limit
abbrev pub Bounded : List (Term ℕ) → Type 0
Bounded [] = Unit {0}
Bounded (m ∷ ms) = (m.amount ≤ magnitude_limit) × Bounded ms

-- all counts of decimals together
abbrev pub all_decimals : {A : Type 0} → List (Term A) → ℕ
all_decimals [] = 0
all_decimals (m ∷ ms) = m.decimals + all_decimals ms

-- the head that bytes have, as the code hands it on
pub record HeadIs (s : List ℕ) (h : Head) : Type 0 where
  pub frames : h.frames ≡ head_frames (scale_of s)
  pub decimals : h.decimals ≡ note_decimals (scale_of s)
  pub most : h.most ≡ literal_decimals (scale_of s)
