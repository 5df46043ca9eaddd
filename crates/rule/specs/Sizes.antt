-- Refusal 8: the magnitudes of the sums, by one pass over the frames behind the head.
-- From document 01, "From rule text to frames", and document 02, point 1. Assumes nothing: definitions.
use Rattle.std.specs.Prelude.{Bool, true, false, ◌&&◌, cond, List, [], ◌∷◌, ℕ, zero, suc, ◌*◌, leb}
use Rattle.rule.specs.Limits.{magnitude_limit}
use Rattle.rule.specs.Frames.{Source, Kind, operand, arithmetic, absolute, relation, negation, connective, none, kind_of}
use Rattle.rule.specs.Frames.{frame_at, frame_count}
use Rattle.rule.specs.Decimals.{Term, left_side, right_side}
use Rattle.rule.specs.Tree.{grown, magnitude}
use Rattle.rule.specs.Build.{leaf}
use Rattle.rule.specs.declared.Frame.{Frame}

-- the magnitudes of the sums so far, the last first; or that one was over the limit
pub data Sizes : Type 0 where
  fits : List (Term ℕ) → Sizes
  over : Sizes

-- one magnitude more: "None exceeds 2^62"
abbrev pub pushed : Term ℕ → List (Term ℕ) → Sizes
pushed m ms = cond (leb m.amount magnitude_limit) (fits (m ∷ ms)) over

-- two sums become one
abbrev pub topped : (Term ℕ → Term ℕ → Term ℕ) → List (Term ℕ) → Sizes
topped f [] = fits []
topped f (b ∷ []) = fits (b ∷ [])
topped f (b ∷ (a ∷ ms)) = pushed (f a b) ms

-- "those of a relation's sides too"
abbrev pub sides_fit : Term ℕ → Term ℕ → Bool
sides_fit a b = leb (left_side ◌*◌ a b) magnitude_limit && leb (right_side ◌*◌ a b) magnitude_limit

-- a relation takes the two sums that are there
abbrev pub compared : List (Term ℕ) → Sizes
compared [] = fits []
compared (b ∷ []) = fits []
compared (b ∷ (a ∷ ms)) = cond (sides_fit a b) (fits []) over

-- where each note has so many decimals
module _ (scale : ℕ) where
  -- the magnitude of an operand
  abbrev pub operand_size : Source → Frame → Term ℕ
  operand_size s x = magnitude scale (leaf s x)

  -- a frame of a kind more
  abbrev pub sizes_after : Kind → Frame → List (Term ℕ) → Sizes
  sizes_after (operand s) x ms = pushed (operand_size s x) ms
  sizes_after (arithmetic o) x ms = topped (grown o) ms
  sizes_after absolute x ms = fits ms
  sizes_after (relation r) x ms = compared ms
  sizes_after negation x ms = fits ms
  sizes_after (connective j) x ms = fits ms
  sizes_after none x ms = fits ms

  -- a frame more; once over, always over
  abbrev pub size_next : Frame → Sizes → Sizes
  size_next x (fits ms) = sizes_after (kind_of x.kind) x ms
  size_next x over = over

  -- after the first i frames
  abbrev pub size_at : List ℕ → ℕ → Sizes
  size_at s zero = fits []
  size_at s (suc i) = size_next (frame_at s i) (size_at s i)

-- none was over
abbrev pub is_fits : Sizes → Bool
is_fits (fits ms) = true
is_fits over = false

-- no magnitude is over the limit
unfoldable pub sizes_fit : ℕ → List ℕ → Bool
sizes_fit scale s = is_fits (size_at scale s (frame_count s))
