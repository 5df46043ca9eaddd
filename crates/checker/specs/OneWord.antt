-- Words of "A window that somebody wrote into": windows that differ in one word. From document 02, point 11.
-- Assumes nothing: definitions.
use Rattle.std.specs.Prelude.{◌≡◌, ℕ, ◌<◌, ◌≢◌, List, length, get_or, ℤ, pos, FitsSigned, slice_index_or}
use Rattle.std.specs.Int.{w32}
use Rattle.checker.specs.Answer.{Answer, refused}

-- "signed 32-bit words": each is −2^31 to 2^31 − 1, as every word of a lent window is
abbrev pub Words : List ℤ → Type 0
Words win = (k : ℕ) → k < length win → FitsSigned w32 (slice_index_or win k (pos 0))

-- "A window that differs in just one word": at one place, and at no other
pub record OneWordApart (win win' : List ℤ) : Type 0 where
  pub long : length win' ≡ length win
  pub place : ℕ
  pub within : place < length win
  pub differs : get_or win' place (pos 0) ≢ slice_index_or win place (pos 0)
  pub others : (k : ℕ) → k ≢ place → slice_index_or win' k (pos 0) ≡ slice_index_or win k (pos 0)

-- an answer other than 12, 13 and 27, so that state and window were let through
pub record LetThrough (a : Answer) : Type 0 where
  pub not_12 : a ≢ refused 12 0
  pub not_13 : a ≢ refused 13 0
  pub not_27 : a ≢ refused 27 0
