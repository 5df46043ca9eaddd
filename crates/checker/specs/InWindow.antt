-- What inner functions require of widths, events and notes, and of a window and its sum. No public contract cites it.
-- Assumes nothing: definitions.
use Rattle.std.specs.Prelude.{◌≡◌, ℕ, ◌<◌, ◌≤◌, List, length, ℤ}
use Rattle.rule.specs.Limits.{event_limit, note_limit}
use Rattle.checker.specs.Limits.{width_limit, window_words}
use Rattle.checker.specs.Sum.{sum_of}

-- "W (1 to 256)", and events and notes "numbered from 0 .., at most 8 and 4"
pub record InWindow (w e n : ℕ) : Type 0 where
  pub some : 1 ≤ w
  pub most : w ≤ width_limit
  pub event : e < event_limit
  pub note : n < note_limit

-- "The window is 32 × W signed 32-bit words", and its "wrapping 32-bit sum"
pub record Summed (win : List ℤ) (w sum : ℕ) : Type 0 where
  pub long : length win ≡ window_words w
  pub sum_is : sum ≡ sum_of win
