-- Bounds of the window's words. Assumes nothing.
use Rattle.std.proofs.Common.{ℕ, ◌+◌, ◌*◌, ◌<◌, ◌≤◌, mul-le-mul_right, mod-lt, suc-mul, arith}
use Rattle.checker.specs.Limits.{width_limit, window_words}
use Rattle.checker.specs.Ring.{ring_place, word_at}

-- document 02, point 4: "The place of an occurrence in its ring is below 256", for every W
pub ring_place_most : (w k : ℕ) → 1 ≤ w → w ≤ width_limit → ring_place w k < 256
ring_place_most w k hw hm = omega (arith, mod-lt k hw)

row_end : (w e : ℕ) → e < 8 → e * w + w ≤ 8 * w
row_end w e h = rw (← suc-mul e w) (mul-le-mul_right w h)

pub word-most : (w e k n : ℕ) → 1 ≤ w → e < 8 → n < 4 → word_at w e k n < window_words w
word-most w e k n hw he hn = omega (arith, mod-lt k hw, row_end w e he)
