-- The extremes of a signed word and of a half, computed. Assumes nothing.
use mathlib.Core.Path.{◌≡◌, refl}
use lib.IntN.{pos, negsuc}
use Rattle.numbers.specs.Word.{signed_word, signed_half}

greatest : signed_word 0x7F 0xFF 0xFF 0xFF ≡ pos 2147483647
greatest = refl

least : signed_word 0x80 0 0 0 ≡ negsuc 2147483647
least = refl

minus_one : signed_word 0xFF 0xFF 0xFF 0xFF ≡ negsuc 0
minus_one = refl

ten : signed_word 0 0 0 0x0A ≡ pos 10
ten = refl

-- and of a signed half
half-greatest : signed_half 0x7F 0xFF ≡ pos 32767
half-greatest = refl

half-least : signed_half 0x80 0 ≡ negsuc 32767
half-least = refl

half_minus_one : signed_half 0xFF 0xFF ≡ negsuc 0
half_minus_one = refl

half-ten : signed_half 0 0x0A ≡ pos 10
half-ten = refl
