-- Laws of the answer to a line that is brought down. Assumes nothing.
use mathlib.Core.Path.{◌≡◌, refl}
use mathlib.Core.List.{List}
use Prim.Native.Nat.{ℕ}
use Rattle.log_lines.specs.Earlier.{ConversionAnswer, done, turned, unless_lost}

-- a line or a refusal: the answer is the loss
pub answer_unless : (x : ConversionAnswer) (s : List ℕ) → (unless_lost x s).answer ≡ x
answer_unless done s = refl
answer_unless (turned number place) s = refl
