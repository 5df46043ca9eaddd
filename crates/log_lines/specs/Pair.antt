-- Pairs of digits. Assumes nothing: definitions.
use Rattle.std.specs.Prelude.{ℕ, ◌+◌, ◌*◌, cond, ◌&&◌, Option, Some, None}
use Rattle.log_lines.specs.Digit.{digit_value, is_digit}

-- "A digit pair that is no byte": `None`; any other pair is a byte, the high digit first
unfoldable pub pair_of : ℕ → ℕ → Option ℕ
pair_of high low = cond (is_digit high && is_digit low) (Some (16 * digit_value high + digit_value low)) None
