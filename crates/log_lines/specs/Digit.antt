-- Digits 0-9, A-F or a-f. Assumes nothing: definitions.
use Rattle.std.specs.Prelude.{ℕ, ◌+◌, ◌-◌, Bool, cond, ltb, Option, Some, None}
use Rattle.numbers.specs.Range.{between}

-- "digits 0-9 A-F", and document 02, point 7, "takes both cases": the value of a digit, 16 for a byte that is no digit
unfoldable pub digit_value : ℕ → ℕ
digit_value b =
    cond (between 0x30 0x39 b) (b - 0x30)
    (cond (between 0x41 0x46 b) (b - 0x41 + 10)
    (cond (between 0x61 0x66 b) (b - 0x61 + 10)
    16))

-- 15's "non-digit" is a byte of which this is false
abbrev pub is_digit : ℕ → Bool
is_digit b = ltb (digit_value b) 16

-- "digits 0-9 A-F": a digit's value, and none of a "non-digit"
abbrev pub digit_of : ℕ → Option ℕ
digit_of b = cond (is_digit b) (Some (digit_value b)) None

-- document 02, point 7, "both cases": a letter a-f as its capital, any other byte as it is
unfoldable pub capital : ℕ → ℕ
capital b = cond (between 0x61 0x66 b) (b - 0x20) b

-- "digits 0-9 A-F": the digit of a value below 16, a letter as a capital
abbrev pub hex_digit : ℕ → ℕ
hex_digit d = cond (ltb d 10) (0x30 + d) (0x41 + (d - 10))
