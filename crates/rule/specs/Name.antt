-- Names as numbers, by which the reader compares them. Assumes nothing: definitions.
use Rattle.std.specs.Prelude.{ℕ, ◌+◌, ◌-◌, ◌*◌, cond, List, [], ◌∷◌, leb, length}
use Rattle.rule.specs.ReadLimits.{name_letters}

-- the letters are digits 1 to 26 to the base 27, the first letter the lowest
unfoldable pub code : List ℕ → ℕ
code [] = 0
code (b ∷ bs) = (b - 96) + 27 * code bs

-- 27^12, which is no name's number: it stands for every word of over 12 letters
abbrev pub long_name : ℕ
long_name = 150094635296999121

-- the number of a word
unfoldable pub name_code : List ℕ → ℕ
name_code w = cond (leb (length w) name_letters) (code w) long_name
