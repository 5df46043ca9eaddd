-- The value of a number as the reader keeps it, for the limits of refusals 5 and 18. Assumes nothing: definitions.
use Rattle.std.specs.Prelude.{ℕ, min, List}
use Rattle.rule.specs.Spelling.{decimal}

-- above every limit of refusals 5 and 18 (6; 9; 9,999; 2,147,483,647)
abbrev pub most : ℕ
most = 4294967295

-- the value, or `most` for every value above it
unfoldable pub number_value : List ℕ → ℕ
number_value bs = min most (decimal bs)
