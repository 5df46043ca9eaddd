-- Three truth values and Kleene's tables. From document 01, "Verdicts". Assumes nothing: definitions.
use Rattle.std.specs.Prelude.{Bool, true, false}
use Rattle.rule.specs.Frames.{Connective, and, or, implies}
use Rattle.verdict.specs.declared.Truth.{Truth}
use Rattle.verdict.specs.declared.Truth.TheVariants.{True, False, Unknown}

-- "Not, and, or follow Kleene's tables (unknown or true is true; unknown and false is false)": not
abbrev pub not_k : Truth → Truth
not_k True = False
not_k False = True
not_k Unknown = Unknown

-- "Not, and, or follow Kleene's tables": and
abbrev pub and_k : Truth → Truth → Truth
and_k True True = True
and_k True False = False
and_k True Unknown = Unknown
and_k False True = False
and_k False False = False
and_k False Unknown = False
and_k Unknown True = Unknown
and_k Unknown False = False
and_k Unknown Unknown = Unknown

-- "Not, and, or follow Kleene's tables": or
abbrev pub or_k : Truth → Truth → Truth
or_k True True = True
or_k True False = True
or_k True Unknown = True
or_k False True = True
or_k False False = False
or_k False Unknown = Unknown
or_k Unknown True = True
or_k Unknown False = Unknown
or_k Unknown Unknown = Unknown

-- "p implies q is (not p) or q"
abbrev pub connected : Connective → Truth → Truth → Truth
connected and p q = and_k p q
connected or p q = or_k p q
connected implies p q = or_k (not_k p) q

-- "else true or false": the truth value of a test
abbrev pub truth : Bool → Truth
truth true = True
truth false = False

-- "true or false"
abbrev pub is_known : Truth → Bool
is_known True = true
is_known False = true
is_known Unknown = false
