-- The number and the place of what the check answers, by which proofs tell its answers apart. Assumes nothing: definitions.
use Prim.Native.Nat.{ℕ}
use Rattle.rule.specs.CheckTold.{CheckAnswer}
use Rattle.rule.specs.CheckTold as checking

-- 0 where nothing is refused
abbrev pub number_of : CheckAnswer → ℕ
number_of checking.accepted = 0
number_of (checking.refused number place) = number

-- 0 where nothing is refused, or none is named
abbrev pub place_of : CheckAnswer → ℕ
place_of checking.accepted = 0
place_of (checking.refused number place) = place
