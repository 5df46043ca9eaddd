-- The number and the place of each refusal, by its name in the code. From document 01, "What is turned down", and document 02,
-- points 9, 11 and 13. Assumes nothing: definitions.
use Rattle.std.specs.Prelude.{ℕ}
use Rattle.rule.specs.Refusal as rules
use Rattle.checker.specs.declared.refusals.Refusal.{Refusal}
use Rattle.checker.specs.declared.refusals.Refusal.TheVariants.{Rule, Opening, State, Window, Report, Line, Lines, Full, Board, Sum}
use Rattle.checker.specs.declared.refusals.Refusal.TheVariants.{Bands, Prices}

-- "A refusal returns its number": those of "What is turned down", and 26 to 29
abbrev pub refusal_number : Refusal → ℕ
refusal_number (Rule why) = rules.refusal_number why
refusal_number Opening = 11
refusal_number State = 12
refusal_number Window = 13
refusal_number Report = 14
refusal_number (Line line) = 15
refusal_number Lines = 16
refusal_number Full = 17
refusal_number Board = 26
refusal_number Sum = 27
refusal_number Bands = 28
refusal_number Prices = 29

-- "and place (0 if none is named)": of those here 15 alone names one, and of those of a rule its own crate says it
abbrev pub refusal_place : Refusal → ℕ
refusal_place (Rule why) = rules.refusal_place why
refusal_place Opening = 0
refusal_place State = 0
refusal_place Window = 0
refusal_place Report = 0
refusal_place (Line line) = line.place
refusal_place Lines = 0
refusal_place Full = 0
refusal_place Board = 0
refusal_place Sum = 0
refusal_place Bands = 0
refusal_place Prices = 0
