-- The documents' number of each refusal of a rule, and its place. Assumes nothing: definitions.
-- From document 01, "What is turned down", and document 02, point 1.
use Rattle.std.specs.Prelude.{ℕ}
use Rattle.rule.specs.declared.Refusal.{Refusal}
use Rattle.rule.specs.declared.Refusal.TheVariants.{Buffer, TextLength, Token, Name, Number, Decimals, TooLarge}
use Rattle.rule.specs.declared.Refusal.TheVariants.{NoReference, Magnitude, FrameBytes, Order}

-- the numbers of the list, and 18, "a literal with more decimals"
abbrev pub refusal_number : Refusal → ℕ
refusal_number Buffer = 1
refusal_number TextLength = 2
refusal_number (Token p) = 3
refusal_number (Name p) = 4
refusal_number (Number p) = 5
refusal_number (Decimals p) = 18
refusal_number TooLarge = 6
refusal_number NoReference = 7
refusal_number Magnitude = 8
refusal_number FrameBytes = 9
refusal_number (Order p) = 10

-- "its .. place (0 if none is named)"
abbrev pub refusal_place : Refusal → ℕ
refusal_place Buffer = 0
refusal_place TextLength = 0
refusal_place (Token p) = p
refusal_place (Name p) = p
refusal_place (Number p) = p
refusal_place (Decimals p) = p
refusal_place TooLarge = 0
refusal_place NoReference = 0
refusal_place Magnitude = 0
refusal_place FrameBytes = 0
refusal_place (Order p) = p
