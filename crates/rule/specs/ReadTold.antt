-- The answer of `read` in the document's words, and which of them each case of the code's answer tells.
-- From document 01, "Where each form belongs": "a definition tells you this paper's number and values for each of its cases".
-- Assumes nothing: definitions.
use Rattle.std.specs.Prelude.{ℕ, Result, Ok, Err}
use Rattle.rule.specs.Refusal.{refusal_number, refusal_place}
use Rattle.rule.specs.declared.Refusal.{Refusal}

-- "answers the number of frames"; or "A refusal returns its number and place (0 if none is named)"
pub data ReadAnswer : Type 0 where
  frames : (count : ℕ) → ReadAnswer
  refused : (number place : ℕ) → ReadAnswer

-- what each case of the code's answer tells
abbrev pub read_told : Result ℕ Refusal → ReadAnswer
read_told (Ok n) = frames n
read_told (Err r) = refused (refusal_number r) (refusal_place r)
