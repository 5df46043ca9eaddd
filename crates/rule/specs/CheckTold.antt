-- The answer of `check` in the document's words, and which of them each case of the code's answer tells.
-- From document 01, "Where each form belongs": "a definition tells you this paper's number and values for each of its cases".
-- Assumes nothing: definitions.
use Rattle.std.specs.Prelude.{ℕ, Result, Ok, Err}
use Rattle.rule.specs.Refusal.{refusal_number, refusal_place}
use Rattle.rule.specs.declared.Refusal.{Refusal}

-- frames are accepted; or "A refusal returns its number and place (0 if none is named)"
pub data CheckAnswer : Type 0 where
  accepted : CheckAnswer
  refused : (number place : ℕ) → CheckAnswer

-- what each case of the code's answer tells
abbrev pub check_told : Result Unit Refusal → CheckAnswer
check_told (Ok u) = accepted
check_told (Err r) = refused (refusal_number r) (refusal_place r)
