-- Answers in the document's words, and which of them each answer of the code tells.
-- From document 01, "Feeding, pulling and the window" and "What is turned down". Assumes nothing: definitions.
use Rattle.std.specs.Prelude.{ℕ, Option, Some, None, Result, Ok, Err}
use Rattle.verdict.specs.declared.Verdict.{Verdict}
use Rattle.checker.specs.Refusals.{refusal_number, refusal_place}
use Rattle.checker.specs.declared.refusals.Refusal.{Refusal}
use Rattle.checker.specs.declared.Taken.{Taken}
use Rattle.checker.specs.declared.Taken.TheVariants.{Accepted, Ignored}

-- "A refusal returns its number and place (0 if none is named)"
pub data Answer : Type 0 where
  opened accepted ignored waiting : Answer
  verdict : Verdict → Answer
  refused : (number place : ℕ) → Answer

-- "Where an answer is an enum, a definition tells you this paper's number and values for each of its cases": of opening
abbrev pub open_told : Result (Unit {0}) Refusal → Answer
open_told (Ok done) = opened
open_told (Err why) = refused (refusal_number why) (refusal_place why)

-- "Where an answer is an enum, a definition tells you this paper's number and values for each of its cases": of feeding
abbrev pub feed_told : Result Taken Refusal → Answer
feed_told (Ok Accepted) = accepted
feed_told (Ok Ignored) = ignored
feed_told (Err why) = refused (refusal_number why) (refusal_place why)

-- "Where an answer is an enum, a definition tells you this paper's number and values for each of its cases": of pulling
abbrev pub pull_told : Result (Option Verdict) Refusal → Answer
pull_told (Ok (Some v)) = verdict v
pull_told (Ok None) = waiting
pull_told (Err why) = refused (refusal_number why) (refusal_place why)
