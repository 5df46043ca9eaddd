-- What is told of an answer fixes it: of opening, feeding and pulling. Assumes nothing.
use Rattle.std.proofs.Common.{◌≡◌, refl, ap}
use Rattle.std.specs.Prelude.{Option, Some, None, Result, Ok, Err}
use Rattle.verdict.specs.declared.Verdict.{Verdict}
use Rattle.checker.specs.Refusals.{refusal_number, refusal_place}
use Rattle.checker.specs.Answer.{open_told, feed_told, pull_told}
use Rattle.checker.specs.declared.Taken.{Taken}
use Rattle.checker.specs.declared.Taken.TheVariants.{Accepted, Ignored}
use Rattle.checker.specs.declared.refusals.Refusal.{Refusal}
use Rattle.checker.proofs.RefusalLaws.{refusal_same}
use Rattle.checker.specs.Refusals.{refusal_number, refusal_place}

-- ---- two that tell the same are the same
pub open_told_injective : (a b : Result (Unit {0}) Refusal) → open_told a ≡ open_told b → a ≡ b
open_told_injective (Ok x) (Ok y) e = refl
open_told_injective (Ok x) (Err b) e = cc
open_told_injective (Err a) (Ok y) e = cc
open_told_injective (Err a) (Err b) e = let n : refusal_number a ≡ refusal_number b = cc in let p : refusal_place a ≡ refusal_place b = cc in ap Err (refusal_same a b n p)

pub feed_told_injective : (a b : Result Taken Refusal) → feed_told a ≡ feed_told b → a ≡ b
feed_told_injective (Ok Accepted) (Ok Accepted) e = refl
feed_told_injective (Ok Accepted) (Ok Ignored) e = cc
feed_told_injective (Ok Ignored) (Ok Accepted) e = cc
feed_told_injective (Ok Ignored) (Ok Ignored) e = refl
feed_told_injective (Ok Accepted) (Err b) e = cc
feed_told_injective (Ok Ignored) (Err b) e = cc
feed_told_injective (Err a) (Ok Accepted) e = cc
feed_told_injective (Err a) (Ok Ignored) e = cc
feed_told_injective (Err a) (Err b) e = let n : refusal_number a ≡ refusal_number b = cc in let p : refusal_place a ≡ refusal_place b = cc in ap Err (refusal_same a b n p)

pub pull_told_injective : (a b : Result (Option Verdict) Refusal) → pull_told a ≡ pull_told b → a ≡ b
pull_told_injective (Ok None) (Ok None) e = refl
pull_told_injective (Ok None) (Ok (Some w)) e = cc
pull_told_injective (Ok (Some v)) (Ok None) e = cc
pull_told_injective (Ok (Some v)) (Ok (Some w)) e = cc
pull_told_injective (Ok None) (Err b) e = cc
pull_told_injective (Ok (Some v)) (Err b) e = cc
pull_told_injective (Err a) (Ok None) e = cc
pull_told_injective (Err a) (Ok (Some w)) e = cc
pull_told_injective (Err a) (Err b) e = let n : refusal_number a ≡ refusal_number b = cc in let p : refusal_place a ≡ refusal_place b = cc in ap Err (refusal_same a b n p)
