-- What is proved of the library's answers, beside the contracts of its calls. Assumes nothing.
use Rattle.std.proofs.Common.{◌≡◌, ℕ, List, Result}
use Rattle.rule.specs.ReadTold.{read_told}
use Rattle.rule.specs.declared.Refusal.{Refusal}
use Rattle.log_lines.specs.Earlier.{raise_told, lower_told}
use Rattle.log_lines.specs.declared.earlier.BadOldLine.{BadOldLine}
use Rattle.log_lines.specs.declared.earlier.NotLowered.{NotLowered}
use Rattle.checker.specs.Tariff.{charge_def}
use Rattle.checker.specs.declared.State.{State}
use Rattle.checker.specs.declared.Tariff.{Tariff}
use Rattle.dillplatter.specs.Told.{AnyAnswer, of_reading, answer_number, number_of, place_of, frames_of, unlined, conversion_number, conversion_place}
use Rattle.dillplatter.specs.Told.{charge_number, charge_place, charge_cents}
use Rattle.dillplatter.proofs.Fixed as fixed

-- The four numbers fix the answer: no two answers of any calls have the same numbers.
pub told_fixed : (s t : AnyAnswer) → answer_number s ≡ answer_number t → number_of s ≡ number_of t → place_of s ≡ place_of t → frames_of s ≡ frames_of t → s ≡ t
told_fixed = fixed.told_fixed

-- What is told of a reading fixes the reading.
pub reading_fixed : (r s : Result ℕ Refusal) → of_reading (read_told r) ≡ of_reading (read_told s) → r ≡ s
reading_fixed = fixed.reading_fixed

-- The number and the place fix the answer to a conversion, up and down; with the line, all that it gives.
pub raise_fixed : (a b : Result (List ℕ) BadOldLine) → conversion_number (raise_told a).answer ≡ conversion_number (raise_told b).answer
    → conversion_place (raise_told a).answer ≡ conversion_place (raise_told b).answer → unlined a ≡ unlined b
raise_fixed = fixed.raise_fixed

pub raise_whole : (a b : Result (List ℕ) BadOldLine) → conversion_number (raise_told a).answer ≡ conversion_number (raise_told b).answer
    → conversion_place (raise_told a).answer ≡ conversion_place (raise_told b).answer → (raise_told a).line ≡ (raise_told b).line → a ≡ b
raise_whole = fixed.raise_whole

pub lower_fixed : (a b : Result (List ℕ) NotLowered) → conversion_number (lower_told a).answer ≡ conversion_number (lower_told b).answer
    → conversion_place (lower_told a).answer ≡ conversion_place (lower_told b).answer → unlined a ≡ unlined b
lower_fixed = fixed.lower_fixed

pub lower_whole : (a b : Result (List ℕ) NotLowered) → conversion_number (lower_told a).answer ≡ conversion_number (lower_told b).answer
    → conversion_place (lower_told a).answer ≡ conversion_place (lower_told b).answer → (lower_told a).line ≡ (lower_told b).line → a ≡ b
lower_whole = fixed.lower_whole

-- The number, the place and the cents fix the answer to a charge.
pub charge_fixed : (s s' : State) (t t' : Tariff) → charge_number (charge_def s t) ≡ charge_number (charge_def s' t')
    → charge_place (charge_def s t) ≡ charge_place (charge_def s' t') → charge_cents (charge_def s t) ≡ charge_cents (charge_def s' t')
    → charge_def s t ≡ charge_def s' t'
charge_fixed = fixed.charge_fixed
