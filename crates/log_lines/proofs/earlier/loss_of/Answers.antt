-- `log_lines::earlier::loss_of`: the note that is looked at joins those before it. Assumes nothing.
use Rattle.std.proofs.Common.{◌≡◌, ℕ, ◌<◌, zero, suc, refl, arith}
use mathlib.Core.Logic.{◌⊎◌, inl, inr}
use Rattle.std.proofs.lemmas.Grind.{common_steps}
use Rattle.log_lines.proofs.earlier.loss_of.Goals as goal

of_three : (i : ℕ) → i < 3 → (i ≡ 0) ⊎ ((i ≡ 1) ⊎ (i ≡ 2))
of_three zero h = inl refl
of_three (suc zero) h = inr (inl refl)
of_three (suc (suc zero)) h = inr (inr refl)
of_three (suc (suc (suc n))) h = absurd (omega arith)

pub loop-note-preserved : goal.loop-note-preserved
loop-note-preserved c = record {
  first = λ h. grind (arith, common_steps, of_three c.loop-note.note-index c.loop-note-test.true);
  second = λ h. grind (arith, common_steps, of_three c.loop-note.note-index c.loop-note-test.true);
  third = λ h. grind (arith, common_steps, of_three c.loop-note.note-index c.loop-note-test.true);
}
