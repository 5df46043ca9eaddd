-- Every list of calls: the checker gives what the plain machine gives. Assumes nothing.
use Rattle.std.proofs.Common.{◌≡◌, ℕ, List, [], ◌∷◌, ℤ, sym, refl, ◌∙◌, ap₂}
use Rattle.checker.specs.State.{tally_in}
use Rattle.checker.specs.Calls.{Call, outs, end, Checker, checker}
use Rattle.checker.specs.Machine.{Machine, at_first, tally_of, machine_for}
use Rattle.checker.specs.Demand.{Unrefused, fresh}
use Rattle.checker.specs.declared.Profile.{Profile}
use Rattle.checker.proofs.Simulation.{Fine, Both, out_step, next-step}
use Rattle.checker.proofs.Fresh.{opened-fine, both-opened}

module _ (frames : List ℕ) (w : ℕ) (ok : Fine frames w) where
  all-outs : (cs : List Call) (m : Machine) (k : Checker) → Both frames w m k → outs checker cs k ≡ outs (machine_for frames w) cs m
  unfolding outs
  all-outs [] m k b = refl
  all-outs (c ∷ cs) m k b = ap₂ ◌∷◌ (out_step frames w ok m k b c) (all-outs cs _ _ (next-step frames w ok m k b c))

  all_end : (cs : List Call) (m : Machine) (k : Checker) → Both frames w m k → Both frames w (end (machine_for frames w) cs m) (end checker cs k)
  unfolding end
  all_end [] m k b = b
  all_end (c ∷ cs) m k b = all_end cs _ _ (next-step frames w ok m k b c)

module _ {profile : Profile} {frames : List ℕ} {w : ℕ} {win : List ℤ} (o : Unrefused profile frames w win) (cs : List Call) where
  pub answers : outs checker cs (fresh profile frames w win) ≡ outs (machine_for frames w) cs (at_first frames)
  answers = all-outs frames w (opened-fine o) cs (at_first frames) (fresh profile frames w win) (both-opened o)

  -- checker and machine are in step after the list
  pub in_step : Both frames w (end (machine_for frames w) cs (at_first frames)) (end checker cs (fresh profile frames w win))
  in_step = all_end frames w (opened-fine o) cs (at_first frames) (fresh profile frames w win) (both-opened o)

  pub state : tally_in (end checker cs (fresh profile frames w win)).state ≡ tally_of (end (machine_for frames w) cs (at_first frames))
  state = in_step.sim.tally

-- whoever opened it, at the desk or on the board, and whatever the window held
pub same-answers : {profile profile' : Profile} {frames : List ℕ} {w : ℕ} {win win' : List ℤ} → Unrefused profile frames w win → Unrefused profile' frames w win'
    → (cs : List Call) → outs checker cs (fresh profile frames w win) ≡ outs checker cs (fresh profile' frames w win')
same-answers o o' cs = answers o cs ∙ sym (answers o' cs)
