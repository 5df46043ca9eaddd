-- Each verdict that a list of calls hands out is that of the value of the rule's tree at its instance. Assumes nothing.
use Rattle.std.proofs.Common.{◌≡◌, ℕ, ◌+◌, ◌<◌, Bool, true, false, cond, List, length, get_or, ℤ}
use Rattle.rule.specs.Build.{tree_of}
use Rattle.verdict.specs.Found.{given_in}
use Rattle.verdict.specs.Settled.{settled, verdict_of}
use Rattle.verdict.specs.Value.{value}
use Rattle.verdict.specs.declared.Verdict.{Verdict}
use Rattle.verdict.specs.declared.Verdict.TheVariants.{Unknown}
use Rattle.std.specs.Prelude.{Some, None}
use Rattle.checker.specs.Base.{first_for}
use Rattle.checker.specs.Calls.{Call}
use Rattle.checker.specs.Demand.{Unrefused, machine_after, handed_out}
use Rattle.checker.specs.declared.Profile.{Profile}
use Rattle.checker.proofs.Simulation.{verdict-settled}
use Rattle.checker.proofs.Final.{said, final, verdict-one, instances_from_at}

-- a verdict that is said is the value's
from-said : (b : Bool) (v t : Verdict) → Some v ≡ cond b (Some t) None → v ≡ t
from-said true v t q = verdict-one v t q
from-said false v t q = absurd (verdict-settled v q)

module _ {profile : Profile} {frames : List ℕ} {w : ℕ} {win : List ℤ} (o : Unrefused profile frames w win) (cs : List Call) where
  pub value_of : (i : ℕ) → i < length (handed_out profile frames w win cs)
      → get_or (handed_out profile frames w win cs) i Unknown ≡ verdict_of (value (given_in (machine_after frames w cs).lists (first_for frames + i)) (tree_of frames))
  value_of i h =
      let m = machine_after frames w cs in
      let g = given_in m.lists (first_for frames + i) in
      from-said (settled g (tree_of frames)) (get_or (handed_out profile frames w win cs) i Unknown) (verdict_of (value g (tree_of frames)))
      (instances_from_at (handed_out profile frames w win cs) (first_for frames) (said frames m) i (final o cs) h)
