-- Two lists for one rule, of which one's accepted lines begin the other's, agree on every verdict that both hand out.
-- Assumes nothing.
use Rattle.std.proofs.Common.{◌≡◌, ℕ, ◌+◌, ◌<◌, List, length, get_or, ℤ, sym, ◌∙◌}
use Rattle.verdict.specs.Later.{MoreLines}
use Rattle.verdict.specs.declared.Verdict.TheVariants.{Unknown}
use Rattle.checker.specs.Base.{first_for}
use Rattle.checker.specs.Calls.{Call, outs, end, checker}
use Rattle.checker.specs.Machine.{at_first, machine_for}
use Rattle.checker.specs.Demand.{Unrefused, fresh, verdicts}
use Rattle.checker.specs.declared.Profile.{Profile}
use Rattle.checker.proofs.Final.{said, said-stays, final, verdict-one, instances_from_at}

module _ {profile profile' : Profile} {frames : List ℕ} {w w' : ℕ} {win win' : List ℤ} (o : Unrefused profile frames w win) (o' : Unrefused profile' frames w' win') (cs cs' : List Call) where
  pub agree : MoreLines (end (machine_for frames w) cs (at_first frames)).lists (end (machine_for frames w') cs' (at_first frames)).lists → (i : ℕ)
      → i < length (verdicts (outs checker cs (fresh profile frames w win))) → i < length (verdicts (outs checker cs' (fresh profile' frames w' win')))
      → get_or (verdicts (outs checker cs (fresh profile frames w win))) i Unknown ≡ get_or (verdicts (outs checker cs' (fresh profile' frames w' win'))) i Unknown
  agree more i h h' =
      let vs = verdicts (outs checker cs (fresh profile frames w win)) in
      let vs' = verdicts (outs checker cs' (fresh profile' frames w' win')) in
      let m = end (machine_for frames w) cs (at_first frames) in
      let m' = end (machine_for frames w') cs' (at_first frames) in
      let a = instances_from_at vs (first_for frames) (said frames m) i (final o cs) h in
      let a' = instances_from_at vs' (first_for frames) (said frames m') i (final o' cs') h' in
      verdict-one (get_or vs i Unknown) (get_or vs' i Unknown)
      (sym (said-stays frames m m' (first_for frames + i) (get_or vs i Unknown) more (sym a)) ∙ sym a')
