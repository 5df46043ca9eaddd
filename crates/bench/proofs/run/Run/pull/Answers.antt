-- `bench::run::Run::pull` is one pull. Assumes nothing.
use Rattle.std.proofs.Common.{◌≡◌, ℕ, false, List, [], sym, refl, rules}
use denote.Enum.Bare.{sameb, same_true}
use Rattle.verdict.specs.contracts.Verdict.{the_type}
use Rattle.verdict.specs.declared.Verdict.{Verdict}
use Rattle.verdict.specs.declared.Verdict.TheVariants.{True, False, Unknown}
use Rattle.checker.specs.Answer.{verdict}
use Rattle.bench.specs.Progress.{printed}
use Rattle.bench.proofs.RunLaws.{pulled_as, pulled_quiet, pulled_in}
use Rattle.bench.proofs.run.Run.pull.Goals as goal

-- a verdict that is not false prints nothing
quiet : (v : Verdict) (report : List ℕ) → false ≡ sameb the_type v False → printed (verdict v) report ≡ []
quiet True report e = refl
quiet Unknown report e = refl
quiet False report e = cc

pub invariant_of-self : goal.invariant_of-self
invariant_of-self c = pulled_in _ c.self.invariant _ _ c.pull_admitted.ensures

pub invariant_of-self-then-eq : goal.invariant_of-self-then-eq
invariant_of-self-then-eq c = pulled_in _ c.self.invariant _ _ c.pull_admitted.ensures

pub invariant_of-self-else-eq : goal.invariant_of-self-else-eq
invariant_of-self-else-eq c = pulled_in _ c.self.invariant _ _ c.pull_admitted.ensures

pub returns-in_default-clause-once : goal.returns-in_default-clause-once
returns-in_default-clause-once c =
    rw (← c.self.view_is) (pulled_quiet _ c.pull_admitted.ensures (rw c.in_default.is))

pub returns-then-eq-clause-once : goal.returns-then-eq-clause-once
returns-then-eq-clause-once c =
    let e : c.in-Some.verdict ≡ False = same_true the_type (search rules) _ _ (sym c.if-eq.ensures) in
    rw (← c.self.view_is) (pulled_as _ c.pull_admitted.ensures (rw (c.in-Some.is, e) (rw c.report_part.ensures at c.put_line.ensures)))

pub returns-else-eq-clause-once : goal.returns-else-eq-clause-once
returns-else-eq-clause-once c =
    rw (← c.self.view_is) (pulled_quiet _ c.pull_admitted.ensures (rw c.in-Some.is (quiet c.in-Some.verdict _ c.if-eq.ensures)))
