-- `bench::run::Run::pull_all` pulls until waiting. Assumes nothing.
use Rattle.std.proofs.Common.{◌≡◌, ◌+◌, ◌-◌, true, false, sym, ◌∙◌, arith}
use Rattle.bench.specs.Progress.{pull_limit}
use Rattle.bench.proofs.RunLaws.{pull-next, pulls_none}
use Rattle.bench.proofs.run.Run.pull_all.Goals as goal

pub loop-preserved : goal.loop-preserved
loop-preserved c =
    let e : pull_limit - (c.loop.counter + 1) ≡ pull_limit - c.loop.counter - 1 = omega arith in
    rw e (pull-next _ _ _ (pull_limit - c.loop.counter) true (omega arith) c.loop.invariant c.pull.ensures.once (sym c.if-not-pull.false ∙ c.pull.ensures.verdict))

pub returns-after-loop : goal.returns-after-loop
returns-after-loop c = pulls_none _ _ (pull_limit - c.loop.counter) (omega arith) c.loop.invariant

pub returns-then-not-pull : goal.returns-then-not-pull
returns-then-not-pull c =
    pull-next _ _ _ (pull_limit - c.loop.counter) false (omega arith) c.loop.invariant c.pull.ensures.once (sym c.if-not-pull.true ∙ c.pull.ensures.verdict)
