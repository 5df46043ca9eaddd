use borrow.Author.Tests.{ne_eqb}
use mathlib.Core.Path.{refl}
use native.Mathlib.Omega.{arith}
use Rattle.rule.specs.Machine.{step, finish}
use Rattle.rule.specs.Machine as machine
use Rattle.rule.proofs.ReaderParts.{idle, fewer, same, here, acted, take-to, in-names, stands-in, stays}
use Rattle.rule.proofs.text.Reader.+names_of.Goals as goal

pub returns-then-t-ne-NAME_KIND : goal.returns-then-t-ne-NAME_KIND
unfolding step finish
returns-then-t-ne-NAME_KIND t c =
    λ n. same (stands-in (in-names n c.requires) c.peek-t.ensures) idle (λ s. rw (ne_eqb _ _ c.if-t-ne-NAME_KIND.true)) (λ s. refl)

pub returns : goal.returns
unfolding step
returns t c =
    λ n. fewer (take-to (stands-in (in-names n c.requires) c.peek-t.ensures) (omega arith) (acted (machine.declare c.args.role c.from.result) here c.declare.ensures) (stays n c.peek-t.result.kind (omega arith)) (c.names_of.ensures n)
    (λ s. rw (c.if-t-ne-NAME_KIND.false, c.from.ensures)))
