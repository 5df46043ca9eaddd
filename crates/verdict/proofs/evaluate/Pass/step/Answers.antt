-- `verdict::evaluate::Pass::step` meets its contract. A kind that no frame has cannot come: such frames are not accepted.
use mathlib.Core.Path.{ap, ◌∙◌}
use mathlib.Core.List.{◌∷◌}
use native.Mathlib.Omega.{arith}
use borrow.Author.Rules.{sfits_of, rules}
use lib.IntN.{ℤ}
use mir.ValLaws.{to_z-of_z}
use mir.Syntax.{w32, w64}
use mir.Val.{SFits}
use Rattle.rule.specs.Frames.{literal, instance, reference, operand, absolute, negation, arithmetic_at, connective_at}
use Rattle.rule.specs.Decimals.{Term, term}
use Rattle.rule.proofs.Laws.{kind_at, arithmetic-at, relation-at, connective-at, none_15, none_27, none_35}
use Rattle.verdict.specs.Kleene.{not_k, connected}
use Rattle.verdict.specs.Value.{computed, size_of}
use Rattle.verdict.specs.Pass.{with_sums, with_conds, with_reference}
use Rattle.verdict.proofs.ByKind.{none-low, one-made, two-made, size-small, joinable}
use Rattle.verdict.proofs.evaluate.Pass.step.Goals as goal

pub returns-in-1 : goal.returns-in-1
returns-in-1 c =
    let a = c.args in
    let p = a.self.now in
    let f : SFits w32 a.x.value = search rules in
    rw (kind_at (operand literal) a.x.kind c.in-1.is)
    (ap (with_sums p) (c.push.ensures ∙ ap (λ (t : Term ℤ). t ∷ p.sums) (c.new.ensures ∙ ap (λ (z : ℤ). term z a.x.event) (to_z-of_z w32 a.x.value f))))

pub returns-in-2 : goal.returns-in-2
returns-in-2 c = rw (kind_at (operand instance) c.args.x.kind c.in-2.is) (ap (with_sums c.args.self.now) (c.push-in-2.ensures ∙ ap (λ (z : ℤ). term z 0 ∷ c.args.self.now.sums) (to_z-of_z w64 _ (sfits_of c.from.type_inv) ∙ c.from.ensures)))

pub returns-in-3 : goal.returns-in-3
returns-in-3 c =
    let a = c.args in
    rw (kind_at (operand reference) a.x.kind c.in-3.is) (c.put_reference.ensures ∙ ap (with_reference a.scale a.self.now a.mark) (to_z-of_z w32 a.note c.ranges.note))

-- abs
pub pop-a-requires : goal.pop-a-requires
pop-a-requires c = (omega arith, rw (kind_at absolute c.args.x.kind c.in-20.is) at c.requires.ready)

pub abs-requires : goal.abs-requires
abs-requires c =
    size-small c.args.self.now.sums c.pop-a.new.self c.pop-a.result c.pop-a.ensures (rw (kind_at absolute c.args.x.kind c.in-20.is) at c.requires.small)

pub returns-in-20 : goal.returns-in-20
returns-in-20 c =
    let p = c.args.self.now in
    rw (kind_at absolute c.args.x.kind c.in-20.is) (ap (with_sums p) (one-made size_of p.sums _ _ _ _ c.pop-a.ensures c.abs.ensures c.push-in-20.ensures))

-- add, subtract and multiply
pub pop_two-a-requires : goal.pop_two-a-requires
pop_two-a-requires c = (omega arith, rw (arithmetic-at c.args.x.kind (omega arith) (omega arith)) at c.requires.ready)

pub joined-requires : goal.joined-requires
joined-requires c =
    let e = arithmetic-at c.args.x.kind (omega arith) (omega arith) in
    joinable (arithmetic_at c.args.x.kind) c.args.self.now.sums _ _ _ c.pop_two-a.ensures c.requires.few
    (rw e at c.requires.sides) (rw e at c.requires.small)

pub returns-in-17-to-19 : goal.returns-in-17-to-19
returns-in-17-to-19 c =
    let p = c.args.self.now in
    rw (arithmetic-at c.args.x.kind (omega arith) (omega arith))
    (ap (with_sums p) (two-made (computed (arithmetic_at c.args.x.kind)) p.sums _ _ _ _ _ c.pop_two-a.ensures c.joined.ensures c.push-in-17-to-19.ensures))

-- a relation
pub put_relation-requires-clause-two : goal.put_relation-requires-clause-two
put_relation-requires-clause-two c = rw (relation-at c.args.x.kind (omega arith) (omega arith)) at c.requires.ready

pub put_relation-requires-clause-sides : goal.put_relation-requires-clause-sides
put_relation-requires-clause-sides c = rw (relation-at c.args.x.kind (omega arith) (omega arith)) at c.requires.sides

pub returns-in-33-to-38 : goal.returns-in-33-to-38
returns-in-33-to-38 c = rw (relation-at c.args.x.kind (omega arith) (omega arith)) c.put_relation.ensures

-- not
pub pop-p-requires : goal.pop-p-requires
pop-p-requires c = (omega arith, rw (kind_at negation c.args.x.kind c.in-49.is) at c.requires.ready_c)

pub returns-in-49 : goal.returns-in-49
returns-in-49 c =
    let p = c.args.self.now in
    rw (kind_at negation c.args.x.kind c.in-49.is) (ap (with_conds p) (one-made not_k p.conds _ _ _ _ c.pop-p.ensures c.not.ensures c.push-in-49.ensures))

-- and, or and implies
pub pop_two-p-requires : goal.pop_two-p-requires
pop_two-p-requires c = (omega arith, rw (connective-at c.args.x.kind (omega arith) (omega arith)) at c.requires.ready_c)

pub returns-in-50-to-52 : goal.returns-in-50-to-52
returns-in-50-to-52 c =
    let p = c.args.self.now in
    rw (connective-at c.args.x.kind (omega arith) (omega arith))
    (ap (with_conds p) (two-made (connected (connective_at c.args.x.kind)) p.conds _ _ _ _ _ c.pop_two-p.ensures c.connected.ensures c.push-in-50-to-52.ensures))

-- no other kind
pub returns-then-x-lt17 : goal.returns-then-x-lt17
returns-then-x-lt17 c =
    absurd (rw (none-low c.args.x.kind (omega arith) (λ e. omega arith) (λ e. omega arith) (λ e. omega arith)) at c.requires.ready)

pub returns-then-x-lt33 : goal.returns-then-x-lt33
returns-then-x-lt33 c = absurd (rw (none_15 c.args.x.kind (omega arith) (omega arith)) at c.requires.ready)

pub returns-then-x-lt49 : goal.returns-then-x-lt49
returns-then-x-lt49 c = absurd (rw (none_27 c.args.x.kind (omega arith) (omega arith)) at c.requires.ready)

pub returns-else-x-lt53 : goal.returns-else-x-lt53
returns-else-x-lt53 c = absurd (rw (none_35 c.args.x.kind (omega arith) (omega arith)) at c.requires.ready)
