-- `rule::sizes::Stack<Magnitude>::step` meets its contract. Assumes nothing.
use Rattle.std.proofs.Common.{◌≡◌, refl, sym, ap, ◌∙◌, Ok, Err, ℕ, rules, arith}
use Rattle.std.proofs.lemmas.Grind.{common_steps}
use Rattle.rule.specs.Frames.{operand, literal, instance, reference, arithmetic, add, multiply, kind_of}
use Rattle.rule.specs.Decimals.{Term}
use Rattle.rule.specs.Tree.{grown}
use Rattle.rule.specs.Sizes.{pushed, topped, sizes_after}
use Rattle.rule.proofs.FrameKinds.{kind_at, sum-range, relation-at, keeping_low, keeping_14, keeping_27}
use Rattle.rule.proofs.FrameMagnitudes.{compared_pair, pushed_saturated, sizes_after_keeping}
use Rattle.rule.proofs.KindEffects.{sums_of_arithmetic, sums_of_relation}
use Rattle.rule.proofs.sizes.Stack+Magnitude.step.Goals as goal

pub pop_two-left-requires : goal.pop_two-left-requires
pop_two-left-requires c = (omega arith, sums_of_arithmetic c.args.x.kind _ c.requires.enough (omega arith) (omega arith))

pub pop_two-left-requires-in-17 : goal.pop_two-left-requires-in-17
pop_two-left-requires-in-17 c = (omega arith, sums_of_arithmetic c.args.x.kind _ c.requires.enough (omega arith) (omega arith))

pub pop_two-left-requires-in-33-to-38 : goal.pop_two-left-requires-in-33-to-38
pop_two-left-requires-in-33-to-38 c = let e = sums_of_relation c.args.x.kind _ c.requires.enough (omega arith) (omega arith) in (omega arith, omega arith)

pub returns-in-1 : goal.returns-in-1
returns-in-1 c = rw (kind_at (operand literal) c.args.x.kind c.in-1.is) (grind (arith, common_steps))

pub returns-in-2 : goal.returns-in-2
returns-in-2 c = rw (kind_at (operand instance) c.args.x.kind c.in-2.is) (search rules)

pub returns-in-3 : goal.returns-in-3
returns-in-3 c = rw (kind_at (operand reference) c.args.x.kind c.in-3.is) (search rules)

pub returns-in-17 : goal.returns-in-17
returns-in-17 c =
    let ms = c.pop_two-left-in-17.new.self in
    c.load-in-17.ensures ∙ ap (λ (t : Term ℕ). pushed t ms) c.plus.ensures ∙ pushed_saturated _ ms ∙ ap (topped (grown add)) (sym c.pop_two-left-in-17.ensures)
    ∙ sum-range (λ o. topped (grown add) c.args.self.now ≡ sizes_after c.args.scale o c.args.x c.args.self.now) c.args.x.kind (omega arith) (omega arith) refl refl

pub returns-in-19 : goal.returns-in-19
returns-in-19 c =
    let ms = c.pop_two-left.new.self in
    rw (kind_at (arithmetic multiply) c.args.x.kind c.in-19.is)
    (c.load-in-19.ensures ∙ ap (λ (t : Term ℕ). pushed t ms) c.times.ensures ∙ pushed_saturated _ ms ∙ ap (topped (grown multiply)) (sym c.pop_two-left.ensures))

pub returns-then-sides_fit : goal.returns-then-sides_fit
returns-then-sides_fit c =
    let e = sums_of_relation c.args.x.kind _ c.requires.enough (omega arith) (omega arith) in
    rw (relation-at c.args.x.kind (omega arith) (omega arith))
    (compared_pair (Ok tt) _ _ c.args.self.now _ c.pop_two-left-in-33-to-38.ensures e (sym c.if-sides_fit.true ∙ c.sides_fit.ensures))

pub returns-else-sides_fit : goal.returns-else-sides_fit
returns-else-sides_fit c =
    let e = sums_of_relation c.args.x.kind _ c.requires.enough (omega arith) (omega arith) in
    rw (relation-at c.args.x.kind (omega arith) (omega arith))
    (compared_pair (Err (record {})) _ _ c.args.self.now _ c.pop_two-left-in-33-to-38.ensures e (sym c.if-sides_fit.false ∙ c.sides_fit.ensures))

pub returns-in_default : goal.returns-in_default
returns-in_default c =
    let b = c.args.x.kind in
    sym (sizes_after_keeping c.args.scale (kind_of b) c.args.x _ (keeping_low b (omega arith) (λ e. omega arith) (λ e. omega arith) (λ e. omega arith)))

pub returns-in_default-2 : goal.returns-in_default-2
returns-in_default-2 c =
    let b = c.args.x.kind in
    sym (sizes_after_keeping c.args.scale (kind_of b) c.args.x _ (keeping_14 b (omega arith) (omega arith)))

pub returns-in_default-3 : goal.returns-in_default-3
returns-in_default-3 c =
    let b = c.args.x.kind in
    sym (sizes_after_keeping c.args.scale (kind_of b) c.args.x _ (keeping_27 b (omega arith) (omega arith)))
