-- `rule::check_body` meets its contract. Assumes nothing.
use mathlib.Core.Path.{sym, ◌∙◌}
use native.Mathlib.Omega.{arith}
use Rattle.rule.proofs.FrameOrder.{place_le, fine-order}
use Rattle.rule.proofs.check_body.Goals as goal

pub overflow_add-result : goal.overflow_add-result
overflow_add-result c =
    let h = place_le c.args.head.most c.args.frames.now c.in-Err.misplaced (sym c.order.ensures ∙ c.in-Err.is) in
    omega (arith, h, c.requires.short, c.requires.one)

pub overflow_cast-result : goal.overflow_cast-result
overflow_cast-result c =
    let h = place_le c.args.head.most c.args.frames.now c.in-Err.misplaced (sym c.order.ensures ∙ c.in-Err.is) in
    record { fits = omega (arith, h, c.requires.short, c.requires.one) }

pub check_sizes-requires : goal.check_sizes-requires
check_sizes-requires c =
    let o = fine-order c.args.head.most c.args.frames.now c.in-Ok.field-0 (sym c.order.ensures ∙ c.in-Ok.is) in
    record { rule = record { most = c.args.head.most; few = c.requires.most_few; order = o }; short = c.requires.short; scale_few = c.requires.decimals_few }
