-- `rule::names::name_code` meets its contract. The invariant: the letters so far are read, and their number leaves room for one more. Assumes nothing.
use Rattle.std.proofs.Common.{◌≤◌, ◌∙◌, ap, sym, arith, length}
use Rattle.std.specs.List.{fold}
use Rattle.std.proofs.lemmas.Grind.{common_steps}
use Rattle.std.proofs.lemmas.Iterator.Adapters.{YieldsList-from_rev_slice}
use Rattle.std.proofs.lemmas.Iterator.Consumers.{YieldsList-end}
use Rattle.rule.proofs.TokenCodes.{with_letter, code-room, code_told, short-code}
use Rattle.rule.proofs.names.name_code.Goals as goal

pub overflow_mul-v : goal.overflow_mul-v
overflow_mul-v c =
    let n : length c.loop-b.yielded ≤ 11 = grind (arith, common_steps) in
    let h = code-room _ _ c.loop-b.invariant.room n in
    record { fits = omega arith }

pub overflow_add-v : goal.overflow_add-v
overflow_add-v c =
    let n : length c.loop-b.yielded ≤ 11 = grind (arith, common_steps) in
    let h = code-room _ _ c.loop-b.invariant.room n in
    record { fits = omega arith }

pub returns : goal.returns
returns c =
    let t = YieldsList-end (YieldsList-from_rev_slice c.args.word.now cc) c.loop-b.yielded _ c.loop-b.yielded_by _ _ c.in-None.is c.next.ensures.steps in
    c.loop-b.invariant.number ∙ (ap (fold with_letter 0) t.0 ∙ (sym (code_told c.args.word.now) ∙ sym (short-code c.args.word.now (omega arith))))
