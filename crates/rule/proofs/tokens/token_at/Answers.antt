-- `rule::tokens::token_at` meets its contract: a token ends within the text, so its end fits. Assumes nothing.
use Rattle.std.proofs.Common.{◌+◌, drop, arith}
use Rattle.std.proofs.lemmas.List.{take_rest, length-drop}
use Rattle.rule.proofs.TokenLists.{here}
use Rattle.rule.proofs.tokens.token_at.Goals as goal

pub overflow_add-result : goal.overflow_add-result
overflow_add-result c =
    let s = c.args.at + c.run.result in
    let text = c.args.text.now in
    let e = rw (rw (take_rest text s) at (c.kind_and_width-kind.ensures s)) at (here c.args.points s (drop s text)) in
    record { fits = omega (arith, length-drop s text) }
