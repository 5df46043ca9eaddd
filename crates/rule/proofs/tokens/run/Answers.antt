-- `rule::tokens::run` meets its contract: `take_while` and `count` give the longest front. Assumes nothing.
use Rattle.std.proofs.Common.{◌∙◌, sym, eqb, rules, tests}
use Rattle.std.proofs.lemmas.Iterator.{YieldsList-from_slice}
use Rattle.std.proofs.lemmas.Iterator.Consumers.{YieldsList-at, count_from_yields_List}
use Rattle.std.proofs.lemmas.Iterator.Search.{YieldsList-from_take_while}
use Rattle.std.proofs.lemmas.List.Folds.{length-prefix_len}
use Rattle.rule.specs.Class.{class_of}
use Rattle.rule.proofs.TokenSpans.{span_told}
use Rattle.rule.proofs.tokens.run.Goals as goal

pub returns-clause-value : goal.returns-clause-value
returns-clause-value c =
    let bs = c.args.bytes.now in
    count_from_yields_List _ _ c.count.ensures.ran
    (YieldsList-from_take_while _ (λ b. eqb (class_of b) c.args.class)
    (YieldsList-at c.take_while.ensures.source (YieldsList-from_slice bs cc)) c.take_while.ensures.closure c.take_while.ensures.done (λ x b q k. search (rules, tests)))
    ∙ length-prefix_len _ bs ∙ sym (span_told c.args.class bs)
