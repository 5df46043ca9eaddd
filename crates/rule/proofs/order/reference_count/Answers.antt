use Rattle.std.proofs.Common.{◌∙◌, rules, tests}
use Rattle.std.proofs.lemmas.Iterator.Consumers.{YieldsList-from_filter, count_from_yields_List}
use Rattle.rule.specs.References.{reference_count}
use Rattle.rule.proofs.FrameChunks.{is_reference, kinds_yielded, references_counted}
use Rattle.rule.proofs.order.reference_count.Goals as goal

pub returns : goal.returns
unfolding reference_count
returns c =
    count_from_yields_List _ _ c.count.ensures.ran
    (YieldsList-from_filter _ is_reference (kinds_yielded c.args.frames.now (cc) cc) c.filter.ensures.closure (λ x r q k. search (rules, tests)))
    ∙ references_counted _ c.args.frames.now
