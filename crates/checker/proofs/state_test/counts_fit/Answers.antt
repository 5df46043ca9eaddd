-- `checker::state_test::counts_fit` meets its contract. Assumes nothing.
use Rattle.std.proofs.Common.{ℕ, Option, ◌∙◌, rules, arith}
use Rattle.std.proofs.lemmas.Iterator.{YieldsList-from_slice, YieldsList-from_zip}
use Rattle.std.proofs.lemmas.Iterator.Search.{all_from_yields_List}
use borrow.Author.Tests.{tests}
use Rattle.checker.specs.BasePass.{count_fits}
use Rattle.checker.proofs.CodeBase.{zip-fit}
use Rattle.checker.proofs.state_test.counts_fit.Goals as goal

pub returns : goal.returns
returns c =
    let a = c.args in
    all_from_yields_List (λ (x : Option ℕ × ℕ). count_fits a.width x.0 x.1) c.all.new.self _ c.all.result c.all.ensures.ran
    (YieldsList-from_zip (YieldsList-from_slice a.bases (cc)) (YieldsList-from_slice a.counts (cc))) (λ x b q k. search (rules, tests))
    ∙ zip-fit a.width a.bases a.counts (omega arith) (omega arith)
