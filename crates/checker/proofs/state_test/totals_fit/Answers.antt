-- `checker::state_test::totals_fit` meets its contract. Assumes nothing.
use Rattle.checker.proofs.CodeStateTest.{sum-from}
use Rattle.checker.proofs.state_test.totals_fit.Goals as goal

pub returns : goal.returns
returns c =
    let a = c.args in
    rw (c.from.ensures, c.from-2.ensures, c.from-3.ensures, c.from-4.ensures, c.from-5.ensures) (sum-from a.first.0 a.p.0 a.totals)
