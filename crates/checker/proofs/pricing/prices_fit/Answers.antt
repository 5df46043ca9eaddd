-- `checker::pricing::prices_fit` meets its contract. Assumes nothing.
use Rattle.std.proofs.Common.{sym, ◌∙◌, arith, le-leb}
use Rattle.std.proofs.lemmas.Bool.{lt-leb}
use Rattle.checker.specs.Tariff.{price_limit, prices_fit}
use Rattle.checker.proofs.Prices.{range-all}
use Rattle.checker.proofs.pricing.prices_fit.Goals as goal

pub returns-then-not-in_range : goal.returns-then-not-in_range
unfolding prices_fit
returns-then-not-in_range c =
    let t = c.args.t in
    rw (range-all t 0 t.bands (omega arith) ∙ sym c.if-not-in_range.ensures)

pub returns-then-t-le-PRICE_LIMIT : goal.returns-then-t-le-PRICE_LIMIT
unfolding prices_fit
returns-then-t-le-PRICE_LIMIT c =
    let t = c.args.t in
    rw (range-all t 0 t.bands (omega arith) ∙ sym c.if-not-in_range.ensures, le-leb t.beyond price_limit c.if-t-le-PRICE_LIMIT.true)

pub returns-else-t-le-PRICE_LIMIT : goal.returns-else-t-le-PRICE_LIMIT
unfolding prices_fit
returns-else-t-le-PRICE_LIMIT c =
    let t = c.args.t in
    rw (range-all t 0 t.bands (omega arith) ∙ sym c.if-not-in_range.ensures, lt-leb t.beyond price_limit c.if-t-le-PRICE_LIMIT.false)
