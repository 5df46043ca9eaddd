-- `checker::pricing::cents` meets its contract. Assumes nothing.
use Rattle.checker.proofs.Prices.{fits, sum-within}
use Rattle.checker.proofs.pricing.cents.Goals as goal

pub with_surcharge-requires : goal.with_surcharge-requires
with_surcharge-requires c =
    let a = c.args in
    let f = fits a.t c.requires.0 c.requires.1.0 in
    (rw c.price_sum.ensures (sum-within a.t f a.n c.requires.1.1), f.surcharge)
