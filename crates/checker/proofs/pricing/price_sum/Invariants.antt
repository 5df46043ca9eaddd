-- `checker::pricing::price_sum` meets its contract. Assumes nothing.
use Rattle.std.proofs.Common.{length}
use Rattle.checker.proofs.Prices.{Priced}
use Rattle.checker.proofs.pricing.price_sum.Given as goal

abbrev pub invariant-loop-last : goal.invariant-loop-last
invariant-loop-last l = Priced l.fn.t l.n (length l.yielded) l.sum l.priced
