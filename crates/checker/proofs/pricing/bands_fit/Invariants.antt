-- `checker::pricing::bands_fit` meets its contract. Assumes nothing.
use Rattle.std.proofs.Common.{◌≡◌}
use Rattle.checker.specs.Tariff.{bands_of, rise_from}
use Rattle.checker.proofs.Prices.{bands_left}
use Rattle.checker.proofs.pricing.bands_fit.Given as goal

abbrev pub invariant-loop-last : goal.invariant-loop-last
invariant-loop-last l = rise_from 0 (bands_of l.fn.t) ≡ rise_from l.before (bands_left l.fn.t l.last-index)
