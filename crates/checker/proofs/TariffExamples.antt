-- Charges, computed: each limit of 28 and 29 from both sides, prices at a band's end, rounding, the order of the refusals, and the
-- document's example. Assumes nothing.
use Rattle.std.proofs.Common.{◌≡◌, ℕ, ◌+◌, true, false, List, [], ◌∷◌, replicate, refl, ap, ◌∙◌}
use Rattle.rule.specs.Frames.{kind_of}
use Rattle.rule.specs.Tree.{postfix, bytes_of}
use Rattle.rule.specs.References.{reference_count}
use Rattle.rule.specs.Order.{order_of}
use Rattle.rule.specs.Sizes.{sizes_fit}
use Rattle.rule.specs.Build.{tree_of}
use Rattle.rule.specs.Check.{checked_of}
use Rattle.rule.proofs.Laws.{latency}
use Rattle.checker.specs.Base.{of_event, referenced, smallest, base, some_not_void, first_from, first_instance}
use Rattle.checker.specs.State.{with_tally, zero_state, fresh_state}
use Rattle.checker.specs.StateTest.{rule_passes, count_passes, all_to, tally_passes, state_passes}
use Rattle.checker.specs.Tariff.{bands_from, bands_of, rise_from, bands_fit, in_range, prices_fit, price_of, price_sum, surcharged, cents_of}
use Rattle.checker.specs.Tariff.{cents, turned, charge_def}
use Rattle.checker.specs.declared.Profile.TheVariants.{Desk}
use Rattle.checker.specs.declared.State.{State}
use Rattle.checker.specs.declared.Tariff.{Tariff}
use Rattle.checker.proofs.Prices.{sum-none}
use Rattle.checker.proofs.Charges.{charged_by, turned_12}

-- a tariff with these bands, where each violation beyond them costs 12 cents and the surcharge is 7 percent
abbrev of : ℕ → List ℕ → List ℕ → Tariff
of n lasts prices = record { bands = n; lasts = lasts; prices = prices; beyond = 12; surcharge = 7 }

-- "45 cents to 10, 30 to 100, 12 beyond and 7 percent"; the other entries are out of every range
abbrev example : Tariff
example = of 2 (10 ∷ 100 ∷ 0 ∷ 4294967295 ∷ []) (45 ∷ 30 ∷ 10001 ∷ 4294967295 ∷ [])

-- no band, and both prices at their limits
abbrev no_band : Tariff
no_band = record { bands = 0; lasts = replicate 4 0; prices = replicate 4 10001; beyond = 10000; surcharge = 100 }

-- ---- "the price of the k-th violation": at each band's last number, and after it
at-ends : (price_of (bands_of example) 12 1 ≡ 45) × (price_of (bands_of example) 12 10 ≡ 45) × (price_of (bands_of example) 12 11 ≡ 30)
    × (price_of (bands_of example) 12 100 ≡ 30) × (price_of (bands_of example) 12 101 ≡ 12)
unfolding bands_from price_of
at-ends = (refl, refl, refl, refl, refl)

no_band_lem : (price_of (bands_of no_band) 10000 1 ≡ 10000) × (price_of (bands_of no_band) 10000 1009999 ≡ 10000)
unfolding bands_from price_of
no_band_lem = (refl, refl)

-- ---- 28
-- "more than four bands"
four : bands_fit (of 4 (1 ∷ 2 ∷ 3 ∷ 1010000 ∷ []) (replicate 4 0)) ≡ true
unfolding bands_from rise_from bands_fit
four = refl

five : bands_fit (of 5 (1 ∷ 2 ∷ 3 ∷ 4 ∷ []) (replicate 4 0)) ≡ false
unfolding bands_from rise_from bands_fit
five = refl

-- "rise strictly from above 0"
from_1 : bands_fit (of 1 (1 ∷ 0 ∷ 0 ∷ 0 ∷ []) (replicate 4 0)) ≡ true
unfolding bands_from rise_from bands_fit
from_1 = refl

from_0 : bands_fit (of 1 (0 ∷ 1 ∷ 2 ∷ 3 ∷ []) (replicate 4 0)) ≡ false
unfolding bands_from rise_from bands_fit
from_0 = refl

next-above : bands_fit (of 3 (10 ∷ 100 ∷ 101 ∷ 0 ∷ []) (replicate 4 0)) ≡ true
unfolding bands_from rise_from bands_fit
next-above = refl

next-same : bands_fit (of 3 (10 ∷ 100 ∷ 100 ∷ 0 ∷ []) (replicate 4 0)) ≡ false
unfolding bands_from rise_from bands_fit
next-same = refl

next-below : bands_fit (of 3 (10 ∷ 100 ∷ 99 ∷ 0 ∷ []) (replicate 4 0)) ≡ false
unfolding bands_from rise_from bands_fit
next-below = refl

-- "exceed 1,010,000": four has 1,010,000
last-over : bands_fit (of 4 (1 ∷ 2 ∷ 3 ∷ 1010001 ∷ []) (replicate 4 0)) ≡ false
unfolding bands_from rise_from bands_fit
last-over = refl

-- entries after the last band are not looked at
others_28 : (bands_fit example ≡ true) × (bands_fit no_band ≡ true)
unfolding bands_from rise_from bands_fit
others_28 = (refl, refl)

-- ---- 29
-- "a price .. out of range", of each band
prices_most : prices_fit (of 4 (1 ∷ 2 ∷ 3 ∷ 4 ∷ []) (replicate 4 10000)) ≡ true
unfolding bands_from in_range prices_fit
prices_most = refl

price-over : (prices_fit (of 4 (1 ∷ 2 ∷ 3 ∷ 4 ∷ []) (10001 ∷ 0 ∷ 0 ∷ 0 ∷ [])) ≡ false)
    × (prices_fit (of 4 (1 ∷ 2 ∷ 3 ∷ 4 ∷ []) (0 ∷ 10001 ∷ 0 ∷ 0 ∷ [])) ≡ false)
    × (prices_fit (of 4 (1 ∷ 2 ∷ 3 ∷ 4 ∷ []) (0 ∷ 0 ∷ 10001 ∷ 0 ∷ [])) ≡ false)
    × (prices_fit (of 4 (1 ∷ 2 ∷ 3 ∷ 4 ∷ []) (0 ∷ 0 ∷ 0 ∷ 10001 ∷ [])) ≡ false)
unfolding bands_from in_range prices_fit
price-over = (refl, refl, refl, refl)

-- the price beyond, and the surcharge; no_band has both at their limits
others_29 : (prices_fit example ≡ true) × (prices_fit no_band ≡ true)
unfolding bands_from in_range prices_fit
others_29 = (refl, refl)

beyond-over : prices_fit (record { bands = 0; lasts = replicate 4 0; prices = replicate 4 0; beyond = 10001; surcharge = 100 }) ≡ false
unfolding bands_from in_range prices_fit
beyond-over = refl

surcharge-over : prices_fit (record { bands = 0; lasts = replicate 4 0; prices = replicate 4 0; beyond = 10000; surcharge = 101 }) ≡ false
unfolding bands_from in_range prices_fit
surcharge-over = refl

-- ---- "rounded half up": 50 cents and 1 percent are 50.5 cents, 49 are 49.49, 51 are 51.51
halves : (surcharged 49 1 ≡ 49) × (surcharged 50 1 ≡ 51) × (surcharged 51 1 ≡ 52)
unfolding surcharged
halves = (refl, refl, refl)

-- "once": two bands of one violation each, 50 cents each and 1 percent, cost 101 cents and not 51 and 51
once : cents_of (record { bands = 2; lasts = 1 ∷ 2 ∷ 0 ∷ 0 ∷ []; prices = 50 ∷ 50 ∷ 0 ∷ 0 ∷ []; beyond = 0; surcharge = 1 }) 2 ≡ 101
unfolding bands_from price_of price_sum surcharged
once = refl

-- one violation more at each band's end; 10 cost 481.5 cents before they are rounded
around : (cents_of example 0 ≡ 0) × (cents_of example 1 ≡ 48) × (cents_of example 9 ≡ 433) × (cents_of example 10 ≡ 482)
    × (cents_of example 11 ≡ 514) × (cents_of example 100 ≡ 3371) × (cents_of example 101 ≡ 3383)
unfolding bands_from price_of price_sum surcharged
around = (refl, refl, refl, refl, refl, refl, refl)

-- so many violations at the highest price and surcharge
greatest : cents_of no_band 1009999 ≡ 20199980000
unfolding bands_from surcharged
greatest = ap (λ (sum : ℕ). surcharged sum 100) (sum-none 10000 1009999)

-- ---- the call: a state of document 01's first rule with these totals
abbrev state : ℕ → ℕ → ℕ → State
state held failed unknown =
    let s = fresh_state Desk (bytes_of (postfix latency)) 1 in
    with_tally s
    (record { counts = s.counts; next = held + failed + unknown; totals = record { held = held; failed = failed; unknown = unknown } })

-- the true and the unknown don't count
beside-others : charge_def (state 3 12 1) example ≡ cents 546
unfolding bands_from rise_from bands_fit in_range prices_fit price_of price_sum surcharged charge_def kind_of reference_count order_of sizes_fit tree_of checked_of of_event referenced smallest base some_not_void first_from first_instance fresh_state with_tally rule_passes count_passes all_to tally_passes state_passes
beside-others = refl

-- the greatest charge, and one violation more than a state can have
most_charged : charge_def (state 0 1009999 0) no_band ≡ cents 20199980000
unfolding bands_from rise_from bands_fit in_range prices_fit kind_of reference_count order_of sizes_fit tree_of checked_of of_event referenced smallest base some_not_void first_from first_instance fresh_state with_tally rule_passes count_passes all_to tally_passes state_passes
most_charged = charged_by (state 0 1009999 0) no_band refl refl refl ∙ ap cents greatest

one_too_many : charge_def (state 0 1010000 0) no_band ≡ turned 12 0
unfolding bands_from rise_from bands_fit in_range prices_fit kind_of reference_count order_of sizes_fit tree_of checked_of of_event referenced smallest base some_not_void first_from first_instance fresh_state with_tally rule_passes count_passes all_to tally_passes state_passes
one_too_many = turned_12 (state 0 1010000 0) no_band refl refl refl

-- "With 45 cents to 10, 30 to 100, 12 beyond and 7 percent, 12 violations cost 546 cents"
pub document_example : (s : State) (l l' p p' : ℕ) → state_passes s ≡ true → s.totals.failed ≡ 12
    → charge_def s (of 2 (10 ∷ 100 ∷ l ∷ l' ∷ []) (45 ∷ 30 ∷ p ∷ p' ∷ [])) ≡ cents 546
unfolding bands_from rise_from bands_fit in_range prices_fit price_of price_sum surcharged charge_def
document_example s l l' p p' g e = rw (g, e)

-- "28 .. 29 .. in this order, first .. 12 tests afterwards"
bad_29 : Tariff
bad_29 = record { bands = 1; lasts = replicate 4 1; prices = replicate 4 10001; beyond = 0; surcharge = 0 }

bad-both : Tariff
bad-both = record { bands = 1; lasts = replicate 4 0; prices = replicate 4 10001; beyond = 0; surcharge = 0 }

order : (charge_def zero_state bad-both ≡ turned 28 0) × (charge_def zero_state bad_29 ≡ turned 29 0) × (charge_def zero_state example ≡ turned 12 0)
unfolding bad_29 bad-both bands_from rise_from bands_fit in_range prices_fit charge_def checked_of rule_passes state_passes
order = (refl, refl, refl)
