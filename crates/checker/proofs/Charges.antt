-- What charges come to: more violations never cost less, the greatest charge, rounding, what each refusal says, and the charge after a
-- list of calls. Assumes nothing.
use Rattle.std.proofs.Common.{◌≡◌, ℕ, zero, suc, ◌+◌, ◌*◌, ◌<◌, ◌≤◌, Bool, true, false, cond, ◌↔◌, List, ℤ, sym, refl, ap, ◌∙◌, ⊎_elim, mul-le-mul_right, mul-le-mul, arith, lt-ltb, le-leb}
use Rattle.std.specs.Prelude.{Result, Ok, Err}
use Rattle.numbers.proofs.Bools.{true-false, true-and}
use Rattle.verdict.specs.Found.{instance_limit}
use Rattle.verdict.specs.declared.Verdict.TheVariants.{False}
use Rattle.rule.specs.Check.{checked_of}
use Rattle.checker.specs.State.{zero_state}
use Rattle.checker.specs.StateTest.{rule_passes, state_passes}
use Rattle.checker.specs.Calls.{Call}
use Rattle.checker.specs.Demand.{Unrefused, count_in, checker_after, machine_after, handed_out}
use Rattle.checker.specs.Tariff.{band_limit, last_limit, price_limit, surcharge_limit}
use Rattle.checker.specs.Tariff.{Band, band_at, bands_of, rise_from, bands_fit, in_range, prices_fit, price_sum, surcharged, cents_of}
use Rattle.checker.specs.Tariff.{Charge, cents, turned, charge_told, charge_def, BandsRise, PricesInRange, ChargeRefused, bad_bands, bad_prices, bad_state}
use Rattle.checker.specs.declared.Profile.{Profile}
use Rattle.checker.specs.declared.State.{State}
use Rattle.checker.specs.declared.Totals.{Totals}
use Rattle.checker.specs.declared.Tariff.{Tariff}
use Rattle.checker.specs.declared.refusals.Refusal.{Refusal}
use Rattle.checker.proofs.RefusalLaws.{refusal_same}
use Rattle.checker.specs.Refusals.{refusal_number, refusal_place}
use Rattle.checker.proofs.Choices.{never_true, less_or}
use Rattle.checker.proofs.CodeStateTest.{good_facts}
use Rattle.checker.proofs.Fresh.{opened-fine}
use Rattle.checker.proofs.Lists as lists
use Rattle.checker.proofs.Sums as sums
use Rattle.checker.proofs.Simulation as simulation
use Rattle.checker.proofs.Prices.{bands_left, left-first, follows, rise-step, rise-none, range-step, range_none, last_before, rise-at, range_at}
use Rattle.checker.proofs.Prices.{bands_facts, prices_facts, Fits, fits, sum_bound}

-- ---- more violations
sum_more : (bs : List Band) (beyond m n : ℕ) → m ≤ n → price_sum bs beyond m ≤ price_sum bs beyond n
unfolding price_sum
sum_more bs beyond m zero h =
    let q : m ≡ 0 = omega arith in
    rw q (omega arith)
sum_more bs beyond m (suc n) h =
    ⊎_elim
    (λ (l : m < suc n). omega (arith, sum_more bs beyond m n (omega arith)))
    (λ (l : suc n ≤ m). let q : m ≡ suc n = omega arith in rw q (omega arith))
    (less_or m (suc n))

surcharge-more : (x y percent : ℕ) → x ≤ y → surcharged x percent ≤ surcharged y percent
unfolding surcharged
surcharge-more x y percent h = omega (arith, mul-le-mul_right (100 + percent) h)

pub more : (t : Tariff) (m n : ℕ) → m ≤ n → cents_of t m ≤ cents_of t n
more t m n h = surcharge-more _ _ t.surcharge (sum_more (bands_of t) t.beyond m n h)

-- ---- 28 and 29 are what they say
rise-above : (t : Tariff) → rise_from 0 (bands_of t) ≡ true → (j : ℕ) → j ≤ t.bands → (i : ℕ) → i < j → (band_at t i).last ≤ last_before t j
unfolding last_before
rise-above t e zero h i l = absurd (omega arith)
rise-above t e (suc j) h i l =
    ⊎_elim
    (λ (a : i < j). omega (arith, rise-above t e j (omega arith) i a, (rise-at t e j (omega arith)).0))
    (λ (a : j ≤ i). let q : i ≡ j = omega arith in rw q (omega arith))
    (less_or i j)

pub rise_facts : (t : Tariff) → bands_fit t ≡ true → BandsRise t
rise_facts t e =
    let a = bands_facts t e in
    record {
      few = a.0;
      above = λ j h. omega (arith, (rise-at t a.1 j h).0);
      rise = λ i j l h. omega (arith, rise-above t a.1 j (omega arith) i l, (rise-at t a.1 j h).0);
      most = λ j h. (rise-at t a.1 j h).1;
    }

-- each last number follows the one before
rise-follows : (t : Tariff) → BandsRise t → (j : ℕ) → j < t.bands → follows (last_before t j) (band_at t j).last ≡ true
unfolding last_before
rise-follows t r zero h = true-and _ _ (lt-ltb 0 (band_at t 0).last (r.above 0 h)) (le-leb (band_at t 0).last last_limit (r.most 0 h))
rise-follows t r (suc j) h =
    true-and _ _
    (lt-ltb (band_at t j).last (band_at t (suc j)).last (r.rise j (suc j) (omega arith) h))
    (le-leb (band_at t (suc j)).last last_limit (r.most (suc j) h))

-- so 28 goes on from band to band
rise-on : (t : Tariff) → BandsRise t → (j : ℕ) → j ≤ t.bands → rise_from 0 (bands_of t) ≡ rise_from (last_before t j) (bands_left t j)
unfolding last_before
rise-on t r zero h = ap (rise_from 0) (left-first t)
rise-on t r (suc j) h = rise-on t r j (omega arith) ∙ rise-step t j (last_before t j) true (omega arith) (rise-follows t r j (omega arith))

pub rise-fits : (t : Tariff) → BandsRise t → bands_fit t ≡ true
unfolding bands_fit
rise-fits t r =
    true-and _ _ (le-leb t.bands band_limit r.few)
    (rise-on t r t.bands (omega arith) ∙ rise-none t t.bands (last_before t t.bands) (omega arith))

pub range_facts : (t : Tariff) → prices_fit t ≡ true → PricesInRange t
range_facts t e =
    let a = prices_facts t e in
    record { each = λ j h. range_at t a.0 j h; beyond = a.1; surcharge = a.2 }

range-on : (t : Tariff) → PricesInRange t → (j : ℕ) → j ≤ t.bands → in_range (bands_of t) ≡ in_range (bands_left t j)
range-on t r zero h = ap in_range (left-first t)
range-on t r (suc j) h = range-on t r j (omega arith) ∙ range-step t j true (omega arith) (le-leb (band_at t j).price price_limit (r.each j (omega arith)))

pub range-fits : (t : Tariff) → PricesInRange t → prices_fit t ≡ true
unfolding prices_fit
range-fits t r =
    true-and _ _
    (true-and _ _ (range-on t r t.bands (omega arith) ∙ range_none t t.bands (omega arith)) (le-leb t.beyond price_limit r.beyond))
    (le-leb t.surcharge surcharge_limit r.surcharge)

-- ---- the call, by its three tests
abbrev charge_by : Bool → Bool → Bool → ℕ → Charge
charge_by x y z n = cond x (cond y (cond z (cents n) (turned 12 0)) (turned 29 0)) (turned 28 0)

abbrev is_cents : Charge → Bool
is_cents (cents c) = true
is_cents (turned number place) = false

abbrev cents_in : Charge → ℕ
cents_in (cents c) = c
cents_in (turned number place) = 0

abbrev number_in : Charge → ℕ
number_in (cents c) = 0
number_in (turned number place) = number

abbrev place_in : Charge → ℕ
place_in (cents c) = 0
place_in (turned number place) = place

by-cents : (x y z : Bool) (n c : ℕ) → charge_by x y z n ≡ cents c → (x ≡ true) × ((y ≡ true) × ((z ≡ true) × (c ≡ n)))
by-cents true true true n c e = (refl, (refl, (refl, sym (ap cents_in e))))
by-cents true true false n c e = absurd (true-false (sym (ap is_cents e)))
by-cents true false z n c e = absurd (true-false (sym (ap is_cents e)))
by-cents false y z n c e = absurd (true-false (sym (ap is_cents e)))

pub charged_facts : (s : State) (t : Tariff) (c : ℕ) → charge_def s t ≡ cents c
    → (bands_fit t ≡ true) × ((prices_fit t ≡ true) × ((state_passes s ≡ true) × (c ≡ cents_of t s.totals.failed)))
unfolding charge_def
charged_facts s t c e = by-cents (bands_fit t) (prices_fit t) (state_passes s) (cents_of t s.totals.failed) c e

pub charged_by : (s : State) (t : Tariff) → bands_fit t ≡ true → prices_fit t ≡ true → state_passes s ≡ true → charge_def s t ≡ cents (cents_of t s.totals.failed)
unfolding charge_def
charged_by s t a b g = rw (a, b, g)

-- and each of the three that fails
pub turned_28 : (s : State) (t : Tariff) → bands_fit t ≡ false → charge_def s t ≡ turned 28 0
unfolding charge_def
turned_28 s t a = rw a

pub turned_29 : (s : State) (t : Tariff) → bands_fit t ≡ true → prices_fit t ≡ false → charge_def s t ≡ turned 29 0
unfolding charge_def
turned_29 s t a b = rw (a, b)

pub turned_12 : (s : State) (t : Tariff) → bands_fit t ≡ true → prices_fit t ≡ true → state_passes s ≡ false → charge_def s t ≡ turned 12 0
unfolding charge_def
turned_12 s t a b g = rw (a, b, g)

pub charges_exactly : (s : State) (t : Tariff) (c : ℕ) → (charge_def s t ≡ cents c)
    ↔ (BandsRise t × (PricesInRange t × ((state_passes s ≡ true) × (c ≡ cents_of t s.totals.failed))))
charges_exactly s t c = (
  λ e. let f = charged_facts s t c e in (rise_facts t f.0, (range_facts t f.1.0, f.1.1)),
  λ f. charged_by s t (rise-fits t f.0) (range-fits t f.1.0) f.1.1.0 ∙ ap cents (sym f.1.1.1),
)

-- ---- what is told fixes the answer
pub charge_told_injective : (a b : Result ℕ Refusal) → charge_told a ≡ charge_told b → a ≡ b
charge_told_injective (Ok x) (Ok y) e = cc
charge_told_injective (Ok x) (Err b) e = cc
charge_told_injective (Err a) (Ok y) e = cc
charge_told_injective (Err a) (Err b) e = let n : refusal_number a ≡ refusal_number b = cc in let p : refusal_place a ≡ refusal_place b = cc in ap Err (refusal_same a b n p)

-- ---- what each refusal says
refused-by : (s : State) (t : Tariff) (x y z : Bool) (n number place : ℕ) → bands_fit t ≡ x → prices_fit t ≡ y → state_passes s ≡ z
    → charge_by x y z n ≡ turned number place → ChargeRefused s t number place
refused-by s t true true true n number place a b g e = absurd (true-false (ap is_cents e))
refused-by s t true true false n number place a b g e =
    rw (sym (ap number_in e), sym (ap place_in e)) (bad_state (rise_facts t a) (range_facts t b) g)
refused-by s t true false z n number place a b g e =
    rw (sym (ap number_in e), sym (ap place_in e)) (bad_prices (rise_facts t a) (λ r. true-false (sym (range-fits t r) ∙ b)))
refused-by s t false y z n number place a b g e =
    rw (sym (ap number_in e), sym (ap place_in e)) (bad_bands (λ r. true-false (sym (rise-fits t r) ∙ a)))

refused-back : (s : State) (t : Tariff) (number place : ℕ) → ChargeRefused s t number place → charge_def s t ≡ turned number place
refused-back s t _ _ (bad_bands h) = turned_28 s t (never_true (bands_fit t) (λ e. h (rise_facts t e)))
refused-back s t _ _ (bad_prices r h) = turned_29 s t (rise-fits t r) (never_true (prices_fit t) (λ e. h (range_facts t e)))
refused-back s t _ _ (bad_state r p g) = turned_12 s t (rise-fits t r) (range-fits t p) g

pub charge_refused : (s : State) (t : Tariff) (number place : ℕ) → (charge_def s t ≡ turned number place) ↔ ChargeRefused s t number place
unfolding charge_def
charge_refused s t number place =
    (refused-by s t (bands_fit t) (prices_fit t) (state_passes s) (cents_of t s.totals.failed) number place refl refl refl, refused-back s t number place)

-- the state that a refused opening hands back
pub zero_charge : (t : Tariff) → BandsRise t → PricesInRange t → charge_def zero_state t ≡ turned 12 0
unfolding state_passes rule_passes checked_of
zero_charge t r p = turned_12 zero_state t (rise-fits t r) (range-fits t p) refl

-- ---- the greatest charge
cents-most : (t : Tariff) → Fits t → (n : ℕ) → n ≤ instance_limit → cents_of t n ≤ instance_limit * price_limit * 2
unfolding surcharged
cents-most t f n h =
    let s = sum_bound (bands_of t) t.beyond n f.range f.beyond in
    let a : price_sum (bands_of t) t.beyond n ≤ instance_limit * price_limit = omega (arith, s) in
    let b : price_sum (bands_of t) t.beyond n * (100 + t.surcharge) ≤ instance_limit * price_limit * 200 = mul-le-mul {m₂ = 200} a (omega (arith, f.surcharge)) in
    omega (arith, b)

-- 12 lets no more violations through than instances
pub failed-most : (s : State) → state_passes s ≡ true → s.totals.failed ≤ instance_limit
failed-most s g =
    let c = (good_facts s g).totals in
    omega (arith, c.sum, c.low)

pub cents_bound : (s : State) (t : Tariff) (c : ℕ) → charge_def s t ≡ cents c → c ≤ instance_limit * price_limit * 2
cents_bound s t c e =
    let f = charged_facts s t c e in
    rw f.1.1.1 (cents-most t (fits t f.0 f.1.0) s.totals.failed (failed-most s f.1.1.0))

-- ---- rounding: the cents are the whole number next to the sum with its surcharge, the greater of two as near
pub cents_nearest : (t : Tariff) (n : ℕ)
    → (200 * cents_of t n ≤ 2 * (price_sum (bands_of t) t.beyond n * (100 + t.surcharge)) + 100)
    × (2 * (price_sum (bands_of t) t.beyond n * (100 + t.surcharge)) + 100 < 200 * cents_of t n + 200)
unfolding surcharged
cents_nearest t n = (omega arith, omega arith)

-- ---- two charges by one tariff
pub more_charged : (s s' : State) (t : Tariff) (c c' : ℕ) → charge_def s t ≡ cents c → charge_def s' t ≡ cents c'
    → s.totals.failed ≤ s'.totals.failed → c ≤ c'
more_charged s s' t c c' e e' h =
    rw ((charged_facts s t c e).1.1.1, (charged_facts s' t c' e').1.1.1) (more t s.totals.failed s'.totals.failed h)

-- ---- after a list of calls
pub charged_after : {profile : Profile} {frames : List ℕ} {w : ℕ} {win : List ℤ} → Unrefused profile frames w win → (cs : List Call) (t : Tariff) → BandsRise t → PricesInRange t
    → charge_def (checker_after profile frames w win cs).state t ≡ cents (cents_of t (count_in (handed_out profile frames w win cs) False))
charged_after {profile} {frames} {w} {win} o cs t r p =
    let k = checker_after profile frames w win cs in
    let g = simulation.good frames w (opened-fine o) (machine_after frames w cs) k (lists.in_step o cs) in
    charged_by k.state t (rise-fits t r) (range-fits t p) g
    ∙ ap (λ (x : Totals). cents (cents_of t x.failed)) (sums.sums o cs).1
