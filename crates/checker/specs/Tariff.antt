-- The rework tariff, and what it charges. From document 02, point 13; tariff, band, last number, price and surcharge are its terms,
-- and a violation is a false verdict. Assumes nothing: definitions.
use Rattle.std.specs.Prelude.{◌≡◌, ℕ, zero, suc, ◌+◌, ◌*◌, ◌/◌, ◌<◌, ◌≤◌, Bool, true, false, cond}
use Rattle.std.specs.Prelude.{◌&&◌, List, [], ◌∷◌, nat_le, nat_lt, slice_index}
use Rattle.std.specs.Prelude.{Result, Ok, Err}
use Rattle.checker.specs.Refusals.{refusal_number, refusal_place}
use Rattle.checker.specs.StateTest.{state_passes}
use Rattle.checker.specs.declared.State.{State}
use Rattle.checker.specs.declared.Tariff.{Tariff}
use Rattle.checker.specs.declared.refusals.Refusal.{Refusal}

-- ---- limits
-- "in bands: up to four"
abbrev pub band_limit : ℕ
band_limit = 4

-- 28: last numbers that "exceed 1,010,000"
abbrev pub last_limit : ℕ
last_limit = 1010000

-- "its price in cents, 0 to 10,000, then a price of that range for all beyond"
abbrev pub price_limit : ℕ
price_limit = 10000

-- "A surcharge of 0 to 100 percent"
abbrev pub surcharge_limit : ℕ
surcharge_limit = 100

-- ---- bands
-- "each with its last number and its price in cents"
pub record Band : Type 0 where
  pub last : ℕ
  pub price : ℕ

-- the j-th band of a tariff, counted from 0
abbrev pub band_at : Tariff → ℕ → Band
band_at t j = record { last = slice_index t.lasts j; price = slice_index t.prices j }

-- n bands of a tariff, from the j-th on
unfoldable pub bands_from : Tariff → ℕ → ℕ → List Band
bands_from t j zero = []
bands_from t j (suc n) = band_at t j ∷ bands_from t (suc j) n

-- the bands of a tariff: as many as it says, and no entry after them
abbrev pub bands_of : Tariff → List Band
bands_of t = bands_from t 0 t.bands

-- ---- 28 and 29
-- last numbers that "rise strictly from above" m and don't "exceed 1,010,000"
unfoldable pub rise_from : ℕ → List Band → Bool
rise_from m [] = true
rise_from m (b ∷ bs) = (nat_lt m b.last && nat_le b.last last_limit) && rise_from b.last bs

-- not 28, "more than four bands, or last numbers that don't rise strictly from above 0 or exceed 1,010,000"
unfoldable pub bands_fit : Tariff → Bool
bands_fit t = nat_le t.bands band_limit && rise_from 0 (bands_of t)

-- no band's price is "out of range"
unfoldable pub in_range : List Band → Bool
in_range [] = true
in_range (b ∷ bs) = nat_le b.price price_limit && in_range bs

-- not 29, "a price or surcharge out of range"
unfoldable pub prices_fit : Tariff → Bool
prices_fit t = (in_range (bands_of t) && nat_le t.beyond price_limit) && nat_le t.surcharge surcharge_limit

-- ---- the charge
-- the price of the k-th violation, counted from 1: that of the first band whose last number is at least k, "then a price .. for all
-- beyond"
unfoldable pub price_of : List Band → ℕ → ℕ → ℕ
price_of [] beyond k = beyond
price_of (b ∷ bs) beyond k = cond (nat_le k b.last) b.price (price_of bs beyond k)

-- "charge rework by the number of false verdicts, in bands": the prices of violations 1 to n, summed
unfoldable pub price_sum : List Band → ℕ → ℕ → ℕ
price_sum bs beyond zero = 0
price_sum bs beyond (suc k) = price_sum bs beyond k + price_of bs beyond (suc k)

-- "rounded half up": the whole number next to n / d, and of two as near the greater
abbrev pub half_up : ℕ → ℕ → ℕ
half_up n d = (2 * n + d) / (2 * d)

-- "A surcharge of 0 to 100 percent follows, and the sum is rounded half up to the cent, once"
unfoldable pub surcharged : ℕ → ℕ → ℕ
surcharged sum percent = half_up (sum * (100 + percent)) 100

-- what n violations cost by a tariff, in cents
abbrev pub cents_of : Tariff → ℕ → ℕ
cents_of t n = surcharged (price_sum (bands_of t) t.beyond n) t.surcharge

-- ---- the call
-- the cents, or a refusal: "its number and place (0 if none is named)"
pub data Charge : Type 0 where
  cents : ℕ → Charge
  turned : (number place : ℕ) → Charge

-- document 02's number and values for each case of what `charge` answers
abbrev pub charge_told : Result ℕ Refusal → Charge
charge_told (Ok c) = cents c
charge_told (Err why) = turned (refusal_number why) (refusal_place why)

-- "The count is the false total in the checker's state, which 12 tests afterwards. Checks: 28 .. 29 .. in this order, first"
unfoldable pub charge_def : State → Tariff → Charge
charge_def s t =
    cond (bands_fit t)
    (cond (prices_fit t)
    (cond (state_passes s) (cents (cents_of t s.totals.failed)) (turned 12 0))
    (turned 29 0))
    (turned 28 0)

-- ---- 28 and 29 once more, band by band
-- what 28 lets through: at most "four bands", and "last numbers that .. rise strictly from above 0" and don't "exceed 1,010,000"
pub record BandsRise (t : Tariff) : Type 0 where
  pub few : t.bands ≤ band_limit
  pub above : (j : ℕ) → j < t.bands → 0 < (band_at t j).last
  pub rise : (i j : ℕ) → i < j → j < t.bands → (band_at t i).last < (band_at t j).last
  pub most : (j : ℕ) → j < t.bands → (band_at t j).last ≤ last_limit

-- what 29 lets through: each "price in cents, 0 to 10,000", that "for all beyond" too, and a "surcharge of 0 to 100 percent"
pub record PricesInRange (t : Tariff) : Type 0 where
  pub each : (j : ℕ) → j < t.bands → (band_at t j).price ≤ price_limit
  pub beyond : t.beyond ≤ price_limit
  pub surcharge : t.surcharge ≤ surcharge_limit

-- "28 .. 29 .. in this order, first .. 12 tests afterwards": what each refusal says of the state and the tariff; none names a place
pub data ChargeRefused (s : State) (t : Tariff) : ℕ → ℕ → Type 0 where
  bad_bands : (BandsRise t → ⊥) → ChargeRefused s t 28 0
  bad_prices : BandsRise t → (PricesInRange t → ⊥) → ChargeRefused s t 29 0
  bad_state : BandsRise t → PricesInRange t → state_passes s ≡ false → ChargeRefused s t 12 0
