-- Laws of the rework tariff: what 28 and 29 let through, and prices summed band by band. Assumes nothing.
use Rattle.std.proofs.Common.{◌≡◌, ℕ, zero, suc, ◌+◌, ◌-◌, ◌*◌, ◌<◌, ◌≤◌, Bool, true, false, ◌&&◌, ltb, leb, List, [], ◌∷◌, length, take, drop, sym, refl, ap, ◌∙◌, ⊎_elim, drop-cons, add-zero, add-suc, suc-mul, arith, ltb-true, le-leb, leb-true}
use Rattle.std.specs.List.{list_all}
use borrow.Author.Tests.{lt-leb}
use Rattle.numbers.proofs.Bools.{and-true}
use Rattle.checker.specs.Tariff.{band_limit, last_limit, price_limit, surcharge_limit}
use Rattle.checker.specs.Tariff.{Band, band_at, bands_from, bands_of, rise_from, bands_fit, in_range, prices_fit}
use Rattle.checker.specs.Tariff.{price_of, price_sum}
use Rattle.checker.specs.declared.Tariff.{Tariff}
use Rattle.checker.proofs.Choices.{less_or}

-- ---- the bands from the j-th on
abbrev pub bands_left : Tariff → ℕ → List Band
bands_left t j = bands_from t j (t.bands - j)

pub left-first : (t : Tariff) → bands_of t ≡ bands_left t 0
left-first t = ap (bands_from t 0) (omega arith)

pub left-next : (t : Tariff) (j : ℕ) → j < t.bands → bands_left t j ≡ band_at t j ∷ bands_left t (suc j)
unfolding bands_from
left-next t j h =
    let q : t.bands - j ≡ suc (t.bands - suc j) = omega arith in
    ap (bands_from t j) q

pub left-none : (t : Tariff) (j : ℕ) → t.bands ≤ j → bands_left t j ≡ []
unfolding bands_from
left-none t j h =
    let q : t.bands - j ≡ 0 = omega arith in
    ap (bands_from t j) q

-- ---- 28, band by band: whether a last number follows the one before
abbrev pub follows : ℕ → ℕ → Bool
follows m last = ltb m last && leb last last_limit

pub rise-step : (t : Tariff) (j m : ℕ) (x : Bool) → j < t.bands → follows m (band_at t j).last ≡ x
    → rise_from m (bands_left t j) ≡ (x && rise_from (band_at t j).last (bands_left t (suc j)))
unfolding rise_from
rise-step t j m x h e = ap (rise_from m) (left-next t j h) ∙ ap (λ (y : Bool). y && rise_from (band_at t j).last (bands_left t (suc j))) e

pub rise-none : (t : Tariff) (j m : ℕ) → t.bands ≤ j → rise_from m (bands_left t j) ≡ true
unfolding rise_from
rise-none t j m h = ap (rise_from m) (left-none t j h)

-- 28 of a tariff by the number of its bands
pub bands_by : (t : Tariff) → t.bands ≤ band_limit → bands_fit t ≡ rise_from 0 (bands_of t)
unfolding bands_fit
bands_by t h = rw (le-leb t.bands band_limit h)

pub bands_many : (t : Tariff) → band_limit < t.bands → bands_fit t ≡ false
unfolding bands_fit
bands_many t h = rw (lt-leb t.bands band_limit h)

-- ---- 29, band by band
pub range-step : (t : Tariff) (j : ℕ) (x : Bool) → j < t.bands → leb (band_at t j).price price_limit ≡ x
    → in_range (bands_left t j) ≡ (x && in_range (bands_left t (suc j)))
unfolding in_range
range-step t j x h e = ap in_range (left-next t j h) ∙ ap (λ (y : Bool). y && in_range (bands_left t (suc j))) e

pub range_none : (t : Tariff) (j : ℕ) → t.bands ≤ j → in_range (bands_left t j) ≡ true
unfolding in_range
range_none t j h = ap in_range (left-none t j h)

-- over the prices as a list
pub range-all : (t : Tariff) (j n : ℕ) → j + n ≤ length t.prices
    → in_range (bands_from t j n) ≡ list_all (λ (price : ℕ). leb price price_limit) (take n (drop j t.prices))
unfolding in_range bands_from
range-all t j zero h = refl
range-all t j (suc n) h =
    let l : j < length t.prices = omega arith in
    rw (drop-cons t.prices j 0, range-all t (suc j) n (omega arith))

-- ---- prices
price_in : (b : Band) (bs : List Band) (beyond k : ℕ) → k ≤ b.last → price_of (b ∷ bs) beyond k ≡ b.price
unfolding price_of
price_in b bs beyond k h = rw (le-leb k b.last h)

price-past : (b : Band) (bs : List Band) (beyond k : ℕ) → b.last < k → price_of (b ∷ bs) beyond k ≡ price_of bs beyond k
unfolding price_of
price-past b bs beyond k h = rw (lt-leb k b.last h)

-- violations of one price, after the first d
sum-flat : (bs : List Band) (beyond price d m : ℕ) → ((k : ℕ) → d < k → k ≤ d + m → price_of bs beyond k ≡ price)
    → price_sum bs beyond (d + m) ≡ price_sum bs beyond d + m * price
unfolding price_sum
sum-flat bs beyond price d zero h = rw (add-zero d) (omega arith)
sum-flat bs beyond price d (suc m) h =
    let s = sum-flat bs beyond price d m (λ k l u. h k l (omega arith)) in
    let p = h (suc (d + m)) (omega arith) (omega arith) in
    rw (add-suc d m, suc-mul m price) (omega (arith, s, p))

-- with no band
pub sum-none : (beyond n : ℕ) → price_sum [] beyond n ≡ n * beyond
unfolding price_sum price_of
sum-none beyond zero = omega arith
sum-none beyond (suc n) = rw (suc-mul n beyond) (omega (arith, sum-none beyond n))

-- each price that 29 lets through, and the sum of n
price_bound : (bs : List Band) (beyond k : ℕ) → in_range bs ≡ true → beyond ≤ price_limit → price_of bs beyond k ≤ price_limit
unfolding in_range price_of
price_bound [] beyond k e h = h
price_bound (b ∷ bs) beyond k e h =
    let a = and-true (leb b.price price_limit) (in_range bs) e in
    ⊎_elim
    (λ (l : b.last < k). rw (lt-leb k b.last l) (price_bound bs beyond k a.1 h))
    (λ (l : k ≤ b.last). rw (le-leb k b.last l) (leb-true b.price price_limit a.0))
    (less_or b.last k)

pub sum_bound : (bs : List Band) (beyond n : ℕ) → in_range bs ≡ true → beyond ≤ price_limit → price_sum bs beyond n ≤ n * price_limit
unfolding price_sum
sum_bound bs beyond zero e h = omega arith
sum_bound bs beyond (suc n) e h = omega (arith, sum_bound bs beyond n e h, price_bound bs beyond (suc n) e h)

-- ---- 28 at every band
-- the last number of the band before the j-th, 0 before the first
unfoldable pub last_before : Tariff → ℕ → ℕ
last_before t zero = 0
last_before t (suc j) = (band_at t j).last

-- the last numbers of the bands from the j-th on rise from above it
rise-here : (t : Tariff) (j : ℕ) → j < t.bands → rise_from (last_before t j) (bands_left t j) ≡ true
    → (last_before t j < (band_at t j).last) × ((band_at t j).last ≤ last_limit) × (rise_from (band_at t j).last (bands_left t (suc j)) ≡ true)
rise-here t j h e =
    let m = last_before t j in
    let l = (band_at t j).last in
    let a = and-true (follows m l) (rise_from l (bands_left t (suc j))) (sym (rise-step t j m (follows m l) h refl) ∙ e) in
    let c = and-true (ltb m l) (leb l last_limit) a.0 in
    (ltb-true m l c.0, leb-true l last_limit c.1, a.1)

rise-left : (t : Tariff) → rise_from 0 (bands_of t) ≡ true → (j : ℕ) → j ≤ t.bands → rise_from (last_before t j) (bands_left t j) ≡ true
unfolding last_before
rise-left t e zero h = sym (ap (rise_from 0) (left-first t)) ∙ e
rise-left t e (suc j) h = (rise-here t j (omega arith) (rise-left t e j (omega arith))).2

pub rise-at : (t : Tariff) → rise_from 0 (bands_of t) ≡ true → (j : ℕ) → j < t.bands → (last_before t j < (band_at t j).last) × ((band_at t j).last ≤ last_limit)
rise-at t e j h =
    let r = rise-here t j h (rise-left t e j (omega arith)) in
    (r.0, r.1)

-- ---- 29 at every band
range-here : (t : Tariff) (j : ℕ) → j < t.bands → in_range (bands_left t j) ≡ true → ((band_at t j).price ≤ price_limit) × (in_range (bands_left t (suc j)) ≡ true)
range-here t j h e =
    let price = (band_at t j).price in
    let a = and-true (leb price price_limit) (in_range (bands_left t (suc j))) (sym (range-step t j (leb price price_limit) h refl) ∙ e) in
    (leb-true price price_limit a.0, a.1)

range-left : (t : Tariff) → in_range (bands_of t) ≡ true → (j : ℕ) → j ≤ t.bands → in_range (bands_left t j) ≡ true
range-left t e zero h = sym (ap in_range (left-first t)) ∙ e
range-left t e (suc j) h = (range-here t j (omega arith) (range-left t e j (omega arith))).1

pub range_at : (t : Tariff) → in_range (bands_of t) ≡ true → (j : ℕ) → j < t.bands → (band_at t j).price ≤ price_limit
range_at t e j h = (range-here t j h (range-left t e j (omega arith))).0

-- ---- a tariff that 28 and 29 let through
pub bands_facts : (t : Tariff) → bands_fit t ≡ true → (t.bands ≤ band_limit) × (rise_from 0 (bands_of t) ≡ true)
unfolding bands_fit
bands_facts t e =
    let a = and-true (leb t.bands band_limit) (rise_from 0 (bands_of t)) e in
    (leb-true t.bands band_limit a.0, a.1)

pub prices_facts : (t : Tariff) → prices_fit t ≡ true → (in_range (bands_of t) ≡ true) × (t.beyond ≤ price_limit) × (t.surcharge ≤ surcharge_limit)
unfolding prices_fit
prices_facts t e =
    let a = and-true (in_range (bands_of t) && leb t.beyond price_limit) (leb t.surcharge surcharge_limit) e in
    let b = and-true (in_range (bands_of t)) (leb t.beyond price_limit) a.0 in
    (b.0, leb-true t.beyond price_limit b.1, leb-true t.surcharge surcharge_limit a.1)

pub record Fits (t : Tariff) : Type 0 where
  pub few : t.bands ≤ band_limit
  pub rise : rise_from 0 (bands_of t) ≡ true
  pub range : in_range (bands_of t) ≡ true
  pub beyond : t.beyond ≤ price_limit
  pub surcharge : t.surcharge ≤ surcharge_limit

pub fits : (t : Tariff) → bands_fit t ≡ true → prices_fit t ≡ true → Fits t
fits t e f =
    let a = bands_facts t e in
    let b = prices_facts t f in
    record { few = a.0; rise = a.1; range = b.0; beyond = b.1; surcharge = b.2 }

-- ---- violations after the last number before the j-th band have the prices of the bands from there on
price-left : (t : Tariff) → rise_from 0 (bands_of t) ≡ true → (j : ℕ) → j ≤ t.bands → (k : ℕ) → last_before t j < k
    → price_of (bands_of t) t.beyond k ≡ price_of (bands_left t j) t.beyond k
unfolding last_before
price-left t e zero h k l = ap (λ (bs : List Band). price_of bs t.beyond k) (left-first t)
price-left t e (suc j) h k l =
    let r = rise-at t e j (omega arith) in
    price-left t e j (omega arith) k (omega (arith, r.0))
    ∙ ap (λ (bs : List Band). price_of bs t.beyond k) (left-next t j (omega arith))
    ∙ price-past (band_at t j) (bands_left t (suc j)) t.beyond k l

-- the price of a violation in the j-th band, and beyond the last
price_band : (t : Tariff) → rise_from 0 (bands_of t) ≡ true → (j : ℕ) → j < t.bands → (k : ℕ) → last_before t j < k → k ≤ (band_at t j).last
    → price_of (bands_of t) t.beyond k ≡ (band_at t j).price
price_band t e j h k l u =
    price-left t e j (omega arith) k l
    ∙ ap (λ (bs : List Band). price_of bs t.beyond k) (left-next t j h)
    ∙ price_in (band_at t j) (bands_left t (suc j)) t.beyond k u

price-beyond : (t : Tariff) → rise_from 0 (bands_of t) ≡ true → (k : ℕ) → last_before t t.bands < k → price_of (bands_of t) t.beyond k ≡ t.beyond
unfolding price_of
price-beyond t e k l =
    price-left t e t.bands (omega arith) k l
    ∙ ap (λ (bs : List Band). price_of bs t.beyond k) (left-none t t.bands (omega arith))

-- violations d + 1 to n at one price
sum_to : (bs : List Band) (beyond price d n : ℕ) → d ≤ n → ((k : ℕ) → d < k → k ≤ n → price_of bs beyond k ≡ price)
    → price_sum bs beyond d + (n - d) * price ≡ price_sum bs beyond n
sum_to bs beyond price d n l h =
    let q : d + (n - d) ≡ n = omega arith in
    sym (sum-flat bs beyond price d (n - d) (λ k a b. h k a (omega arith))) ∙ ap (price_sum bs beyond) q

-- ---- the j-th band, by its last number and its price
pub record BandIs (t : Tariff) (j last price : ℕ) : Type 0 where
  pub within : j < t.bands
  pub last_is : last ≡ (band_at t j).last
  pub price_is : price ≡ (band_at t j).price

-- ---- before the j-th band: the prices of the violations up to the last number before it are summed
pub record Priced (t : Tariff) (n j sum priced : ℕ) : Type 0 where
  pub within : j ≤ t.bands
  pub last : priced ≡ last_before t j
  pub most : priced ≤ n
  pub summed : sum ≡ price_sum (bands_of t) t.beyond priced

pub priced_first : (t : Tariff) (n : ℕ) → Priced t n 0 0 0
unfolding last_before price_sum
priced_first t n = record { within = omega arith; last = refl; most = omega arith; summed = refl }

module _ (t : Tariff) (f : Fits t) (n j sum priced amount : ℕ) (p : Priced t n j sum priced) where
  -- violation n is in the j-th band
  pub priced_here : (last price : ℕ) → BandIs t j last price → n ≤ last → amount ≡ (n - priced) * price → sum + amount ≡ price_sum (bands_of t) t.beyond n
  priced_here last price b l a =
      let s = sum_to (bands_of t) t.beyond price priced n p.most
      (λ k g u. price_band t f.rise j b.within k (rw (← p.last) g) (omega (arith, b.last_is)) ∙ sym b.price_is) in
      rw (p.summed, a) s

  -- it is after the j-th band
  pub priced_next : (last price : ℕ) → BandIs t j last price → last < n → amount ≡ (last - priced) * price → Priced t n (suc j) (sum + amount) last
  unfolding last_before
  priced_next last price b l a =
      let r = rise-at t f.rise j b.within in
      let s = sum_to (bands_of t) t.beyond price priced last (omega (arith, r.0, p.last, b.last_is))
      (λ k g u. price_band t f.rise j b.within k (rw (← p.last) g) (omega (arith, b.last_is)) ∙ sym b.price_is) in
      record { within = b.within; last = b.last_is; most = omega arith; summed = rw (p.summed, a) s }

  -- it is beyond the last band
  pub priced_beyond : t.bands ≤ j → amount ≡ (n - priced) * t.beyond → sum + amount ≡ price_sum (bands_of t) t.beyond n
  priced_beyond h a =
      let q : j ≡ t.bands = omega (arith, p.within) in
      let e : priced ≡ last_before t t.bands = p.last ∙ ap (last_before t) q in
      let s = sum_to (bands_of t) t.beyond t.beyond priced n p.most (λ k g u. price-beyond t f.rise k (rw (← e) g)) in
      rw (p.summed, a) s

-- the prices of violations that a state may count
pub sum-within : (t : Tariff) → Fits t → (n : ℕ) → n ≤ last_limit → price_sum (bands_of t) t.beyond n ≤ last_limit * price_limit
sum-within t f n h = omega (arith, sum_bound (bands_of t) t.beyond n f.range f.beyond)
