-- Laws of the sum of the window's words. Assumes nothing.
use Rattle.std.proofs.Common.{◌≡◌, ℕ, zero, suc, ◌+◌, ◌%◌, ◌^◌, ◌<◌, ◌≢◌, List, [], ◌∷◌, length, get_or, take, set, replicate, ℤ, pos, sym, refl, ap, ◌∙◌, ⊎_elim, le_of_suc-le-suc, add-one, arith, length-set, get_or-set_other, get_or-set_same, ext_get_or, to_z-of_z, w32, SFits, to_z}
use mir.Facts.{Fits-of_z}
use Rattle.checker.specs.Sum.{bits_of, added_up, sum_of}
use Rattle.checker.specs.OneWord.{Words, OneWordApart}
use Rattle.checker.proofs.Choices.{same_or}

-- ---- words added up
-- one word more
added_take : (win : List ℤ) (k : ℕ) → k < length win → added_up (take (suc k) win) ≡ added_up (take k win) + bits_of (get_or win k (pos 0))
unfolding added_up
added_take [] k h = absurd (omega arith)
added_take (z ∷ zs) zero h = omega arith
added_take (z ∷ zs) (suc k) h =
    let e : bits_of z + added_up (take (suc k) zs) ≡ (bits_of z + added_up (take k zs)) + bits_of (get_or zs k (pos 0)) = omega (arith, added_take zs k (le_of_suc-le-suc h)) in
    e

-- one word exchanged
added_set : (win : List ℤ) (k : ℕ) (z : ℤ) → k < length win → added_up (set win k z) + bits_of (get_or win k (pos 0)) ≡ added_up win + bits_of z
unfolding added_up
added_set [] k z h = absurd (omega arith)
added_set (x ∷ xs) zero z h = omega arith
added_set (x ∷ xs) (suc k) z h = omega (arith, added_set xs k z (le_of_suc-le-suc h))

added_zeros : (n : ℕ) → added_up (replicate n (pos 0)) ≡ 0
unfolding added_up
added_zeros zero = refl
added_zeros (suc n) = let e : bits_of (pos 0) + added_up (replicate n (pos 0)) ≡ 0 = omega (arith, added_zeros n) in e

-- ---- the sum
pub sum-none : (win : List ℤ) → 0 ≡ sum_of (take 0 win)
unfolding sum_of added_up
sum-none win = refl

pub sum_zeros : (n : ℕ) → 0 ≡ sum_of (replicate n (pos 0))
unfolding sum_of
sum_zeros n = rw (added_zeros n) refl

-- with one word more, by one addition that wraps
pub sum_more : (win : List ℤ) (k sum : ℕ) → k < length win → sum ≡ sum_of (take k win)
    → (sum + bits_of (get_or win k (pos 0))) % 2 ^ 32 ≡ sum_of (take (k + 1) win)
unfolding sum_of
sum_more win k sum h e = rw (add-one k) (omega (arith, added_take win k h))

-- one word exchanged: what the old word, added, wraps to the sum, with the new word instead
pub sum-put : (win : List ℤ) (k less : ℕ) (z : ℤ) → k < length win → (less + bits_of (get_or win k (pos 0))) % 2 ^ 32 ≡ sum_of win
    → (less + bits_of z) % 2 ^ 32 ≡ sum_of (set win k z)
unfolding sum_of
sum-put win k less z h e = omega (arith, added_set win k z h)

-- ---- two windows that differ in one word have different sums
bits_differ : (y z : ℤ) → SFits w32 y → SFits w32 z → y ≢ z → bits_of y ≢ bits_of z
bits_differ y z f g h q = h (sym (to_z-of_z f) ∙ ap (to_z w32) q ∙ to_z-of_z g)

-- the one is the other with that word exchanged
exchanged : (win win' : List ℤ) (a : OneWordApart win win') → win' ≡ set win a.place (get_or win' a.place (pos 0))
exchanged win win' a =
    ext_get_or (pos 0) win' (set win a.place z) (a.long ∙ sym (length-set win a.place z))
    (λ k _. ⊎_elim
    (λ (q : k ≡ a.place). rw q (sym (get_or-set_same win a.place z (pos 0) a.within)))
    (λ (q : k ≢ a.place). a.others k q ∙ sym (get_or-set_other win a.place k z (pos 0) q))
    (same_or k a.place))
  where
    z : ℤ
    z = get_or win' a.place (pos 0)

pub sums-differ : (win win' : List ℤ) → Words win → Words win' → OneWordApart win win' → sum_of win ≢ sum_of win'
unfolding sum_of
sums-differ win win' f f' a q =
    let y = get_or win a.place (pos 0) in
    let z = get_or win' a.place (pos 0) in
    let g : SFits w32 y = f a.place a.within in
    let g' : SFits w32 z = f' a.place (omega (arith, a.within, a.long)) in
    let e : added_up win' + bits_of y ≡ added_up win + bits_of z = ap (λ (l : List ℤ). added_up l + bits_of y) (exchanged win win' a) ∙ added_set win a.place z a.within in
    bits_differ z y g' g a.differs (same_bits (added_up win) (added_up win') (bits_of y) (bits_of z) (Fits-of_z g).fits (Fits-of_z g').fits e q)
  where
    same_bits : (m n b c : ℕ) → b < 2 ^ 32 → c < 2 ^ 32 → n + b ≡ m + c → m % 2 ^ 32 ≡ n % 2 ^ 32 → c ≡ b
    same_bits m n b c hb hc e q = omega (arith, hb, hc, e, q)
