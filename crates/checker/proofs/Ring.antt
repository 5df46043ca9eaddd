-- Laws of the window's words: W places for each event, four words to a place. Assumes nothing.
use Rattle.std.proofs.Common.{◌≡◌, ℕ, zero, suc, ◌+◌, ◌*◌, ◌/◌, ◌%◌, ◌<◌, ◌≤◌, leb, ◌≢◌, List, length, get_or, set, ℤ, pos, refl, ⊎_elim, mul-le-mul_right, mod-lt, suc-mul, div-add-mod', arith, length-set, get_or-set_other, get_or-set_same, le-leb}
use Rattle.checker.specs.Limits.{window_words}
use Rattle.checker.specs.Ring.{word_at, stored, kept}
use Rattle.checker.proofs.Choices.{cond_case, less_or}

abbrev place : ℕ → ℕ → ℕ → ℕ
place w e k = e * w + k % w

-- an event's places end where the next event's begin
pub row_bound : (w e n : ℕ) → e < n → e * w + w ≤ n * w
row_bound w e n h = rw (← suc-mul e w) (mul-le-mul_right w h)

pub word_bound : (w e k : ℕ) → 0 < w → e < 8 → place w e k * 4 + 4 ≤ window_words w
word_bound w e k hw he = omega (arith, mod-lt k hw, row_bound w e 8 he)

-- fewer than w steps apart, two numbers have different remainders
pub ring_apart : (w j k : ℕ) → j < k → k < j + w → k % w ≢ j % w
ring_apart w j k h₁ h₂ q =
    ⊎_elim
    (λ (l : j / w < k / w). absurd (omega (arith, div-add-mod' k w, div-add-mod' j w, row_bound w (j / w) (k / w) l)))
    (λ (l : k / w ≤ j / w). absurd (omega (arith, div-add-mod' k w, div-add-mod' j w, mul-le-mul_right w l)))
    (less_or (j / w) (k / w))

-- two events share no place
pub rows_apart : (w e f j k : ℕ) → 0 < w → e ≢ f → place w e k ≢ place w f j
rows_apart w e f j k hw h q =
    ⊎_elim
    (λ (l : e < f). omega (arith, mod-lt k hw, row_bound w e f l))
    (λ (l : f ≤ e). ⊎_elim
    (λ (m : f < e). omega (arith, mod-lt j hw, row_bound w f e m))
    (λ (m : e ≤ f). h (omega arith))
    (less_or f e))
    (less_or e f)

-- ---- four words at a place
abbrev four : List ℤ → ℕ → List ℤ → List ℤ
four win a notes =
    set (set (set (set win (a + 0) (get_or notes 0 (pos 0)))
    (a + 1) (get_or notes 1 (pos 0)))
    (a + 2) (get_or notes 2 (pos 0)))
    (a + 3) (get_or notes 3 (pos 0))

length-four : (win : List ℤ) (a : ℕ) (notes : List ℤ) → length (four win a notes) ≡ length win
length-four win a notes = simp length-set

four-other : (win : List ℤ) (x y n : ℕ) (notes : List ℤ) → n < 4 → y ≢ x → get_or (four win (x * 4) notes) (y * 4 + n) (pos 0) ≡ get_or win (y * 4 + n) (pos 0)
four-other win x y n notes hn h =
    let h3 : y * 4 + n ≢ x * 4 + 3 = omega arith in
    let h2 : y * 4 + n ≢ x * 4 + 2 = omega arith in
    let h1 : y * 4 + n ≢ x * 4 + 1 = omega arith in
    let h0 : y * 4 + n ≢ x * 4 + 0 = omega arith in
    simp get_or-set_other

four_same : (win : List ℤ) (a n : ℕ) (notes : List ℤ) → n < 4 → a + 4 ≤ length win → get_or (four win a notes) (a + n) (pos 0) ≡ get_or notes n (pos 0)
four_same win a zero notes hn h =
    let h3 : a + 0 ≢ a + 3 = omega arith in
    let h2 : a + 0 ≢ a + 2 = omega arith in
    let h1 : a + 0 ≢ a + 1 = omega arith in
    let l : a + 0 < length win = omega arith in
    simp (get_or-set_other, get_or-set_same)
four_same win a (suc zero) notes hn h =
    let h3 : a + 1 ≢ a + 3 = omega arith in
    let h2 : a + 1 ≢ a + 2 = omega arith in
    let l : a + 1 < length (set win (a + 0) (get_or notes 0 (pos 0))) = simp length-set (omega arith) in
    simp (get_or-set_other, get_or-set_same)
four_same win a (suc (suc zero)) notes hn h =
    let h3 : a + 2 ≢ a + 3 = omega arith in
    let l : a + 2 < length (set (set win (a + 0) (get_or notes 0 (pos 0))) (a + 1) (get_or notes 1 (pos 0))) = simp length-set (omega arith) in
    simp (get_or-set_other, get_or-set_same)
four_same win a (suc (suc (suc zero))) notes hn h =
    let l : a + 3 < length (set (set (set win (a + 0) (get_or notes 0 (pos 0))) (a + 1) (get_or notes 1 (pos 0))) (a + 2) (get_or notes 2 (pos 0))) = simp length-set (omega arith) in
    simp get_or-set_same
four_same win a (suc (suc (suc (suc n)))) notes hn h = absurd (omega arith)

-- ---- the words after occurrence c of event e, whose base is b
module _ (w : ℕ) (win notes : List ℤ) (wide : 0 < w) where
  pub length-kept : (e b c : ℕ) → length (kept win w e b c notes) ≡ length win
  unfolding kept stored
  length-kept e b c = cond_case (λ (ws : List ℤ). length ws ≡ length win) (leb b c) _ _ (λ _. length-four win (place w e c * 4) notes) (λ _. refl)

  -- of another event
  pub kept-other : (e f b c k n : ℕ) → f ≢ e → n < 4 → get_or (kept win w e b c notes) (word_at w f k n) (pos 0) ≡ get_or win (word_at w f k n) (pos 0)
  unfolding kept stored
  kept-other e f b c k n q hn =
      cond_case (λ (ws : List ℤ). get_or ws (word_at w f k n) (pos 0) ≡ get_or win (word_at w f k n) (pos 0)) (leb b c) _ _
      (λ _. four-other win (place w e c) (place w f k) n notes hn (rows_apart w f e c k wide q))
      (λ _. refl)

  -- of an earlier occurrence, fewer than W before
  pub kept-old : (e b c k n : ℕ) → k < c → c < k + w → n < 4 → get_or (kept win w e b c notes) (word_at w e k n) (pos 0) ≡ get_or win (word_at w e k n) (pos 0)
  unfolding kept stored
  kept-old e b c k n h₁ h₂ hn =
      cond_case (λ (ws : List ℤ). get_or ws (word_at w e k n) (pos 0) ≡ get_or win (word_at w e k n) (pos 0)) (leb b c) _ _
      (λ _. four-other win (place w e c) (place w e k) n notes hn (λ (q : place w e k ≡ place w e c). ring_apart w k c h₁ h₂ (omega arith)))
      (λ _. refl)

  -- of the occurrence itself, from base on
  pub kept_new : (e b c n : ℕ) → e < 8 → b ≤ c → n < 4 → length win ≡ window_words w → get_or (kept win w e b c notes) (word_at w e c n) (pos 0) ≡ get_or notes n (pos 0)
  unfolding kept stored
  kept_new e b c n he hb hn long =
      rw (le-leb b c hb) (four_same win (place w e c * 4) n notes hn (omega (arith, word_bound w e c wide he)))
