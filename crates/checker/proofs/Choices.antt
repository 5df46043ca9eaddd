-- Laws of choices by a test, of two numbers, and of a list made from a function. Assumes nothing.
use Rattle.std.proofs.Common.{◌≡◌, ℕ, zero, suc, ◌<◌, ◌≤◌, Bool, true, false, cond, eqb, ltb, ◌≢◌, ◌⊎◌, List, [], ◌∷◌, map, length, get_or, set, sym, refl, ap, ◌∙◌, inl, inr, ⊎_elim, le_of_suc-le-suc, arith, length-set, get_or-set_other, get_or-set_same, ext_get_or, ltb-false, ltb-true, eq-eqb, ne_eqb, eqb-true}
use mathlib.Core.List.{Memᴰ}
use borrow.Author.Tests.{eqb-false}
use Rattle.checker.specs.StateTest.{all_to}
use Rattle.checker.specs.Machine.{tabulated}

-- the cases of a choice, each with the test's outcome
pub cond_case : {A : Type 0} (P : A → Type 0) (t : Bool) (a b : A) → (t ≡ true → P a) → (t ≡ false → P b) → P (cond t a b)
cond_case P true a b f g = f refl
cond_case P false a b f g = g refl

pub never_true : (b : Bool) → (b ≡ true → ⊥) → b ≡ false
never_true true h = absurd (h refl)
never_true false h = refl

pub less_or : (a b : ℕ) → (a < b) ⊎ (b ≤ a)
less_or a b = go (ltb a b) refl
  where
    go : (t : Bool) → ltb a b ≡ t → (a < b) ⊎ (b ≤ a)
    go true e = inl (ltb-true a b e)
    go false e = inr (ltb-false a b e)

pub same_or : (a b : ℕ) → (a ≡ b) ⊎ (a ≢ b)
same_or a b = go (eqb a b) refl
  where
    go : (t : Bool) → eqb a b ≡ t → (a ≡ b) ⊎ (a ≢ b)
    go true e = inl (eqb-true a b e)
    go false e = inr (eqb-false a b e)

pub all_to-true : (n : ℕ) (f : ℕ → Bool) → ((e : ℕ) → e < n → f e ≡ true) → all_to n f ≡ true
unfolding all_to
all_to-true zero f h = refl
all_to-true (suc n) f h = rw (h n (omega arith)) (all_to-true n f (λ e l. h e (omega arith)))

-- functions that agree on a list's members
pub map-own : {A B : Type 0} (f g : A → B) (l : List A) → ((a : A) → Memᴰ a l → f a ≡ g a) → map f l ≡ map g l
map-own f g [] h = refl
map-own f g (x ∷ xs) h = cc (h x (Memᴰ.head refl), map-own f g xs (λ a m. h a (Memᴰ.tail m)))

-- ---- a list made from a function
pub length-tabulated : {A : Type 0} (n : ℕ) (f : ℕ → A) → length (tabulated n f) ≡ n
unfolding tabulated
length-tabulated zero f = refl
length-tabulated (suc n) f = ap suc (length-tabulated n (λ k. f (suc k)))

pub get_d_tabulated : {A : Type 0} (n : ℕ) (f : ℕ → A) (e : ℕ) (d : A) → e < n → get_or (tabulated n f) e d ≡ f e
unfolding tabulated
get_d_tabulated zero f e d h = absurd (omega arith)
get_d_tabulated (suc n) f zero d h = refl
get_d_tabulated (suc n) f (suc e) d h = get_d_tabulated n (λ k. f (suc k)) e d (le_of_suc-le-suc h)

-- f with v at e
abbrev pub updated : {A : Type 0} → (ℕ → A) → ℕ → A → ℕ → A
updated f e v = λ k. cond (eqb k e) v (f k)

updated-same : {A : Type 0} (f : ℕ → A) (e : ℕ) (v : A) → updated f e v e ≡ v
updated-same f e v = rw (eq-eqb e e refl)

updated-other : {A : Type 0} (f : ℕ → A) (e k : ℕ) (v : A) → k ≢ e → updated f e v k ≡ f k
updated-other f e k v h = rw (ne_eqb k e h)

pub set-tabulated : {A : Type 0} (n : ℕ) (f : ℕ → A) (e : ℕ) (v d : A) → e < n → set (tabulated n f) e v ≡ tabulated n (updated f e v)
set-tabulated n f e v d h =
    ext_get_or d (set (tabulated n f) e v) (tabulated n (updated f e v))
    (length-set (tabulated n f) e v ∙ length-tabulated n f ∙ sym (length-tabulated n (updated f e v)))
    (λ i hi. at i (rw (length-set (tabulated n f) e v, length-tabulated n f) at hi))
  where
    at : (i : ℕ) → i < n → get_or (set (tabulated n f) e v) i d ≡ get_or (tabulated n (updated f e v)) i d
    at i hi =
        ⊎_elim
        (λ (q : i ≡ e). rw (q) (get_or-set_same (tabulated n f) e v d (rw (length-tabulated n f) h) ∙ sym (get_d_tabulated n (updated f e v) e d h ∙ updated-same f e v)))
        (λ (q : i ≢ e). get_or-set_other (tabulated n f) e i v d q ∙ get_d_tabulated n f i d hi ∙ sym (get_d_tabulated n (updated f e v) i d hi ∙ updated-other f e i v q))
        (same_or i e)
