-- The machine's answer to a list of tokens says what the derivations say. Assumes nothing.
use mathlib.Core.Path.{◌≡◌, refl, ap, sym, ◌∙◌, subst}
use mathlib.Core.List.{List, [], ◌∷◌, ◌++◌}
use Prim.Native.Nat.{ℕ}
use Rattle.rule.specs.declared.Token.{Token}
use Rattle.rule.specs.Grammar.{Word, place, word_of, words}
use Rattle.rule.specs.Machine.{Act, Sym, unit, ands, ors, arrow, factor, muls, adds, rel, want, name_of, names_of, clause, clause_number, ref_event, ref_index, ref_shift, ref_by, doing, Next, stuck, on, MachineAnswer, accepted, refused, resume, step, finish, run}
use Rattle.rule.proofs.GrammarDerivations.{Derives, done, does, relation, and_none, or-none, implies-none, add_none, mul_none, shift_none, name-none, unscaled, some, Good, Fine, fine, Takes, complete}

module _ (M : Type 0) (act : Act → M → M) where
  -- ---- at the end
  no_factor : {d : ℕ} {s : List Sym} {m m' : M} → Derives M act (factor d ∷ s) m [] m' → ⊥
  no_factor g = elim g [ ]

  no_unit : {d : ℕ} {s : List Sym} {m m' : M} → Derives M act (unit d ∷ s) m [] m' → ⊥
  no_unit (relation g) = no_factor g

  no_rel : {d : ℕ} {s : List Sym} {m m' : M} → Derives M act (rel d ∷ s) m [] m' → ⊥
  no_rel g = elim g [ ]

  no_want : {d : ℕ} {s : List Sym} {m m' : M} → Derives M act (want d ∷ s) m [] m' → ⊥
  no_want g = elim g [ ]

  -- where the grammar allows the end, the machine accepts
  pub gen_ends : (n : ℕ) {s : List Sym} {m m' : M} → Derives M act s m [] m' → finish M act n s m ≡ accepted m'
  unfolding finish
  gen_ends n done = refl
  gen_ends n (does g) = gen_ends n g
  gen_ends n (relation g) = absurd (no_factor g)
  gen_ends n (and_none g) = gen_ends n g
  gen_ends n (or-none g) = gen_ends n g
  gen_ends n (implies-none g) = gen_ends n g
  gen_ends n (add_none g) = gen_ends n g
  gen_ends n (mul_none g) = gen_ends n g
  gen_ends n (shift_none g) = gen_ends n g
  gen_ends n (name-none g) = gen_ends n g
  gen_ends n (unscaled g) = gen_ends n g

  abbrev Ends : ℕ → List Sym → M → MachineAnswer M → Type 0
  Ends n s m (accepted m') = Derives M act s m [] m'
  Ends n s m (refused q) = q ≡ n

  down : (n : ℕ) (s s₀ : List Sym) (m m₀ : M) (a : MachineAnswer M) → ((m' : M) → Derives M act s₀ m₀ [] m' → Derives M act s m [] m') → Ends n s₀ m₀ a → Ends n s m a
  down n s s₀ m m₀ (accepted m') f e = f m' e
  down n s s₀ m m₀ (refused q) f e = e

  ends : (n : ℕ) (s : List Sym) (m : M) → Ends n s m (finish M act n s m)
  unfolding finish
  ends n [] m = done
  ends n (unit d ∷ s) m = refl
  ends n (ands d ∷ s) m = down n (ands d ∷ s) s m m (finish M act n s m) (λ m' g. and_none g) (ends n s m)
  ends n (ors d ∷ s) m = down n (ors d ∷ s) s m m (finish M act n s m) (λ m' g. or-none g) (ends n s m)
  ends n (arrow d ∷ s) m = down n (arrow d ∷ s) s m m (finish M act n s m) (λ m' g. implies-none g) (ends n s m)
  ends n (factor d ∷ s) m = refl
  ends n (muls d ∷ s) m = down n (muls d ∷ s) s m m (finish M act n s m) (λ m' g. mul_none g) (ends n s m)
  ends n (adds d ∷ s) m = down n (adds d ∷ s) s m m (finish M act n s m) (λ m' g. add_none g) (ends n s m)
  ends n (rel d ∷ s) m = refl
  ends n (want x ∷ s) m = refl
  ends n (name_of r ∷ s) m = refl
  ends n (names_of r ∷ s) m = down n (names_of r ∷ s) s m m (finish M act n s m) (λ m' g. name-none g) (ends n s m)
  ends n (clause ∷ s) m = down n (clause ∷ s) s m m (finish M act n s m) (λ m' g. unscaled g) (ends n s m)
  ends n (clause_number ∷ s) m = refl
  ends n (ref_event e ∷ s) m = refl
  ends n (ref_index e i ∷ s) m = refl
  ends n (ref_shift e i f ∷ s) m = down n (ref_shift e i f ∷ s) s m _ (finish M act n s _) (λ m' g. shift_none g) (ends n s _)
  ends n (ref_by e i f g ∷ s) m = refl
  ends n (doing a ∷ s) m = down n (doing a ∷ s) s m (act a m) (finish M act n s (act a m)) (λ m' g. does g) (ends n s (act a m))

  -- ---- 1. COMPLETENESS: what is derived is accepted, with the memory of the derivation
  pub accepts : (n : ℕ) (ts : List Token) {s : List Sym} {m m' : M} → Derives M act s m (words ts) m' → Good M act s → run M act n s m ts ≡ accepted m'
  unfolding run
  accepts n [] g gd = gen_ends n g
  accepts n (t ∷ ts) {s} {m} {m'} g gd =
      go (λ s₁ m₁ h. accepts n ts h) (step M act s m t.kind (place t)) (complete M act g gd t.kind (place t) refl) (fine M act s m t.kind (place t))
    where
      go : ((s₁ : List Sym) (m₁ : M) → Derives M act s₁ m₁ (words ts) m' → Good M act s₁ → run M act n s₁ m₁ ts ≡ accepted m')
          → (x : Next M) → Takes M act x (words ts) m' → Fine M act s m t.kind (place t) x → resume x t.start (λ s₁ m₁. run M act n s₁ m₁ ts) ≡ accepted m'
      go ih stuck y f = absurd y
      go ih (on s₁ m₁) y f = ih s₁ m₁ y (f gd).0

  -- ---- 2 and 3. What an answer says of the tokens
  abbrev pub Begins : List Sym → M → List Token → Type 0
  Begins s m ts = (ws : List Word) × (m' : M) × Derives M act s m (words ts ++ ws) m'

  abbrev pub Spelled : List Sym → M → List Token → Type 0
  Spelled s m ts = (m' : M) × Derives M act s m (words ts) m'

  pub data Wrong (n : ℕ) (s : List Sym) (m : M) : List Token → ℕ → Type 0 where
    at_token : (us : List Token) (t : Token) (vs : List Token) → Begins s m us → (Begins s m (us ++ t ∷ []) → ⊥) → Wrong n s m (us ++ t ∷ vs) t.start
    at_end : (ts : List Token) → Begins s m ts → (Spelled s m ts → ⊥) → Wrong n s m ts n

  abbrev pub Says : ℕ → List Sym → M → List Token → MachineAnswer M → Type 0
  Says n s m ts (accepted m') = Derives M act s m (words ts) m'
  Says n s m ts (refused p) = Wrong n s m ts p

  at_last : (n : ℕ) (s : List Sym) (m : M) (a : MachineAnswer M) → finish M act n s m ≡ a → Ends n s m a → Says n s m [] a
  at_last n s m (accepted m') q e = e
  at_last n s m (refused p) q e = rw e (at_end [] (some M act s m) (λ x. no_way (sym (gen_ends n x.1) ∙ q)))
    where
      Is : MachineAnswer M → Type 0
      Is (accepted m') = Unit {0}
      Is (refused p) = ⊥

      no_way : {m₁ : M} {q : ℕ} → ◌≡◌ {A = MachineAnswer M} (accepted m₁) (refused q) → ⊥
      no_way e = subst Is e tt

  module _ (n : ℕ) (s : List Sym) (m : M) (t : Token) (gd : Good M act s) (s₁ : List Sym) (m₁ : M) (e : step M act s m t.kind (place t) ≡ on s₁ m₁) where
    after : (ws : List Word) (m' : M) → Derives M act s m (word_of t.kind (place t) ∷ ws) m' → Derives M act s₁ m₁ ws m'
    after ws m' g = subst (λ (x : Next M). Takes M act x ws m') e (complete M act g gd t.kind (place t) refl)

    before : (ws : List Word) (m' : M) → Derives M act s₁ m₁ ws m' → Derives M act s m (word_of t.kind (place t) ∷ ws) m'
    before ws m' g = ((subst (λ (x : Next M). Fine M act s m t.kind (place t) x) e (fine M act s m t.kind (place t))) gd).1 ws m' g

    later : {ts : List Token} {p : ℕ} → Wrong n s₁ m₁ ts p → Wrong n s m (t ∷ ts) p
    later (at_token us v vs y z) = at_token (t ∷ us) v vs (y.0, y.1, before _ _ y.2) (λ x. z (x.0, x.1, after _ _ x.2))
    later (at_end ts y z) = at_end (t ∷ ts) (y.0, y.1, before _ _ y.2) (λ x. z (x.0, after _ _ x.1))

    says-later : (ts : List Token) (a : MachineAnswer M) → Says n s₁ m₁ ts a → Says n s m (t ∷ ts) a
    says-later ts (accepted m') x = before _ _ x
    says-later ts (refused p) x = later x

  -- the machine's answer to the tokens, from a good stack, says what is so of them
  pub right : (n : ℕ) (ts : List Token) (s : List Sym) (m : M) → Good M act s → Says n s m ts (run M act n s m ts)
  unfolding run
  right n [] s m gd = at_last n s m (finish M act n s m) refl (ends n s m)
  right n (t ∷ ts) s m gd = go (λ s₁ m₁. right n ts s₁ m₁) (step M act s m t.kind (place t)) refl (fine M act s m t.kind (place t))
    where
      go : ((s₁ : List Sym) (m₁ : M) → Good M act s₁ → Says n s₁ m₁ ts (run M act n s₁ m₁ ts))
          → (x : Next M) → step M act s m t.kind (place t) ≡ x → Fine M act s m t.kind (place t) x → Says n s m (t ∷ ts) (resume x t.start (λ s₁ m₁. run M act n s₁ m₁ ts))
      go ih stuck e f = at_token [] t ts (some M act s m) (λ y. subst (λ (x : Next M). Takes M act x y.0 y.1) e (complete M act y.2 gd t.kind (place t) refl))
      go ih (on s₁ m₁) e f = says-later n s m t gd s₁ m₁ e ts (run M act n s₁ m₁ ts) (ih s₁ m₁ (f gd).0)

  -- ---- and the other way round: the answer is fixed by what is so of the tokens
  step-on : (s : List Sym) (m : M) (t : Token) → Good M act s → (x : Next M) → step M act s m t.kind (place t) ≡ x → (ws : List Word) (m' : M) → Derives M act s m (word_of t.kind (place t) ∷ ws) m'
      → (s₁ : List Sym) × (m₁ : M) × (step M act s m t.kind (place t) ≡ on s₁ m₁)
  step-on s m t gd stuck e ws m' g = absurd (subst (λ (x : Next M). Takes M act x ws m') e (complete M act g gd t.kind (place t) refl))
  step-on s m t gd (on s₁ m₁) e ws m' g = (s₁, m₁, e)

  good-after : (s : List Sym) (m : M) (t : Token) → Good M act s → (s₁ : List Sym) (m₁ : M) → step M act s m t.kind (place t) ≡ on s₁ m₁ → Good M act s₁
  good-after s m t gd s₁ m₁ e = ((subst (λ (x : Next M). Fine M act s m t.kind (place t) x) e (fine M act s m t.kind (place t))) gd).0

  run_on : (n : ℕ) (ts : List Token) (s : List Sym) (m : M) (t : Token) (s₁ : List Sym) (m₁ : M) → step M act s m t.kind (place t) ≡ on s₁ m₁ → run M act n s m (t ∷ ts) ≡ run M act n s₁ m₁ ts
  unfolding run
  run_on n ts s m t s₁ m₁ e = rw e

  refuses-token : (n : ℕ) (us : List Token) (t : Token) (vs : List Token) (s : List Sym) (m : M) → Good M act s → Begins s m us → (Begins s m (us ++ t ∷ []) → ⊥) → run M act n s m (us ++ t ∷ vs) ≡ refused t.start
  unfolding run
  refuses-token n [] t vs s m gd y z = go (step M act s m t.kind (place t)) refl
    where
      go : (x : Next M) → step M act s m t.kind (place t) ≡ x → resume x t.start (λ s₁ m₁. run M act n s₁ m₁ vs) ≡ refused t.start
      go stuck e = refl
      go (on s₁ m₁) e = let q = some M act s₁ m₁ in absurd (z (q.0, q.1, before n s m t gd s₁ m₁ e q.0 q.1 q.2))
  refuses-token n (u ∷ us) t vs s m gd y z =
      go (λ s₁ m₁. refuses-token n us t vs s₁ m₁) (step-on s m u gd (step M act s m u.kind (place u)) refl _ _ y.2)
    where
      go : ((s₁ : List Sym) (m₁ : M) → Good M act s₁ → Begins s₁ m₁ us → (Begins s₁ m₁ (us ++ t ∷ []) → ⊥) → run M act n s₁ m₁ (us ++ t ∷ vs) ≡ refused t.start)
          → (s₁ : List Sym) × (m₁ : M) × (step M act s m u.kind (place u) ≡ on s₁ m₁) → run M act n s m (u ∷ (us ++ t ∷ vs)) ≡ refused t.start
      go ih (s₁, m₁, e) =
          run_on n (us ++ t ∷ vs) s m u s₁ m₁ e
          ∙ ih s₁ m₁ (good-after s m u gd s₁ m₁ e) (y.0, y.1, after n s m u gd s₁ m₁ e _ _ y.2) (λ x. z (x.0, x.1, before n s m u gd s₁ m₁ e _ _ x.2))

  refuses-end : (n : ℕ) (ts : List Token) (s : List Sym) (m : M) → Good M act s → Begins s m ts → (Spelled s m ts → ⊥) → run M act n s m ts ≡ refused n
  unfolding run
  refuses-end n [] s m gd y z = go (finish M act n s m) (ends n s m)
    where
      go : (a : MachineAnswer M) → Ends n s m a → a ≡ refused n
      go (accepted m') e = absurd (z (m', e))
      go (refused q) e = ap refused e
  refuses-end n (u ∷ us) s m gd y z =
      go (λ s₁ m₁. refuses-end n us s₁ m₁) (step-on s m u gd (step M act s m u.kind (place u)) refl _ _ y.2)
    where
      go : ((s₁ : List Sym) (m₁ : M) → Good M act s₁ → Begins s₁ m₁ us → (Spelled s₁ m₁ us → ⊥) → run M act n s₁ m₁ us ≡ refused n)
          → (s₁ : List Sym) × (m₁ : M) × (step M act s m u.kind (place u) ≡ on s₁ m₁) → run M act n s m (u ∷ us) ≡ refused n
      go ih (s₁, m₁, e) =
          run_on n us s m u s₁ m₁ e
          ∙ ih s₁ m₁ (good-after s m u gd s₁ m₁ e) (y.0, y.1, after n s m u gd s₁ m₁ e _ _ y.2) (λ x. z (x.0, before n s m u gd s₁ m₁ e _ _ x.1))

  pub refuses : (n : ℕ) {ts : List Token} {p : ℕ} (s : List Sym) (m : M) → Good M act s → Wrong n s m ts p → run M act n s m ts ≡ refused p
  refuses n s m gd (at_token us t vs y z) = refuses-token n us t vs s m gd y z
  refuses n s m gd (at_end ts y z) = refuses-end n ts s m gd y z
