-- The registers after the reading of a tree. Assumes nothing.
-- Acts of a condition: all but declarations.
use mathlib.Core.Path.{◌≡◌, refl, ap, sym, ◌∙◌, subst}
use mathlib.Core.List.{List, [], ◌∷◌, ◌++◌, append-nil, append_assoc}
use mathlib.Core.Option.{Option, none, some}
use Prim.Native.Nat.{ℕ, ◌+◌, ◌-◌, max, min, ◌≤◌, ◌<◌}
use mathlib.Core.Bool.{Bool, true, false, cond}
use native.Mathlib.Omega.{arith}
use lib.ListN.{length}
use lib.Dec.{ltb, leb, eqb}
use borrow.Author.Tests.{ltb-true, ltb-false, lt-ltb, le-ltb, ne_eqb}
use Rattle.rule.specs.declared.parts.Place.{Place}
use Rattle.rule.specs.declared.parts.Role.{Role}
use Rattle.rule.specs.declared.parts.Role.TheVariants.{Event, Note}
use Rattle.rule.specs.declared.parts.Limit.{Limit}
use Rattle.rule.specs.Grammar.{Rule, rule}
use Rattle.rule.specs.Measure.{Named, declared, used, Sized, sized_by, names_of, numbers_of, declares, depth, frames, names, numbers}
use Rattle.rule.specs.Draft.{Draft}
use Rattle.rule.specs.Items.{Item, enters, puts, items}
use Rattle.rule.specs.Machine.{Act, declare, uses, sized, enter, out}
use Rattle.rule.proofs.GrammarWalk.{read_each, read_name, read_number, read_draft, read_items, read_rule}
use Rattle.rule.proofs.FrameDrafts.{All, Used, names_used}
use Rattle.rule.proofs.FrameLimits.{some-not-none, codes_append}
use Rattle.rule.proofs.ReaderRefusals.{refused-by, read_as, telling, after-decimals, after-number, after-name, outcome, codes, bad-name, spot, first-name, first_by, first-number, first-decimals}
use Rattle.rule.specs.Spelling.{room}
use Rattle.rule.specs.Name.{long_name}
use Rattle.rule.specs.Memory.{Mem, fresh, table, enlist, first, blame, misnamed, remember, memory_answer, is_declared, bad-number, many-decimals}
use Rattle.rule.proofs.GrammarMeasures.{note-frame, note-name, note-number, note-depth, frames-read, names-read, numbers-read, depth-read}

abbrev pub Body : Act → Type 0
Body (declare r p) = ⊥
Body (uses r p) = Unit
Body (sized b p) = Unit
Body (enter d) = Unit
Body (out f) = Unit

-- what each act of a condition keeps, the reading of its items keeps
module _ (M L : Type 0) (act : Act → M → M) (log : Act → L → L) (R : M → L → Type 0) (keep : (a : Act) → Body a → (m : M) (l : L) → R m l → R (act a m) (log a l)) where
  sim-numbers : (vs : List Sized) {m : M} {l : L} → R m l → R (read_each (read_number M act) vs m) (read_each (read_number L log) vs l)
  sim-numbers [] r = r
  sim-numbers (sized_by b p ∷ vs) r = sim-numbers vs (keep _ tt _ _ r)

  sim_used : (ns : List Named) → All Used ns → {m : M} {l : L} → R m l → R (read_each (read_name M act) ns m) (read_each (read_name L log) ns l)
  sim_used [] u r = r
  sim_used (declared q p ∷ ns) u r = absurd u.0
  sim_used (used q p ∷ ns) u r = sim_used ns u.1 (keep _ tt _ _ r)

  sim_draft : (f : Draft) {m : M} {l : L} → R m l → R (read_draft M act f m) (read_draft L log f l)
  sim_draft f r = keep _ tt _ _ (sim-numbers (numbers_of f) (sim_used (names_of f) (names_used f) r))

  pub sim-items : (is : List Item) (d : ℕ) {m : M} {l : L} → R m l → R (read_items M act d is m) (read_items L log d is l)
  sim-items [] d r = r
  sim-items (enters k ∷ is) d r = sim-items is d (keep _ tt _ _ r)
  sim-items (puts f ∷ is) d r = sim-items is d (sim_draft f r)

-- what each act keeps, a reading keeps
module _ (M L : Type 0) (act : Act → M → M) (log : Act → L → L) (R : M → L → Type 0) (keep : (a : Act) (m : M) (l : L) → R m l → R (act a m) (log a l)) where
  sim-names : (ns : List Named) {m : M} {l : L} → R m l → R (read_each (read_name M act) ns m) (read_each (read_name L log) ns l)
  sim-names [] r = r
  sim-names (declared q p ∷ ns) r = sim-names ns (keep _ _ _ r)
  sim-names (used q p ∷ ns) r = sim-names ns (keep _ _ _ r)

  pub simulate : (x : Rule) {m : M} {l : L} → R m l → R (read_rule M act x m) (read_rule L log x l)
  simulate (rule e es n ns k c) r = sim-items M L act log R (λ a b. keep a) (items (rule e es n ns k c)) 0 (sim-names (declares Note (n ∷ ns)) (sim-names (declares Event (e ∷ es)) r))

-- ---- a field that an act on names leaves
pub untouched : (A : Type 0) (field : Mem → A) (r : Role) (p : Place) (c : ℕ) (m : Mem) → field (blame p m) ≡ field m → field (enlist r c m) ≡ field m → (b : Bool) → field (cond b (blame p m) (enlist r c m)) ≡ field m
untouched A field r p c m e f true = e
untouched A field r p c m e f false = f

pub unblamed : (A : Type 0) (field : Mem → A) (p : Place) (m : Mem) → field (blame p m) ≡ field m → (b : Bool) → field (cond b m (blame p m)) ≡ field m
unblamed A field p m e true = refl
unblamed A field p m e false = e

enlist-count : (r : Role) (c : ℕ) (m : Mem) → (enlist r c m).count ≡ m.count
enlist-count Event c m = refl
enlist-count Note c m = refl

enlist-deep : (r : Role) (c : ℕ) (m : Mem) → (enlist r c m).deep ≡ m.deep
enlist-deep Event c m = refl
enlist-deep Note c m = refl

enlist-number : (r : Role) (c : ℕ) (m : Mem) → (enlist r c m).number ≡ m.number
enlist-number Event c m = refl
enlist-number Note c m = refl

enlist-decimals : (r : Role) (c : ℕ) (m : Mem) → (enlist r c m).decimals ≡ m.decimals
enlist-decimals Event c m = refl
enlist-decimals Note c m = refl

pub length_snoc : {A : Type 0} (l : List A) (x : A) → length (l ++ x ∷ []) ≡ length l + 1
length_snoc [] x = refl
length_snoc (y ∷ l) x = let q = length_snoc l x in omega arith

abbrev pub spot1 : Option Place → ℕ
spot1 none = 0
spot1 (some p) = p.start + 1

abbrev or_else : Option Place → Option Place → Option Place
or_else none y = y
or_else (some p) y = some p

module _ (code value decimals : Place → ℕ) where
  -- the frames' number
  pub count_kept : (a : Act) (m : Mem) (l : List Draft) → m.count ≡ min 65 (length l) → (remember code value decimals a m).count ≡ min 65 (length (note-frame a l))
  count_kept (declare r p) m l e = untouched ℕ (λ x. x.count) r p (code p) m refl (enlist-count r (code p) m) (misnamed code value decimals r p m) ∙ e
  count_kept (uses r p) m l e = unblamed ℕ (λ x. x.count) p m refl (is_declared (code p) (table r m)) ∙ e
  count_kept (sized b p) m l e = e
  count_kept (enter d) m l e = e
  count_kept (out f) m l e = go (ltb m.count 64) refl
    where
      go : (b : Bool) → ltb m.count 64 ≡ b → cond b (m.count + 1) 65 ≡ min 65 (length (l ++ f ∷ []))
      go true q = let z : m.count < 64 = ltb-true m.count 64 q in let y = length_snoc l f in omega arith
      go false q = let z : 64 ≤ m.count = ltb-false m.count 64 q in let y = length_snoc l f in omega arith

  pub count-read : (b₀ : List ℕ) (x : Rule) → (read_rule Mem (remember code value decimals) x (fresh b₀)).count ≡ min 65 (length (frames x))
  count-read b₀ x = subst (λ (l : List Draft). (read_rule Mem (remember code value decimals) x (fresh b₀)).count ≡ min 65 (length l)) (frames-read x)
      (simulate Mem (List Draft) (remember code value decimals) note-frame (λ m l. m.count ≡ min 65 (length l)) count_kept x {m = fresh b₀} {l = []} refl)

  -- a depth over 16
  deep-kept : (a : Act) (m : Mem) (t : ℕ) → m.deep ≡ ltb 16 t → (remember code value decimals a m).deep ≡ ltb 16 (note-depth a t)
  deep-kept (declare r p) m t e = untouched Bool (λ x. x.deep) r p (code p) m refl (enlist-deep r (code p) m) (misnamed code value decimals r p m) ∙ e
  deep-kept (uses r p) m t e = unblamed Bool (λ x. x.deep) p m refl (is_declared (code p) (table r m)) ∙ e
  deep-kept (sized b p) m t e = e
  deep-kept (out f) m t e = e
  deep-kept (enter d) m t e = rw e (go (ltb 16 d) (ltb 16 t) refl refl)
    where
      go : (a b : Bool) → ltb 16 d ≡ a → ltb 16 t ≡ b → cond a true b ≡ ltb 16 (max t d)
      go true b q s = let z : 16 < d = ltb-true 16 d q in sym (lt-ltb 16 (max t d) (omega arith))
      go false true q s = let z : 16 < t = ltb-true 16 t s in sym (lt-ltb 16 (max t d) (omega arith))
      go false false q s = let z : d ≤ 16 = ltb-false 16 d q in let y : t ≤ 16 = ltb-false 16 t s in sym (le-ltb 16 (max t d) (omega arith))

  cap_ltb : (k : ℕ) → ltb 16 (min 17 k) ≡ ltb 16 k
  cap_ltb k = go (ltb 16 k) refl
    where
      go : (b : Bool) → ltb 16 k ≡ b → ltb 16 (min 17 k) ≡ b
      go true q = let z : 16 < k = ltb-true 16 k q in lt-ltb 16 (min 17 k) (omega arith)
      go false q = let z : k ≤ 16 = ltb-false 16 k q in le-ltb 16 (min 17 k) (omega arith)

  pub deep-read : (b₀ : List ℕ) (x : Rule) → (read_rule Mem (remember code value decimals) x (fresh b₀)).deep ≡ ltb 16 (depth x)
  deep-read b₀ x = simulate Mem ℕ (remember code value decimals) note-depth (λ m t. m.deep ≡ ltb 16 t) deep-kept x {m = fresh b₀} {l = 0} refl ∙ (ap (λ t. ltb 16 t) (depth-read x) ∙ cap_ltb (depth x))

  -- the first number that is beyond its limit
  number_snoc : (bad : Sized → Bool) (l : List Sized) (b : Limit) (p : Place) → first_by bad (l ++ sized_by b p ∷ []) ≡ or_else (first_by bad l) (cond (bad (sized_by b p)) (some p) none)
  number_snoc bad [] b p = refl
  number_snoc bad (sized_by c q ∷ l) b p = go (bad (sized_by c q)) (number_snoc bad l b p)
    where
      go : (x : Bool) → first_by bad (l ++ sized_by b p ∷ []) ≡ or_else (first_by bad l) (cond (bad (sized_by b p)) (some p) none)
          → cond x (some q) (first_by bad (l ++ sized_by b p ∷ [])) ≡ or_else (cond x (some q) (first_by bad l)) (cond (bad (sized_by b p)) (some p) none)
      go true ih = refl
      go false ih = ih

  firsts : (x : Bool) (o : Option Place) (p : Place) → cond x (first (spot1 o) p) (spot1 o) ≡ spot1 (or_else o (cond x (some p) none))
  firsts true none p = refl
  firsts true (some q) p = rw (ne_eqb (q.start + 1) 0 (λ e. omega arith))
  firsts false none p = refl
  firsts false (some q) p = refl

  number-kept : (a : Act) (m : Mem) (l : List Sized) → m.number ≡ spot1 (first-number code value decimals l) → (remember code value decimals a m).number ≡ spot1 (first-number code value decimals (note-number a l))
  number-kept (declare r p) m l e = untouched ℕ (λ x. x.number) r p (code p) m refl (enlist-number r (code p) m) (misnamed code value decimals r p m) ∙ e
  number-kept (uses r p) m l e = unblamed ℕ (λ x. x.number) p m refl (is_declared (code p) (table r m)) ∙ e
  number-kept (enter d) m l e = e
  number-kept (out f) m l e = e
  number-kept (sized b p) m l e = rw (e, number_snoc (bad-number code value decimals) l b p) (firsts (bad-number code value decimals (sized_by b p)) (first-number code value decimals l) p)

  pub number_read : (b₀ : List ℕ) (x : Rule) → (read_rule Mem (remember code value decimals) x (fresh b₀)).number ≡ spot1 (first-number code value decimals (numbers x))
  number_read b₀ x = subst (λ (l : List Sized). (read_rule Mem (remember code value decimals) x (fresh b₀)).number ≡ spot1 (first-number code value decimals l)) (numbers-read x)
      (simulate Mem (List Sized) (remember code value decimals) note-number (λ m l. m.number ≡ spot1 (first-number code value decimals l)) number-kept x {m = fresh b₀} {l = []} refl)

  -- the first of too many decimals
  decimals-kept : (a : Act) (m : Mem) (l : List Sized) → m.decimals ≡ spot1 (first-decimals code value decimals l) → (remember code value decimals a m).decimals ≡ spot1 (first-decimals code value decimals (note-number a l))
  decimals-kept (declare r p) m l e = untouched ℕ (λ x. x.decimals) r p (code p) m refl (enlist-decimals r (code p) m) (misnamed code value decimals r p m) ∙ e
  decimals-kept (uses r p) m l e = unblamed ℕ (λ x. x.decimals) p m refl (is_declared (code p) (table r m)) ∙ e
  decimals-kept (enter d) m l e = e
  decimals-kept (out f) m l e = e
  decimals-kept (sized b p) m l e = rw (e, number_snoc (many-decimals code value decimals) l b p) (firsts (many-decimals code value decimals (sized_by b p)) (first-decimals code value decimals l) p)

  pub decimals-read : (b₀ : List ℕ) (x : Rule) → (read_rule Mem (remember code value decimals) x (fresh b₀)).decimals ≡ spot1 (first-decimals code value decimals (numbers x))
  decimals-read b₀ x = subst (λ (l : List Sized). (read_rule Mem (remember code value decimals) x (fresh b₀)).decimals ≡ spot1 (first-decimals code value decimals l)) (numbers-read x)
      (simulate Mem (List Sized) (remember code value decimals) note-number (λ m l. m.decimals ≡ spot1 (first-decimals code value decimals l)) decimals-kept x {m = fresh b₀} {l = []} refl)

  -- ---- the first bad name, and the tables as long as there is none
  name_snoc : (before l : List Named) (x : Named) → first-name code value decimals before (l ++ x ∷ []) ≡ or_else (first-name code value decimals before l) (cond (bad-name code value decimals (before ++ l) x) (some (spot code value decimals x)) none)
  name_snoc before [] x = rw (append-nil before)
  name_snoc before (y ∷ l) x = rw (sym (append_assoc before (y ∷ []) l)) (go (bad-name code value decimals before y) (name_snoc (before ++ y ∷ []) l x))
    where
      go : (b : Bool) → first-name code value decimals (before ++ y ∷ []) (l ++ x ∷ []) ≡ or_else (first-name code value decimals (before ++ y ∷ []) l) (cond (bad-name code value decimals (before ++ y ∷ [] ++ l) x) (some (spot code value decimals x)) none)
          → cond b (some (spot code value decimals y)) (first-name code value decimals (before ++ y ∷ []) (l ++ x ∷ [])) ≡ or_else (cond b (some (spot code value decimals y)) (first-name code value decimals (before ++ y ∷ []) l)) (cond (bad-name code value decimals (before ++ y ∷ [] ++ l) x) (some (spot code value decimals x)) none)
      go true ih = refl
      go false ih = ih

  pub record Listed (m : Mem) (l : List Named) : Type 0 where
    pub first-is : m.name ≡ spot1 (first-name code value decimals [] l)
    pub tables : first-name code value decimals [] l ≡ none → (m.events ≡ codes code value decimals Event l) × (m.notes ≡ codes code value decimals Note l)

  table_is : (r : Role) (m : Mem) (l : List Named) → (m.events ≡ codes code value decimals Event l) × (m.notes ≡ codes code value decimals Note l) → table r m ≡ codes code value decimals r l
  table_is Event m l t = t.0
  table_is Note m l t = t.1

  blamed-once : (q p : Place) → first (q.start + 1) p ≡ q.start + 1
  blamed-once q p = rw (ne_eqb (q.start + 1) 0 (λ e. omega arith))

  enlist-name : (r : Role) (c : ℕ) (m : Mem) → (enlist r c m).name ≡ m.name
  enlist-name Event c m = refl
  enlist-name Note c m = refl

  enlisted : (r : Role) (p : Place) (m : Mem) (l : List Named) → (m.events ≡ codes code value decimals Event l) × (m.notes ≡ codes code value decimals Note l)
      → ((enlist r (code p) m).events ≡ codes code value decimals Event (l ++ declared r p ∷ [])) × ((enlist r (code p) m).notes ≡ codes code value decimals Note (l ++ declared r p ∷ []))
  enlisted Event p m l t = (rw (codes_append code value decimals Event l (declared Event p ∷ []), t.0), rw (codes_append code value decimals Note l (declared Event p ∷ []), t.1) (sym (append-nil (codes code value decimals Note l))))
  enlisted Note p m l t = (rw (codes_append code value decimals Event l (declared Note p ∷ []), t.0) (sym (append-nil (codes code value decimals Event l))), rw (codes_append code value decimals Note l (declared Note p ∷ []), t.1))

  used_same : (r q : Role) (p : Place) (l : List Named) → codes code value decimals r (l ++ used q p ∷ []) ≡ codes code value decimals r l
  used_same r q p l = codes_append code value decimals r l (used q p ∷ []) ∙ append-nil (codes code value decimals r l)

  declare_kept : (r : Role) (p : Place) (m : Mem) (l : List Named) → Listed m l → (o : Option Place) → first-name code value decimals [] l ≡ o → (b : Bool) → misnamed code value decimals r p m ≡ b
      → Listed (cond b (blame p m) (enlist r (code p) m)) (l ++ declared r p ∷ [])
  declare_kept r p m l h (some q) e true f =
      let z : first-name code value decimals [] (l ++ declared r p ∷ []) ≡ some q = rw (name_snoc [] l (declared r p), e) in
      record { first-is = rw (z, h.first-is, e) (blamed-once q p); tables = λ y. absurd (some-not-none (sym z ∙ y)) }
  declare_kept r p m l h (some q) e false f =
      let z : first-name code value decimals [] (l ++ declared r p ∷ []) ≡ some q = rw (name_snoc [] l (declared r p), e) in
      record { first-is = enlist-name r (code p) m ∙ (h.first-is ∙ (ap (λ x. spot1 x) e ∙ sym (ap (λ x. spot1 x) z))); tables = λ y. absurd (some-not-none (sym z ∙ y)) }
  declare_kept r p m l h none e true f =
      let bad : bad-name code value decimals l (declared r p) ≡ true = subst (λ (x : List ℕ). cond (leb long_name (code p)) true (cond (is_declared (code p) x) true (leb (room r) (length x))) ≡ true) (table_is r m l (h.tables e)) f in
      let z : first-name code value decimals [] (l ++ declared r p ∷ []) ≡ some p = rw (name_snoc [] l (declared r p), e, bad) in
      record { first-is = rw (z, h.first-is, e); tables = λ y. absurd (some-not-none (sym z ∙ y)) }
  declare_kept r p m l h none e false f =
      let bad : bad-name code value decimals l (declared r p) ≡ false = subst (λ (x : List ℕ). cond (leb long_name (code p)) true (cond (is_declared (code p) x) true (leb (room r) (length x))) ≡ false) (table_is r m l (h.tables e)) f in
      let z : first-name code value decimals [] (l ++ declared r p ∷ []) ≡ none = rw (name_snoc [] l (declared r p), e, bad) in
      record { first-is = enlist-name r (code p) m ∙ (h.first-is ∙ (ap (λ x. spot1 x) e ∙ sym (ap (λ x. spot1 x) z))); tables = λ y. enlisted r p m l (h.tables e) }

  use_kept : (r : Role) (p : Place) (m : Mem) (l : List Named) → Listed m l → (o : Option Place) → first-name code value decimals [] l ≡ o → (b : Bool) → is_declared (code p) (table r m) ≡ b
      → Listed (cond b m (blame p m)) (l ++ used r p ∷ [])
  use_kept r p m l h (some q) e true f =
      let z : first-name code value decimals [] (l ++ used r p ∷ []) ≡ some q = rw (name_snoc [] l (used r p), e) in
      record { first-is = rw (z, h.first-is, e); tables = λ y. absurd (some-not-none (sym z ∙ y)) }
  use_kept r p m l h (some q) e false f =
      let z : first-name code value decimals [] (l ++ used r p ∷ []) ≡ some q = rw (name_snoc [] l (used r p), e) in
      record { first-is = rw (z, h.first-is, e) (blamed-once q p); tables = λ y. absurd (some-not-none (sym z ∙ y)) }
  use_kept r p m l h none e true f =
      let found : is_declared (code p) (codes code value decimals r l) ≡ true = subst (λ (x : List ℕ). is_declared (code p) x ≡ true) (table_is r m l (h.tables e)) f in
      let z : first-name code value decimals [] (l ++ used r p ∷ []) ≡ none = rw (name_snoc [] l (used r p), e, found) in
      record { first-is = rw (z, h.first-is, e); tables = λ y. ((h.tables e).0 ∙ sym (used_same Event r p l), (h.tables e).1 ∙ sym (used_same Note r p l)) }
  use_kept r p m l h none e false f =
      let missed : is_declared (code p) (codes code value decimals r l) ≡ false = subst (λ (x : List ℕ). is_declared (code p) x ≡ false) (table_is r m l (h.tables e)) f in
      let z : first-name code value decimals [] (l ++ used r p ∷ []) ≡ some p = rw (name_snoc [] l (used r p), e, missed) in
      record { first-is = rw (z, h.first-is, e); tables = λ y. absurd (some-not-none (sym z ∙ y)) }

  name-kept : (a : Act) (m : Mem) (l : List Named) → Listed m l → Listed (remember code value decimals a m) (note-name a l)
  name-kept (declare r p) m l h = declare_kept r p m l h (first-name code value decimals [] l) refl (misnamed code value decimals r p m) refl
  name-kept (uses r p) m l h = use_kept r p m l h (first-name code value decimals [] l) refl (is_declared (code p) (table r m)) refl
  name-kept (sized b p) m l h = record { first-is = h.first-is; tables = h.tables }
  name-kept (enter d) m l h = record { first-is = h.first-is; tables = h.tables }
  name-kept (out f) m l h = record { first-is = h.first-is; tables = h.tables }

  pub names-listed : (b₀ : List ℕ) (x : Rule) → Listed (read_rule Mem (remember code value decimals) x (fresh b₀)) (names x)
  names-listed b₀ x = subst (λ (l : List Named). Listed (read_rule Mem (remember code value decimals) x (fresh b₀)) l) (names-read x)
      (simulate Mem (List Named) (remember code value decimals) note-name Listed name-kept x {m = fresh b₀} {l = []} (record { first-is = refl; tables = λ y. (refl, refl) }))

  -- ---- the answer
  over-frames : (fs : List Draft) (c : ℕ) → c ≡ min 65 (length fs) → ◌≡◌ {A = ℕ × ℕ} (cond (ltb 64 c) (6, 0) (0, c)) (telling (cond (ltb 64 (length fs)) (refused-by 6 0) (read_as fs)))
  over-frames fs c e = go (ltb 64 (length fs)) refl
    where
      go : (b : Bool) → ltb 64 (length fs) ≡ b → ◌≡◌ {A = ℕ × ℕ} (cond (ltb 64 c) (6, 0) (0, c)) (telling (cond b (refused-by 6 0) (read_as fs)))
      go true q = let z : 64 < length fs = ltb-true 64 (length fs) q in rw (lt-ltb 64 c (omega arith))
      go false q = let z : length fs ≤ 64 = ltb-false 64 (length fs) q in let y : c ≡ length fs = omega arith in rw (le-ltb 64 c (omega arith), y)

  after-six : (x : Rule) (d : Bool) (c : ℕ) → d ≡ ltb 16 (depth x) → c ≡ min 65 (length (frames x))
      → ◌≡◌ {A = ℕ × ℕ} (cond d (6, 0) (cond (ltb 64 c) (6, 0) (0, c))) (telling (cond (ltb 16 (depth x)) (refused-by 6 0) (cond (ltb 64 (length (frames x))) (refused-by 6 0) (read_as (frames x)))))
  after-six x d c e f = rw e (go (ltb 16 (depth x)))
    where
      go : (b : Bool) → ◌≡◌ {A = ℕ × ℕ} (cond b (6, 0) (cond (ltb 64 c) (6, 0) (0, c))) (telling (cond b (refused-by 6 0) (cond (ltb 64 (length (frames x))) (refused-by 6 0) (read_as (frames x)))))
      go true = refl
      go false = over-frames (frames x) c f

  -- a place that is kept plus 1
  told_place : (k : ℕ) (p : Place) → ◌≡◌ {A = ℕ × ℕ} (k, p.start + 1 - 1) (k, p.start)
  told_place k p = ap (λ (z : ℕ). pair k z) (omega arith)
    where
      pair : ℕ → ℕ → ℕ × ℕ
      pair a b = (a, b)

  after-eighteen : (x : Rule) (o : Option Place) (j : ℕ) (d : Bool) (c : ℕ) → j ≡ spot1 o → d ≡ ltb 16 (depth x) → c ≡ min 65 (length (frames x))
      → ◌≡◌ {A = ℕ × ℕ} (cond (eqb j 0) (cond d (6, 0) (cond (ltb 64 c) (6, 0) (0, c))) (18, j - 1)) (telling (after-decimals code value decimals x o))
  after-eighteen x none j d c e f g = rw e (after-six x d c f g)
  after-eighteen x (some p) j d c e f g = rw (e, ne_eqb (p.start + 1) 0 (λ z. omega arith)) (told_place 18 p)

  after-five : (x : Rule) (o : Option Place) (k j : ℕ) (d : Bool) (c : ℕ) → k ≡ spot1 o → j ≡ spot1 (first-decimals code value decimals (numbers x)) → d ≡ ltb 16 (depth x) → c ≡ min 65 (length (frames x))
      → ◌≡◌ {A = ℕ × ℕ} (cond (eqb k 0) (cond (eqb j 0) (cond d (6, 0) (cond (ltb 64 c) (6, 0) (0, c))) (18, j - 1)) (5, k - 1)) (telling (after-number code value decimals x o))
  after-five x none k j d c e h f g = rw e (after-eighteen x (first-decimals code value decimals (numbers x)) j d c h f g)
  after-five x (some p) k j d c e h f g = rw (e, ne_eqb (p.start + 1) 0 (λ z. omega arith)) (told_place 5 p)

  after-four : (x : Rule) (o : Option Place) (w k j : ℕ) (d : Bool) (c : ℕ) → w ≡ spot1 o → k ≡ spot1 (first-number code value decimals (numbers x)) → j ≡ spot1 (first-decimals code value decimals (numbers x))
      → d ≡ ltb 16 (depth x) → c ≡ min 65 (length (frames x))
      → ◌≡◌ {A = ℕ × ℕ} (cond (eqb w 0) (cond (eqb k 0) (cond (eqb j 0) (cond d (6, 0) (cond (ltb 64 c) (6, 0) (0, c))) (18, j - 1)) (5, k - 1)) (4, w - 1)) (telling (after-name code value decimals x o))
  after-four x none w k j d c e f i g h = rw e (after-five x (first-number code value decimals (numbers x)) k j d c f i g h)
  after-four x (some p) w k j d c e f i g h = rw (e, ne_eqb (p.start + 1) 0 (λ z. omega arith)) (told_place 4 p)

  -- the registers say what the tree says: refusals 4, 5, 18 and 6, in their order, and the number of frames.
  pub told_right : (b₀ : List ℕ) (x : Rule) → memory_answer (read_rule Mem (remember code value decimals) x (fresh b₀)) ≡ telling (outcome code value decimals x)
  told_right b₀ x = after-four x (first-name code value decimals [] (names x)) _ _ _ _ _ (names-listed b₀ x).first-is (number_read b₀ x) (decimals-read b₀ x) (deep-read b₀ x) (count-read b₀ x)
