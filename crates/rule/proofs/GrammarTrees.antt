-- Trees and derivations: each tree has one, and each derivation comes from trees; and which tokens no tree spells. Assumes nothing.
use mathlib.Core.Path.{◌≡◌, refl, ap, sym, subst, ◌∙◌}
use mathlib.Core.List.{List, [], ◌∷◌, ◌++◌, Memᴰ}
use mathlib.Core.Option.{Option, none, some}
use Prim.Native.Nat.{ℕ, ◌+◌, ◌*◌, ◌≤◌}
use native.Mathlib.Omega.{arith}
use Rattle.rule.specs.declared.Token.{Token}
use Rattle.rule.specs.declared.parts.Place.{Place}
use Rattle.rule.specs.declared.parts.Role.{Role}
use Rattle.rule.specs.declared.parts.Role.TheVariants.{Event, Note}
use Rattle.rule.specs.declared.parts.Sign.{Sign}
use Rattle.rule.specs.declared.parts.Sign.TheVariants.{Plus, Minus}
use Rattle.rule.specs.declared.parts.Multiple.TheVariants.{Once, Times}
use Rattle.rule.specs.declared.parts.Shift.{Shift}
use Rattle.rule.specs.declared.parts.Shift.TheVariants.{Unshifted, By}
use Rattle.rule.specs.Token.{index_kind, bars_kind, ampersands_kind, arrow_kind, abs_kind, notes_kind, foreign_kind, scale_kind}
use Rattle.rule.specs.Class.{open_bracket, open_paren, star, close_paren, bang, open_brace, close_brace, close_bracket, semicolon}
use Rattle.rule.specs.Grammar.{Word, mark, name, number, Rel, Index, index, Cond, a_disj, Disj, a_conj, or, Conj, a_unit, and, CUnit, Sum, a_prod, add, Prod, a_factor, multiply, Factor, Rule, rule, yield, rel_mark, sign_mark, spell_shift, spell_index, spell_cond, spell_disj, spell_conj, spell_unit, spell_sum, spell_prod, spell_factor, spell_names, spell_clause, place, word_of, words}
use Rattle.rule.specs.Frames.{Arithmetic, Connective, Kind}
use Rattle.rule.specs.Draft.{ref, relation_of, sign_of}
use Rattle.rule.specs.Measure.{multiple_numbers, shift_numbers}
use Rattle.rule.specs.Items.{items_cond, items_disj, items_conj, items_unit, items_sum, items_prod, items_factor}
use Rattle.rule.specs.Machine.{Act, out, Sym, unit, ands, ors, arrow, factor, muls, adds, rel, want, name_of, names_of, clause, clause_number, ref_event, ref_index, ref_shift, ref_by, doing, prod, sum, conj, condition, start}
use Rattle.rule.proofs.GrammarWalk.{read_each, read_number, read_items, read_names, read_rule, read_in, read-two, read_one_in, read_two_in}
use Rattle.rule.specs.Grammar
use Rattle.rule.proofs.FrameDrafts.{All}
use Rattle.rule.proofs.GrammarDerivations.{Derives, done, token, does, not, group, relation, compare, and-more, and_none, or-more, or-none, implies, implies-none, add-more, add_none, mul_more, mul_none, literal, decimal, var, parens, absolute, reference, event, multiplied, unmultiplied, shifted, shift_none, by_number, named, name-more, name-none, scaled, unscaled, scale-number}

module _ (M : Type 0) (act : Act → M → M) where
  abbrev read_index : Place → Place → Index → M → M
  read_index n e (index f o) m = act (out (ref n e f o)) (read_each (read_number M act) (multiple_numbers f ++ shift_numbers o) m)

  -- ---- each tree has a derivation
  derives_index : (x : Index) {n e : Place} {s : List Sym} {m m' : M} {ws : List Word} → Derives M act s (read_index n e x m) ws m' → Derives M act (ref_index n e ∷ s) m (spell_index x ws) m'
  derives_index (index Once Unshifted) g = unmultiplied (shift_none g)
  derives_index (index Once (By q p)) g = unmultiplied (shifted q (by_number p g))
  derives_index (index (Times f) Unshifted) g = multiplied f (token (token (shift_none g)))
  derives_index (index (Times f) (By q p)) g = multiplied f (token (token (shifted q (by_number p g))))

  -- a derivation from the same memory
  from : {s : List Sym} {m n m' : M} {ws : List Word} → n ≡ m → Derives M act s n ws m' → Derives M act s m ws m'
  from {s} {m' = m'} {ws} e g = subst (λ (z : M). Derives M act s z ws m') e g

  mutual
    pub derives_cond : (x : Cond) {d : ℕ} {s : List Sym} {m m' : M} {ws : List Word} → Derives M act s (read_items M act d (items_cond x) m) ws m' → Derives M act (condition d s) m (spell_cond x ws) m'
    derives_cond (a_disj x) g = derives_disj x (or-none (implies-none g))
    derives_cond (Grammar.implies x y) {d} {m = m} g = derives_disj x (or-none (implies (derives_cond y (does (from (read_two_in M act d (items_disj x) (items_cond y) (Kind.connective Connective.implies) m) g)))))

    derives_disj : (x : Disj) {d : ℕ} {s : List Sym} {m m' : M} {ws : List Word} → Derives M act (ors d ∷ s) (read_items M act d (items_disj x) m) ws m' → Derives M act (conj d (ors d ∷ s)) m (spell_disj x ws) m'
    derives_disj (a_conj x) g = derives_conj x (and_none g)
    derives_disj (or x y) {d} {m = m} g = derives_disj x (or-more (derives_conj y (and_none (does (from (read-two M act d (items_disj x) (items_conj y) (Kind.connective Connective.or) m) g)))))

    derives_conj : (x : Conj) {d : ℕ} {s : List Sym} {m m' : M} {ws : List Word} → Derives M act (ands d ∷ s) (read_items M act d (items_conj x) m) ws m' → Derives M act (conj d s) m (spell_conj x ws) m'
    derives_conj (a_unit x) g = derives_unit x g
    derives_conj (and x y) {d} {m = m} g = derives_conj x (and-more (derives_unit y (does (from (read-two M act d (items_conj x) (items_unit y) (Kind.connective Connective.and) m) g))))

    derives_unit : (x : CUnit) {d : ℕ} {s : List Sym} {m m' : M} {ws : List Word} → Derives M act s (read_items M act d (items_unit x) m) ws m' → Derives M act (unit d ∷ s) m (spell_unit x ws) m'
    derives_unit (Grammar.not x) {d} {m = m} g = not (derives_unit x (does (from (read_one_in M act d (items_unit x) Kind.negation m) g)))
    derives_unit (Grammar.group x) {d} {m = m} g = group (derives_cond x (token (from (read_in M act d (items_cond x) m) g)))
    derives_unit (Grammar.relation x c y) {d} {m = m} g = relation (derives_sum x (add_none (compare c (derives_sum y (add_none (does (from (read-two M act d (items_sum x) (items_sum y) (Kind.relation (relation_of c)) m) g)))))))

    derives_sum : (x : Sum) {d : ℕ} {s : List Sym} {m m' : M} {ws : List Word} → Derives M act (adds d ∷ s) (read_items M act d (items_sum x) m) ws m' → Derives M act (sum d s) m (spell_sum x ws) m'
    derives_sum (a_prod x) g = derives_prod x (mul_none g)
    derives_sum (add x q y) {d} {m = m} g = derives_sum x (add-more q (derives_prod y (mul_none (does (from (read-two M act d (items_sum x) (items_prod y) (Kind.arithmetic (sign_of q)) m) g)))))

    derives_prod : (x : Prod) {d : ℕ} {s : List Sym} {m m' : M} {ws : List Word} → Derives M act (muls d ∷ s) (read_items M act d (items_prod x) m) ws m' → Derives M act (prod d s) m (spell_prod x ws) m'
    derives_prod (a_factor x) g = derives_factor x g
    derives_prod (multiply x y) {d} {m = m} g = derives_prod x (mul_more (derives_factor y (does (from (read-two M act d (items_prod x) (items_factor y) (Kind.arithmetic Arithmetic.multiply) m) g))))

    derives_factor : (x : Factor) {d : ℕ} {s : List Sym} {m m' : M} {ws : List Word} → Derives M act s (read_items M act d (items_factor x) m) ws m' → Derives M act (factor d ∷ s) m (spell_factor x ws) m'
    derives_factor (Grammar.literal p) g = literal p g
    derives_factor (Factor.decimal p) g = decimal p g
    derives_factor Grammar.var g = var g
    derives_factor (Grammar.parens x) {d} {m = m} g = parens (derives_sum x (add_none (token (from (read_in M act d (items_sum x) m) g))))
    derives_factor (Grammar.absolute x) {d} {m = m} g = absolute (token (derives_sum x (add_none (token (does (from (read_one_in M act d (items_sum x) Kind.absolute m) g))))))
    derives_factor (Grammar.reference n e (index f o)) g = reference n (token (event e (token (derives_index (index f o) (token (token g))))))

  derives_names : (r : Role) (ps : List Place) {s : List Sym} {m m' : M} {ws : List Word} → Derives M act s (read_names M act r ps m) ws m' → Derives M act (names_of r ∷ s) m (spell_names ps ws) m'
  derives_names r [] g = name-none g
  derives_names r (p ∷ ps) g = name-more p (derives_names r ps g)

  pub derives_rule : (x : Rule) {m : M} → Derives M act start m (yield x) (read_rule M act x m)
  derives_rule (rule e es n ns none c) = token (named e (derives_names Event es (token (token (named n (derives_names Note ns (token (unscaled (derives_cond c done)))))))))
  derives_rule (rule e es n ns (some k) c) = token (named e (derives_names Event es (token (token (named n (derives_names Note ns (token (scaled (scale-number k (token (derives_cond c done)))))))))))

-- ---- a repeat read to the right, grouped to the left
abbrev conj-of : Conj → List CUnit → Conj
conj-of c [] = c
conj-of c (u ∷ us) = conj-of (and c u) us

abbrev disj_of : Disj → List Conj → Disj
disj_of c [] = c
disj_of c (u ∷ us) = disj_of (or c u) us

abbrev cond_of : Disj → Option Cond → Cond
cond_of x none = a_disj x
cond_of x (some y) = Grammar.implies x y

abbrev prod-of : Prod → List Factor → Prod
prod-of c [] = c
prod-of c (u ∷ us) = prod-of (multiply c u) us

abbrev sum_of : Sum → List (Sign × Prod) → Sum
sum_of c [] = c
sum_of c (u ∷ us) = sum_of (add c u.0 u.1) us

abbrev whole-conj : CUnit → List CUnit → Conj
whole-conj u us = conj-of (a_unit u) us

abbrev whole-cond : CUnit → List CUnit → List Conj → Option Cond → Cond
whole-cond u us cs o = cond_of (disj_of (a_conj (whole-conj u us)) cs) o

abbrev whole-prod : Factor → List Factor → Prod
whole-prod f fs = prod-of (a_factor f) fs

abbrev whole_sum : Factor → List Factor → List (Sign × Prod) → Sum
whole_sum f fs qs = sum_of (a_prod (whole-prod f fs)) qs

abbrev spell_units : List CUnit → List Word → List Word
spell_units [] r = r
spell_units (u ∷ us) r = mark ampersands_kind ∷ spell_unit u (spell_units us r)

abbrev spell_conjs : List Conj → List Word → List Word
spell_conjs [] r = r
spell_conjs (u ∷ us) r = mark bars_kind ∷ spell_conj u (spell_conjs us r)

abbrev spell_then : Option Cond → List Word → List Word
spell_then none r = r
spell_then (some y) r = mark arrow_kind ∷ spell_cond y r

abbrev spell_factors : List Factor → List Word → List Word
spell_factors [] r = r
spell_factors (u ∷ us) r = mark star ∷ spell_factor u (spell_factors us r)

abbrev spell_addends : List (Sign × Prod) → List Word → List Word
spell_addends [] r = r
spell_addends (u ∷ us) r = mark (sign_mark u.0) ∷ spell_prod u.1 (spell_addends us r)

spell_conj_of : (c : Conj) (us : List CUnit) (r : List Word) → spell_conj (conj-of c us) r ≡ spell_conj c (spell_units us r)
spell_conj_of c [] r = refl
spell_conj_of c (u ∷ us) r = spell_conj_of (and c u) us r

spell_disj_of : (c : Disj) (us : List Conj) (r : List Word) → spell_disj (disj_of c us) r ≡ spell_disj c (spell_conjs us r)
spell_disj_of c [] r = refl
spell_disj_of c (u ∷ us) r = spell_disj_of (or c u) us r

spell_cond_of : (x : Disj) (o : Option Cond) (r : List Word) → spell_cond (cond_of x o) r ≡ spell_disj x (spell_then o r)
spell_cond_of x none r = refl
spell_cond_of x (some y) r = refl

spell_prod_of : (c : Prod) (us : List Factor) (r : List Word) → spell_prod (prod-of c us) r ≡ spell_prod c (spell_factors us r)
spell_prod_of c [] r = refl
spell_prod_of c (u ∷ us) r = spell_prod_of (multiply c u) us r

spell_sum_of : (c : Sum) (us : List (Sign × Prod)) (r : List Word) → spell_sum (sum_of c us) r ≡ spell_sum c (spell_addends us r)
spell_sum_of c [] r = refl
spell_sum_of c (u ∷ us) r = spell_sum_of (add c u.0 u.1) us r

spell_whole_cond : (u : CUnit) (us : List CUnit) (cs : List Conj) (o : Option Cond) (r : List Word) → spell_cond (whole-cond u us cs o) r ≡ spell_unit u (spell_units us (spell_conjs cs (spell_then o r)))
spell_whole_cond u us cs o r = spell_cond_of (disj_of (a_conj (whole-conj u us)) cs) o r ∙ (spell_disj_of (a_conj (whole-conj u us)) cs (spell_then o r) ∙ spell_conj_of (a_unit u) us (spell_conjs cs (spell_then o r)))

spell_whole_sum : (f : Factor) (fs : List Factor) (qs : List (Sign × Prod)) (r : List Word) → spell_sum (whole_sum f fs qs) r ≡ spell_factor f (spell_factors fs (spell_addends qs r))
spell_whole_sum f fs qs r = spell_sum_of (a_prod (whole-prod f fs)) qs r ∙ spell_prod_of (a_factor f) fs (spell_addends qs r)

-- what a symbol of the stack stands for
abbrev pub Tree_of : Sym → Type 0
Tree_of (unit d) = CUnit
Tree_of (ands d) = List CUnit
Tree_of (ors d) = List Conj
Tree_of (arrow d) = Option Cond
Tree_of (factor d) = Factor
Tree_of (muls d) = List Factor
Tree_of (adds d) = List (Sign × Prod)
Tree_of (rel d) = Rel × Sum
Tree_of (want k) = Unit
Tree_of (name_of r) = Place
Tree_of (names_of r) = List Place
Tree_of clause = Option Place
Tree_of clause_number = Place
Tree_of (ref_event n) = Place × Index
Tree_of (ref_index n e) = Index
Tree_of (ref_shift n e f) = Shift
Tree_of (ref_by n e f g) = Place
Tree_of (doing a) = Unit

abbrev pub Forest : List Sym → Type 0
Forest [] = Unit
Forest (x ∷ s) = Tree_of x × Forest s

abbrev spell_sym : (x : Sym) → Tree_of x → List Word → List Word
spell_sym (unit d) t r = spell_unit t r
spell_sym (ands d) t r = spell_units t r
spell_sym (ors d) t r = spell_conjs t r
spell_sym (arrow d) t r = spell_then t r
spell_sym (factor d) t r = spell_factor t r
spell_sym (muls d) t r = spell_factors t r
spell_sym (adds d) t r = spell_addends t r
spell_sym (rel d) t r = mark (rel_mark t.0) ∷ spell_sum t.1 r
spell_sym (want k) t r = mark k ∷ r
spell_sym (name_of x) t r = name t ∷ r
spell_sym (names_of x) t r = spell_names t r
spell_sym clause t r = spell_clause t r
spell_sym clause_number t r = number t ∷ r
spell_sym (ref_event n) t r = name t.0 ∷ mark open_bracket ∷ spell_index t.1 (mark close_bracket ∷ mark close_paren ∷ r)
spell_sym (ref_index n e) t r = spell_index t r
spell_sym (ref_shift n e f) t r = spell_shift t r
spell_sym (ref_by n e f g) t r = number t ∷ r
spell_sym (doing a) t r = r

abbrev spell_forest : (s : List Sym) → Forest s → List Word
spell_forest [] f = []
spell_forest (x ∷ s) f = spell_sym x f.0 (spell_forest s f.1)

-- each derivation comes from trees
record Made (s : List Sym) (ws : List Word) : Type 0 where
  trees : Forest s
  spelled : ws ≡ spell_forest s trees

lift : {s s₁ : List Sym} {ws : List Word} → Made s ws → (W : List Word → List Word) (F : Forest s → Forest s₁) → ((f : Forest s) → W (spell_forest s f) ≡ spell_forest s₁ (F f))
    → Made s₁ (W ws)
lift q W F a = record { trees = F q.trees; spelled = ap W q.spelled ∙ a q.trees }

module _ (M : Type 0) (act : Act → M → M) where
  made : {s : List Sym} {m m' : M} {ws : List Word} → Derives M act s m ws m' → Made s ws
  made done = record { trees = tt; spelled = refl }
  made (token {k} g) = lift (made g) (λ r. mark k ∷ r) (λ f. (tt, f)) (λ f. refl)
  made (does g) = lift (made g) (λ r. r) (λ f. (tt, f)) (λ f. refl)
  made (not g) = lift (made g) (λ r. mark bang ∷ r) (λ f. (Grammar.not f.0, f.1.1)) (λ f. refl)
  made (group g) = lift (made g) (λ r. mark open_brace ∷ r) (λ f. (Grammar.group (whole-cond f.0 f.1.0 f.1.1.0 f.1.1.1.0), f.1.1.1.1.1)) (λ f. rw (spell_whole_cond f.0 f.1.0 f.1.1.0 f.1.1.1.0 _))
  made (relation g) = lift (made g) (λ r. r) (λ f. (Grammar.relation (whole_sum f.0 f.1.0 f.1.1.0) f.1.1.1.0.0 f.1.1.1.0.1, f.1.1.1.1)) (λ f. rw (spell_whole_sum f.0 f.1.0 f.1.1.0 _))
  made (compare c g) = lift (made g) (λ r. mark (rel_mark c) ∷ r) (λ f. ((c, whole_sum f.0 f.1.0 f.1.1.0), f.1.1.1.1)) (λ f. rw (spell_whole_sum f.0 f.1.0 f.1.1.0 _))
  made (and-more g) = lift (made g) (λ r. mark ampersands_kind ∷ r) (λ f. (f.0 ∷ f.1.1.0, f.1.1.1)) (λ f. refl)
  made (and_none g) = lift (made g) (λ r. r) (λ f. ([], f)) (λ f. refl)
  made (or-more g) = lift (made g) (λ r. mark bars_kind ∷ r) (λ f. (whole-conj f.0 f.1.0 ∷ f.1.1.1.0, f.1.1.1.1)) (λ f. rw (spell_conj_of (a_unit f.0) f.1.0 _))
  made (or-none g) = lift (made g) (λ r. r) (λ f. ([], f)) (λ f. refl)
  made (implies g) = lift (made g) (λ r. mark arrow_kind ∷ r) (λ f. (some (whole-cond f.0 f.1.0 f.1.1.0 f.1.1.1.0), f.1.1.1.1.1)) (λ f. rw (spell_whole_cond f.0 f.1.0 f.1.1.0 f.1.1.1.0 _))
  made (implies-none g) = lift (made g) (λ r. r) (λ f. (none, f)) (λ f. refl)
  made (add-more q g) = lift (made g) (λ r. mark (sign_mark q) ∷ r) (λ f. ((q, whole-prod f.0 f.1.0) ∷ f.1.1.1.0, f.1.1.1.1)) (λ f. rw (spell_prod_of (a_factor f.0) f.1.0 _))
  made (add_none g) = lift (made g) (λ r. r) (λ f. ([], f)) (λ f. refl)
  made (mul_more g) = lift (made g) (λ r. mark star ∷ r) (λ f. (f.0 ∷ f.1.1.0, f.1.1.1)) (λ f. refl)
  made (mul_none g) = lift (made g) (λ r. r) (λ f. ([], f)) (λ f. refl)
  made (literal p g) = lift (made g) (λ r. number p ∷ r) (λ f. (Grammar.literal p, f)) (λ f. refl)
  made (decimal p g) = lift (made g) (λ r. Word.decimal p ∷ r) (λ f. (Factor.decimal p, f)) (λ f. refl)
  made (var g) = lift (made g) (λ r. mark index_kind ∷ r) (λ f. (Grammar.var, f)) (λ f. refl)
  made (parens g) = lift (made g) (λ r. mark open_paren ∷ r) (λ f. (Grammar.parens (whole_sum f.0 f.1.0 f.1.1.0), f.1.1.1.1)) (λ f. rw (spell_whole_sum f.0 f.1.0 f.1.1.0 _))
  made (absolute g) = lift (made g) (λ r. mark abs_kind ∷ r) (λ f. (Grammar.absolute (whole_sum f.1.0 f.1.1.0 f.1.1.1.0), f.1.1.1.1.1.1)) (λ f. rw (spell_whole_sum f.1.0 f.1.1.0 f.1.1.1.0 _))
  made (reference p g) = lift (made g) (λ r. name p ∷ r) (λ f. (Grammar.reference p f.1.0.0 f.1.0.1, f.1.1)) (λ f. refl)
  made (event p g) = lift (made g) (λ r. name p ∷ r) (λ f. ((p, f.1.0), f.1.1.1.1)) (λ f. refl)
  made (multiplied p g) = lift (made g) (λ r. number p ∷ r) (λ f. (index (Times p) f.1.1.0, f.1.1.1)) (λ f. refl)
  made (unmultiplied g) = lift (made g) (λ r. mark index_kind ∷ r) (λ f. (index Once f.0, f.1)) (λ f. refl)
  made (shifted q g) = lift (made g) (λ r. mark (sign_mark q) ∷ r) (λ f. (By q f.0, f.1)) (λ f. refl)
  made (shift_none g) = lift (made g) (λ r. r) (λ f. (Unshifted, f)) (λ f. refl)
  made (by_number p g) = lift (made g) (λ r. number p ∷ r) (λ f. (p, f)) (λ f. refl)
  made (named p g) = lift (made g) (λ r. name p ∷ r) (λ f. (p, f)) (λ f. refl)
  made (name-more p g) = lift (made g) (λ r. name p ∷ r) (λ f. (p ∷ f.0, f.1)) (λ f. refl)
  made (name-none g) = lift (made g) (λ r. r) (λ f. ([], f)) (λ f. refl)
  made (scaled g) = lift (made g) (λ r. mark scale_kind ∷ r) (λ f. (some f.0, f.1.1)) (λ f. refl)
  made (unscaled g) = lift (made g) (λ r. r) (λ f. (none, f)) (λ f. refl)
  made (scale-number p g) = lift (made g) (λ r. number p ∷ r) (λ f. (p, f)) (λ f. refl)

  -- a derivation of a whole rule comes from a tree
  pub ruled : {m m' : M} {ws : List Word} → Derives M act start m ws m' → (x : Rule) × (yield x ≡ ws)
  ruled g = go (made g)
    where
      go : {ws : List Word} → Made start ws → (x : Rule) × (yield x ≡ ws)
      go q =
          let f = q.trees in
          let h = f.1.1.1.1 in
          let k = h.1.1.1.1 in
          let c = k.1 in
          (rule f.1.0 f.1.1.0 h.1.0 h.1.1.0 k.0 (whole-cond c.0 c.1.0 c.1.1.0 c.1.1.1.0), rw (spell_whole_cond c.0 c.1.0 c.1.1.0 c.1.1.1.0 []) (sym q.spelled))

-- ---- no word of a tree is a token that no rule has; and none is the clause's word, where the clause is absent
-- z is 0 for the clause's word, 1 for a token that no rule has
module _ (z : ℕ) (two : z ≤ 1) where
  abbrev none_of : ℕ
  none_of = scale_kind + 247 * z

  abbrev Had : Word → Type 0
  Had (mark k) = k ≡ none_of → ⊥
  Had (name p) = Unit {0}
  Had (number p) = Unit {0}
  Had (Word.decimal p) = Unit {0}

  rel_had : (c : Rel) → Had (mark (rel_mark c))
  rel_had Grammar.equal e = omega (arith, two)
  rel_had Grammar.unequal e = omega (arith, two)
  rel_had Grammar.less e = omega (arith, two)
  rel_had Grammar.at_most e = omega (arith, two)
  rel_had Grammar.more e = omega (arith, two)
  rel_had Grammar.at_least e = omega (arith, two)

  sign_had : (g : Sign) → Had (mark (sign_mark g))
  sign_had Plus e = omega (arith, two)
  sign_had Minus e = omega (arith, two)

  had_shift : (o : Shift) (r : List Word) → All Had r → All Had (spell_shift o r)
  had_shift Unshifted r h = h
  had_shift (By g p) r h = (sign_had g, (tt, h))

  had_index : (x : Index) (r : List Word) → All Had r → All Had (spell_index x r)
  had_index (index Once o) r h = ((λ e. omega (arith, two)), had_shift o r h)
  had_index (index (Times p) o) r h = (tt, ((λ e. omega (arith, two)), ((λ e. omega (arith, two)), had_shift o r h)))

  mutual
    had_cond : (x : Cond) (r : List Word) → All Had r → All Had (spell_cond x r)
    had_cond (a_disj x) r h = had_disj x r h
    had_cond (Grammar.implies x y) r h = had_disj x (mark arrow_kind ∷ spell_cond y r) ((λ e. omega (arith, two)), had_cond y r h)

    had_disj : (x : Disj) (r : List Word) → All Had r → All Had (spell_disj x r)
    had_disj (a_conj x) r h = had_conj x r h
    had_disj (or x y) r h = had_disj x (mark bars_kind ∷ spell_conj y r) ((λ e. omega (arith, two)), had_conj y r h)

    had_conj : (x : Conj) (r : List Word) → All Had r → All Had (spell_conj x r)
    had_conj (a_unit x) r h = had_unit x r h
    had_conj (and x y) r h = had_conj x (mark ampersands_kind ∷ spell_unit y r) ((λ e. omega (arith, two)), had_unit y r h)

    had_unit : (x : CUnit) (r : List Word) → All Had r → All Had (spell_unit x r)
    had_unit (Grammar.not x) r h = ((λ e. omega (arith, two)), had_unit x r h)
    had_unit (Grammar.group x) r h = ((λ e. omega (arith, two)), had_cond x (mark close_brace ∷ r) ((λ e. omega (arith, two)), h))
    had_unit (Grammar.relation x c y) r h = had_sum x (mark (rel_mark c) ∷ spell_sum y r) (rel_had c, had_sum y r h)

    had_sum : (x : Sum) (r : List Word) → All Had r → All Had (spell_sum x r)
    had_sum (a_prod x) r h = had_prod x r h
    had_sum (add x g y) r h = had_sum x (mark (sign_mark g) ∷ spell_prod y r) (sign_had g, had_prod y r h)

    had_prod : (x : Prod) (r : List Word) → All Had r → All Had (spell_prod x r)
    had_prod (a_factor x) r h = had_factor x r h
    had_prod (multiply x y) r h = had_prod x (mark star ∷ spell_factor y r) ((λ e. omega (arith, two)), had_factor y r h)

    had_factor : (x : Factor) (r : List Word) → All Had r → All Had (spell_factor x r)
    had_factor (Grammar.literal p) r h = (tt, h)
    had_factor (Factor.decimal p) r h = (tt, h)
    had_factor Grammar.var r h = ((λ e. omega (arith, two)), h)
    had_factor (Grammar.parens x) r h = ((λ e. omega (arith, two)), had_sum x (mark close_paren ∷ r) ((λ e. omega (arith, two)), h))
    had_factor (Grammar.absolute x) r h =
        ((λ e. omega (arith, two)), ((λ e. omega (arith, two)), had_sum x (mark close_paren ∷ r) ((λ e. omega (arith, two)), h)))
    had_factor (Grammar.reference n e x) r h =
        (tt, ((λ e. omega (arith, two)), (tt, ((λ e. omega (arith, two)), had_index x (mark close_bracket ∷ mark close_paren ∷ r) ((λ e. omega (arith, two)), ((λ e. omega (arith, two)), h))))))

  had_names : (ps : List Place) (r : List Word) → All Had r → All Had (spell_names ps r)
  had_names [] r h = h
  had_names (p ∷ ps) r h = (tt, had_names ps r h)

  had_rule : (e : Place) (es : List Place) (n : Place) (ns : List Place) (k : Option Place) (c : Cond)
      → All Had (spell_clause k (spell_cond c [])) → All Had (yield (rule e es n ns k c))
  had_rule e es n ns k c h = (
    (λ e. omega (arith, two)),
    (
      tt,
      had_names es (mark semicolon ∷ mark notes_kind ∷ name n ∷ spell_names ns (mark semicolon ∷ spell_clause k (spell_cond c [])))
          ((λ e. omega (arith, two)), ((λ e. omega (arith, two)), (tt, had_names ns (mark semicolon ∷ spell_clause k (spell_cond c [])) ((λ e. omega (arith, two)), h)))),
    ),
  )

  -- among the tokens whose words have none, none is such
  absent : ((p : Place) → word_of none_of p ≡ mark none_of) → (ts : List Token) (ws : List Word) (t : Token) → Memᴰ t ts → t.kind ≡ none_of → All Had (words ts ++ ws) → ⊥
  absent f [] ws t i k h = elim i [ ]
  absent f (u ∷ us) ws t (Memᴰ.head i) k h =
      let q : u.kind ≡ none_of = ap (λ (v : Token). v.kind) (sym i) ∙ k in
      subst Had (ap (λ (n : ℕ). word_of n (place u)) q ∙ f (place u)) h.0 refl
  absent f (u ∷ us) ws t (Memᴰ.tail j) k h = absent f us ws t j k h.1

foreign_had : (x : Rule) → All (Had 1 (omega arith)) (yield x)
foreign_had (rule e es n ns none c) = had_rule 1 (omega arith) e es n ns none c (had_cond 1 (omega arith) c [] tt)
foreign_had (rule e es n ns (some p) c) =
    had_rule 1 (omega arith) e es n ns (some p) c ((λ e. omega arith), (tt, ((λ e. omega arith), had_cond 1 (omega arith) c [] tt)))

-- no rule begins with tokens of which one is such
pub no_rule_has : (x : Rule) (ts : List Token) (ws : List Word) (t : Token) → Memᴰ t ts → t.kind ≡ foreign_kind → yield x ≡ words ts ++ ws → ⊥
no_rule_has x ts ws t i k e = absent 1 (omega arith) (λ p. refl) ts ws t i k (subst (All (Had 1 (omega arith))) e (foreign_had x))

-- a rule without the clause has no token that is the clause's word
pub no_clause_has : (e : Place) (es : List Place) (n : Place) (ns : List Place) (c : Cond) (ts : List Token) (ws : List Word) (t : Token)
    → Memᴰ t ts → t.kind ≡ scale_kind → yield (rule e es n ns none c) ≡ words ts ++ ws → ⊥
no_clause_has e es n ns c ts ws t i k q =
    absent 0 (omega arith) (λ p. refl) ts ws t i k (subst (All (Had 0 (omega arith))) q (had_rule 0 (omega arith) e es n ns none c (had_cond 0 (omega arith) c [] tt)))

-- a condition does not begin with it
pub not-clause : (c : Cond) (r : List Word) → spell_cond c [] ≡ mark scale_kind ∷ r → ⊥
not-clause c r e = (subst (All (Had 0 (omega arith))) e (had_cond 0 (omega arith) c [] tt)).0 refl
