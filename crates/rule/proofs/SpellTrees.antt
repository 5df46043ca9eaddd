-- A text is spelled by one tree only: two trees of one text have one shape, and a tree is read back from its shape and its words,
-- which tell "!" from "{", "abs" from "(" and a number from a decimal. Assumes nothing.
use mathlib.Core.Path.{◌≡◌, refl, ap, ap₂, sym, ◌∙◌}
use mathlib.Core.Bool.{false, cond}
use mathlib.Core.Option.{Option, none, some}
use mathlib.Core.List.{List, [], ◌∷◌}
use Prim.Native.Nat.{ℕ}
use native.Mathlib.Omega.{arith}
use lib.Dec.{eqb}
use Rattle.rule.specs.declared.Token.{Token}
use Rattle.rule.specs.declared.parts.Place.{Place}
use Rattle.rule.specs.declared.parts.Sign.TheVariants.{Plus, Minus}
use Rattle.rule.specs.declared.parts.Multiple.{Multiple}
use Rattle.rule.specs.declared.parts.Multiple.TheVariants.{Once, Times}
use Rattle.rule.specs.declared.parts.Shift.{Shift}
use Rattle.rule.specs.declared.parts.Shift.TheVariants.{Unshifted, By}
use Rattle.rule.specs.Frames.{Connective}
use Rattle.rule.specs.Token.{arrow_kind, bars_kind, ampersands_kind}
use Rattle.rule.specs.Grammar.{semicolon, bang, close_brace, open_paren, close_paren, close_bracket, star, plus_mark, minus_mark}
use Rattle.rule.specs.Grammar.{Word, mark, name, number, Rel, equal, unequal, less, at_most, more, at_least, rel_mark, rels, sign_mark, signs, by_mark, spell_cond, spell_disj, spell_conj, spell_unit, spell_sum, spell_prod, spell_factor, spell_names, spell_clause, yield, words}
use Rattle.rule.specs.Grammar.{index, Cond, a_disj, implies, Disj, a_conj, or, Conj, a_unit, and, CUnit, not, group, relation, Sum, a_prod, add, Prod, a_factor, multiply, Factor, literal, var, parens, absolute, reference, Rule, rule}
use Rattle.rule.specs.Tree
use Rattle.rule.specs.Scale.{head_of}
use Rattle.rule.specs.Draft.{Draft}
use Rattle.rule.specs.Measure.{depth, frames}
use Rattle.rule.specs.Meaning.{meaning_cond, meaning_disj, meaning_conj, meaning_unit, meaning_sum, meaning_prod, meaning_factor, meaning_of}
use Rattle.rule.proofs.ReaderFrames.{each}
use Rattle.rule.proofs.GrammarRules.{alike}
use Rattle.rule.proofs.GrammarTrees.{not-clause}
use Rattle.rule.proofs.GrammarMeasures.{note-frame, frames-read}
use Rattle.rule.proofs.FrameDrafts.{frame_of}
use Rattle.rule.proofs.FrameMeanings.{postfix-frames}
use Rattle.rule.proofs.FrameParsing.{suffix_unique}
use Rattle.rule.proofs.SpellTurn.{turn_cond, turn_disj, turn_conj, turn_unit, turn_sum, turn_prod, turn_factor, turn, turned_tokens, spells-turned}

-- ---- the shape of a tree: what the turned tree means, with 0 for every name and number
abbrev blank : Place → ℕ
blank p = 0

abbrev shape_cond : Cond → Tree.Cond
shape_cond x = meaning_cond blank blank blank blank (turn_cond x)

abbrev shape_disj : Disj → Tree.Cond
shape_disj x = meaning_disj blank blank blank blank (turn_disj x)

abbrev shape_conj : Conj → Tree.Cond
shape_conj x = meaning_conj blank blank blank blank (turn_conj x)

abbrev shape_unit : CUnit → Tree.Cond
shape_unit x = meaning_unit blank blank blank blank (turn_unit x)

abbrev shape_sum : Sum → Tree.Sum
shape_sum x = meaning_sum blank blank blank blank (turn_sum x)

abbrev shape_prod : Prod → Tree.Sum
shape_prod x = meaning_prod blank blank blank blank (turn_prod x)

abbrev shape_factor : Factor → Tree.Sum
shape_factor x = meaning_factor blank blank blank blank (turn_factor x)

abbrev shape : Rule → Tree.Cond
shape x = (meaning_of blank blank blank blank (turn x)).condition

-- two trees of one text have the same, since the frames of the turned trees are the same
shape_same : (x y : Rule) (ts : List Token) → yield x ≡ words ts → yield y ≡ words ts → shape x ≡ shape y
shape_same x y ts e f =
    let both = alike (List Draft) note-frame 0 [] (turn x) (turn y) (turned_tokens false ts) (spells-turned x ts e) (spells-turned y ts f) in
    let same : frames (turn x) ≡ frames (turn y) = sym (frames-read (turn x)) ∙ (both ∙ frames-read (turn y)) in
    suffix_unique (head_of (meaning_of blank blank blank blank (turn x)).scale) (head_of (meaning_of blank blank blank blank (turn y)).scale) (shape x) (shape y)
    (postfix-frames blank blank blank blank (turn x) ∙ (ap (each (frame_of blank blank blank blank)) same ∙ sym (postfix-frames blank blank blank blank (turn y))))

-- ---- a tree is read back from its shape and its words: each function gives the tree, and the words after it
abbrev rest : List Word → List Word
rest [] = []
rest (w ∷ ws) = ws

-- the place of the first word, 0 for a mark or for none
abbrev place_in : List Word → Place
place_in [] = record { start = 0; end = 0 }
place_in (mark k ∷ ws) = record { start = 0; end = 0 }
place_in (name p ∷ ws) = p
place_in (number p ∷ ws) = p
place_in (Word.decimal p ∷ ws) = p

-- the kind of the first word, 0 for a name or a number or for none
abbrev mark_in : List Word → ℕ
mark_in [] = 0
mark_in (mark k ∷ ws) = k
mark_in (name p ∷ ws) = 0
mark_in (number p ∷ ws) = 0
mark_in (Word.decimal p ∷ ws) = 0

abbrev multiple_in : List Word → Multiple × List Word
multiple_in [] = (Once, [])
multiple_in (mark k ∷ ws) = (Once, mark k ∷ ws)
multiple_in (name p ∷ ws) = (Once, ws)
multiple_in (number p ∷ ws) = (Times p, rest ws)
multiple_in (Word.decimal p ∷ ws) = (Once, ws)

abbrev shift_in : List Word → Shift × List Word
shift_in ws = cond (eqb (mark_in ws) close_bracket) (Unshifted, ws) (By (by_mark sign_mark (mark_in ws) (λ g. g) Plus signs) (place_in (rest ws)), rest (rest ws))

abbrev leaf : Factor → Sum
leaf x = a_prod (a_factor x)

-- a number or a decimal
abbrev literal_in : List Word → Factor
literal_in [] = var
literal_in (mark k ∷ ws) = var
literal_in (name p ∷ ws) = var
literal_in (number p ∷ ws) = literal p
literal_in (Word.decimal p ∷ ws) = Factor.decimal p

abbrev reference_in : List Word → Sum × List Word
reference_in ws =
    let f = multiple_in (rest (rest (rest (rest ws)))) in
    let o = shift_in (rest f.1) in
    (leaf (reference (place_in ws) (place_in (rest (rest ws))) (index f.0 o.0)), rest (rest o.1))

-- the parts of which a tree of one part consists, or any
abbrev prod_in : Sum → Prod
prod_in (a_prod x) = x
prod_in (add x g y) = y

abbrev factor_in : Prod → Factor
factor_in (a_factor x) = x
factor_in (multiply x y) = y

abbrev sum_back : Tree.Sum → List Word → Sum × List Word
sum_back (Tree.literal d n) ws = (leaf (literal_in ws), rest ws)
sum_back Tree.instance ws = (leaf var, rest ws)
sum_back (Tree.reference r) ws = reference_in ws
sum_back (Tree.arithmetic o a b) ws =
    let p = sum_back a ws in
    let q = sum_back b (rest p.1) in
    (cond (eqb (mark_in p.1) star) (a_prod (multiply (prod_in p.0) (factor_in (prod_in q.0)))) (add p.0 (by_mark sign_mark (mark_in p.1) (λ g. g) Plus signs) (prod_in q.0)), q.1)
sum_back (Tree.abs a) ws =
    let p = sum_back a (rest ws) in
    let q = sum_back a (rest (rest ws)) in
    cond (eqb (mark_in ws) open_paren) (leaf (parens p.0), rest p.1) (leaf (absolute q.0), rest q.1)

mutual
  back_sum : (x : Sum) (r : List Word) → sum_back (shape_sum x) (spell_sum x r) ≡ (x, r)
  back_sum (a_prod x) r = back-prod x r
  back_sum (add x Plus y) r = rw (back_sum x (mark plus_mark ∷ spell_prod y r), back-prod y r)
  back_sum (add x Minus y) r = rw (back_sum x (mark minus_mark ∷ spell_prod y r), back-prod y r)

  back-prod : (x : Prod) (r : List Word) → sum_back (shape_prod x) (spell_prod x r) ≡ (a_prod x, r)
  back-prod (a_factor x) r = back-factor x r
  back-prod (multiply x y) r = rw (back-prod x (mark star ∷ spell_factor y r), back-factor y r)

  back-factor : (x : Factor) (r : List Word) → sum_back (shape_factor x) (spell_factor x r) ≡ (leaf x, r)
  back-factor (literal p) r = refl
  back-factor (Factor.decimal p) r = refl
  back-factor var r = refl
  back-factor (parens x) r = rw (back_sum x (mark close_paren ∷ r))
  back-factor (absolute x) r = rw (back_sum x (mark close_paren ∷ r))
  back-factor (reference n e (index Once Unshifted)) r = refl
  back-factor (reference n e (index Once (By Plus p))) r = refl
  back-factor (reference n e (index Once (By Minus p))) r = refl
  back-factor (reference n e (index (Times f) Unshifted)) r = refl
  back-factor (reference n e (index (Times f) (By Plus p))) r = refl
  back-factor (reference n e (index (Times f) (By Minus p))) r = refl

-- ---- and conditions
abbrev disj_in : Cond → Disj
disj_in (a_disj x) = x
disj_in (implies x y) = x

abbrev conj_in : Disj → Conj
conj_in (a_conj x) = x
conj_in (or x y) = y

abbrev unit_in : Conj → CUnit
unit_in (a_unit x) = x
unit_in (and x y) = y

abbrev one_unit : CUnit → Cond
one_unit x = a_disj (a_conj (a_unit x))

abbrev joined : Connective → Cond → Cond → Cond
joined Connective.and x y = a_disj (a_conj (and (conj_in (disj_in x)) (unit_in (conj_in (disj_in y)))))
joined Connective.or x y = a_disj (or (disj_in x) (conj_in (disj_in y)))
joined Connective.implies x y = implies (disj_in x) y

abbrev cond_back : Tree.Cond → List Word → Cond × List Word
cond_back (Tree.relation r a b) ws =
    let p = sum_back a ws in
    let q = sum_back b (rest p.1) in
    (one_unit (relation p.0 (by_mark rel_mark (mark_in p.1) (λ c. c) equal rels) q.0), q.1)
cond_back (Tree.not t) ws =
    let p = cond_back t (rest ws) in
    cond (eqb (mark_in ws) bang) (one_unit (not (unit_in (conj_in (disj_in p.0)))), p.1) (one_unit (group p.0), rest p.1)
cond_back (Tree.connective j s t) ws =
    let p = cond_back s ws in
    let q = cond_back t (rest p.1) in
    (joined j p.0 q.0, q.1)

rel_back : (c : Rel) → by_mark rel_mark (rel_mark c) (λ d. d) equal rels ≡ c
rel_back equal = refl
rel_back unequal = refl
rel_back less = refl
rel_back at_most = refl
rel_back more = refl
rel_back at_least = refl

mutual
  back-cond : (x : Cond) (r : List Word) → cond_back (shape_cond x) (spell_cond x r) ≡ (x, r)
  back-cond (a_disj x) r = back_disj x r
  back-cond (implies x y) r = rw (back_disj x (mark arrow_kind ∷ spell_cond y r), back-cond y r)

  back_disj : (x : Disj) (r : List Word) → cond_back (shape_disj x) (spell_disj x r) ≡ (a_disj x, r)
  back_disj (a_conj x) r = back-conj x r
  back_disj (or x y) r = rw (back_disj x (mark bars_kind ∷ spell_conj y r), back-conj y r)

  back-conj : (x : Conj) (r : List Word) → cond_back (shape_conj x) (spell_conj x r) ≡ (a_disj (a_conj x), r)
  back-conj (a_unit x) r = back_unit x r
  back-conj (and x y) r = rw (back-conj x (mark ampersands_kind ∷ spell_unit y r), back_unit y r)

  back_unit : (x : CUnit) (r : List Word) → cond_back (shape_unit x) (spell_unit x r) ≡ (one_unit x, r)
  back_unit (not x) r = rw (back_unit x r)
  back_unit (group x) r = rw (back-cond x (mark close_brace ∷ r))
  back_unit (relation x c y) r = rw (back_sum x (mark (rel_mark c) ∷ spell_sum y r), back_sum y r, rel_back c)

-- ---- a whole rule
module _ {v w : Word} {r s : List Word} (e : v ∷ r ≡ w ∷ s) where
  front : v ≡ w
  front = cc

  behind : r ≡ s
  behind = cc

never : {A : Type 0} → ◌≡◌ {A = ℕ} 0 1 → A
never e = absurd (omega arith)

same_names : (ps qs : List Place) (r s : List Word) → spell_names ps (mark semicolon ∷ r) ≡ spell_names qs (mark semicolon ∷ s) → (ps ≡ qs) × (r ≡ s)
same_names [] [] r s w = (refl, behind w)
same_names [] (q ∷ qs) r s w = never (cc)
same_names (p ∷ ps) [] r s w = never (cc)
same_names (p ∷ ps) (q ∷ qs) r s w = let (e, f) = same_names ps qs r s (behind w) in (ap₂ (λ (h : Place) (l : List Place). h ∷ l) (cc (front w)) e, f)

same_cond : (c b : Cond) → shape_cond c ≡ shape_cond b → spell_cond c [] ≡ spell_cond b [] → c ≡ b
same_cond c b k w = ap (λ (p : Cond × List Word). p.0) (sym (back-cond c []) ∙ (ap₂ cond_back k w ∙ back-cond b []))

same-clause : (k j : Option Place) (c b : Cond) → spell_clause k (spell_cond c []) ≡ spell_clause j (spell_cond b []) → (k ≡ j) × (spell_cond c [] ≡ spell_cond b [])
same-clause none none c b w = (refl, w)
same-clause none (some q) c b w = absurd (not-clause c _ w)
same-clause (some p) none c b w = absurd (not-clause b _ (sym w))
same-clause (some p) (some q) c b w = (ap some (cc (front (behind w))), behind (behind (behind w)))

same-rule : (x y : Rule) → shape x ≡ shape y → yield x ≡ yield y → x ≡ y
same-rule (rule e es n ns i c) (rule d ds m ms j b) k w =
    let (p, q) = same_names (e ∷ es) (d ∷ ds) _ _ (behind w) in
    let (u, v) = same_names (n ∷ ns) (m ∷ ms) _ _ (behind q) in
    let (o, z) = same-clause i j c b v in
    let g = same_cond c b k z in
    cc

-- two trees that spell the same tokens are one
pub tree-unique : (x y : Rule) (ts : List Token) → yield x ≡ words ts → yield y ≡ words ts → x ≡ y
tree-unique x y ts e f = same-rule x y (shape_same x y ts e f) (e ∙ sym f)

-- so they have the same depth, above the limit too
pub depth-exact : (x y : Rule) (ts : List Token) → yield x ≡ words ts → yield y ≡ words ts → depth x ≡ depth y
depth-exact x y ts e f = ap depth (tree-unique x y ts e f)
