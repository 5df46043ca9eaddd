-- Each tree turned into one whose frames show every group: "!" goes before each "{", "abs" before each "(" that groups a sum; the
-- turned tree spells the turned tokens. For proofs/SpellTrees. Assumes nothing.
use native.Mathlib.Omega.{arith}
use mathlib.Core.Path.{◌≡◌, refl, ap, sym, ◌∙◌}
use mathlib.Core.Bool.{Bool, true, false, cond}
use mathlib.Core.Option.{Option, none, some}
use mathlib.Core.List.{List, [], ◌∷◌}
use Prim.Native.Nat.{ℕ}
use lib.Dec.{eqb}
use Rattle.rule.specs.Token.{abs_kind, bars_kind, events_kind, ampersands_kind, notes_kind, arrow_kind}
use Rattle.rule.specs.declared.Token.{Token}
use Rattle.rule.specs.declared.parts.Place.{Place}
use Rattle.rule.specs.declared.parts.Sign.{Sign}
use Rattle.rule.specs.declared.parts.Sign.TheVariants.{Plus, Minus}
use Rattle.rule.specs.declared.parts.Multiple.TheVariants.{Once, Times}
use Rattle.rule.specs.declared.parts.Shift.TheVariants.{Unshifted, By}
use Rattle.rule.specs.Class.{semicolon, star}
use Rattle.rule.specs.Grammar.{bang, open_brace, open_paren, Word, mark, name, number, Rel, equal, unequal, less, at_most, more, at_least, rel_mark, sign_mark, spell_cond, spell_disj, spell_conj, spell_unit, spell_sum, spell_prod, spell_factor, spell_names, spell_clause, yield, place, word_of, words, index, Cond, a_disj, implies, Disj, a_conj, or, Conj, a_unit, and, CUnit, not, group, relation, Sum, a_prod, add, Prod, a_factor, multiply, Factor, literal, var, parens, absolute, reference, Rule, rule}

-- ---- the turned tree
abbrev mutual
  pub turn_cond : Cond → Cond
  turn_cond (a_disj x) = a_disj (turn_disj x)
  turn_cond (implies x y) = implies (turn_disj x) (turn_cond y)

  pub turn_disj : Disj → Disj
  turn_disj (a_conj x) = a_conj (turn_conj x)
  turn_disj (or x y) = or (turn_disj x) (turn_conj y)

  pub turn_conj : Conj → Conj
  turn_conj (a_unit x) = a_unit (turn_unit x)
  turn_conj (and x y) = and (turn_conj x) (turn_unit y)

  pub turn_unit : CUnit → CUnit
  turn_unit (not x) = not (turn_unit x)
  turn_unit (group x) = not (group (turn_cond x))
  turn_unit (relation x c y) = relation (turn_sum x) c (turn_sum y)

  pub turn_sum : Sum → Sum
  turn_sum (a_prod x) = a_prod (turn_prod x)
  turn_sum (add x g y) = add (turn_sum x) g (turn_prod y)

  pub turn_prod : Prod → Prod
  turn_prod (a_factor x) = a_factor (turn_factor x)
  turn_prod (multiply x y) = multiply (turn_prod x) (turn_factor y)

  pub turn_factor : Factor → Factor
  turn_factor (literal p) = literal p
  turn_factor (Factor.decimal p) = Factor.decimal p
  turn_factor var = var
  turn_factor (parens x) = absolute (turn_sum x)
  turn_factor (absolute x) = absolute (turn_sum x)
  turn_factor (reference n e x) = reference n e x

abbrev pub turn : Rule → Rule
turn (rule e es n ns k c) = rule e es n ns k (turn_cond c)

-- ---- the turned words
-- the mark to put before a word, 0 for none; f: the word before it was a name or "abs"
abbrev pub before : Bool → Word → ℕ
before f (mark k) = cond (eqb k open_brace) bang (cond (eqb k open_paren) (cond f 0 abs_kind) 0)
before f (name p) = 0
before f (number p) = 0
before f (Word.decimal p) = 0

abbrev pub after : Word → Bool
after (mark k) = eqb k abs_kind
after (name p) = true
after (number p) = false
after (Word.decimal p) = false

abbrev put_word : ℕ → List Word → List Word
put_word k ws = cond (eqb k 0) ws (mark k ∷ ws)

abbrev turned : Bool → List Word → List Word
turned f [] = []
turned f (w ∷ ws) = put_word (before f w) (w ∷ turned (after w) ws)

turned_rel : (c : Rel) (r : List Word) → turned false (mark (rel_mark c) ∷ r) ≡ mark (rel_mark c) ∷ turned false r
turned_rel equal r = refl
turned_rel unequal r = refl
turned_rel less r = refl
turned_rel at_most r = refl
turned_rel more r = refl
turned_rel at_least r = refl

turned_sign : (g : Sign) (r : List Word) → turned false (mark (sign_mark g) ∷ r) ≡ mark (sign_mark g) ∷ turned false r
turned_sign Plus r = refl
turned_sign Minus r = refl

mutual
  turned-cond : (x : Cond) (r : List Word) → turned false (spell_cond x r) ≡ spell_cond (turn_cond x) (turned false r)
  turned-cond (a_disj x) r = turned_disj x r
  turned-cond (implies x y) r = turned_disj x _ ∙ ap (λ (l : List Word). spell_disj (turn_disj x) (mark arrow_kind ∷ l)) (turned-cond y r)

  turned_disj : (x : Disj) (r : List Word) → turned false (spell_disj x r) ≡ spell_disj (turn_disj x) (turned false r)
  turned_disj (a_conj x) r = turned-conj x r
  turned_disj (or x y) r = turned_disj x _ ∙ ap (λ (l : List Word). spell_disj (turn_disj x) (mark bars_kind ∷ l)) (turned-conj y r)

  turned-conj : (x : Conj) (r : List Word) → turned false (spell_conj x r) ≡ spell_conj (turn_conj x) (turned false r)
  turned-conj (a_unit x) r = turned_unit x r
  turned-conj (and x y) r = turned-conj x _ ∙ ap (λ (l : List Word). spell_conj (turn_conj x) (mark ampersands_kind ∷ l)) (turned_unit y r)

  turned_unit : (x : CUnit) (r : List Word) → turned false (spell_unit x r) ≡ spell_unit (turn_unit x) (turned false r)
  turned_unit (not x) r = ap (λ (l : List Word). mark bang ∷ l) (turned_unit x r)
  turned_unit (group x) r = ap (λ (l : List Word). mark bang ∷ mark open_brace ∷ l) (turned-cond x _)
  turned_unit (relation x c y) r = turned-sum x _ ∙ ap (spell_sum (turn_sum x)) (turned_rel c (spell_sum y r) ∙ ap (λ (l : List Word). mark (rel_mark c) ∷ l) (turned-sum y r))

  turned-sum : (x : Sum) (r : List Word) → turned false (spell_sum x r) ≡ spell_sum (turn_sum x) (turned false r)
  turned-sum (a_prod x) r = turned-prod x r
  turned-sum (add x g y) r = turned-sum x _ ∙ ap (spell_sum (turn_sum x)) (turned_sign g (spell_prod y r) ∙ ap (λ (l : List Word). mark (sign_mark g) ∷ l) (turned-prod y r))

  turned-prod : (x : Prod) (r : List Word) → turned false (spell_prod x r) ≡ spell_prod (turn_prod x) (turned false r)
  turned-prod (a_factor x) r = turned-factor x r
  turned-prod (multiply x y) r = turned-prod x _ ∙ ap (λ (l : List Word). spell_prod (turn_prod x) (mark star ∷ l)) (turned-factor y r)

  turned-factor : (x : Factor) (r : List Word) → turned false (spell_factor x r) ≡ spell_factor (turn_factor x) (turned false r)
  turned-factor (literal p) r = refl
  turned-factor (Factor.decimal p) r = refl
  turned-factor var r = refl
  turned-factor (parens x) r = ap (λ (l : List Word). mark abs_kind ∷ mark open_paren ∷ l) (turned-sum x _)
  turned-factor (absolute x) r = ap (λ (l : List Word). mark abs_kind ∷ mark open_paren ∷ l) (turned-sum x _)
  turned-factor (reference n e (index Once Unshifted)) r = refl
  turned-factor (reference n e (index Once (By Plus p))) r = refl
  turned-factor (reference n e (index Once (By Minus p))) r = refl
  turned-factor (reference n e (index (Times f) Unshifted)) r = refl
  turned-factor (reference n e (index (Times f) (By Plus p))) r = refl
  turned-factor (reference n e (index (Times f) (By Minus p))) r = refl

turned-names : (ps : List Place) (r : List Word) → turned true (spell_names ps (mark semicolon ∷ r)) ≡ spell_names ps (mark semicolon ∷ turned false r)
turned-names [] r = refl
turned-names (p ∷ ps) r = ap (λ (l : List Word). name p ∷ l) (turned-names ps r)

turned-clause : (k : Option Place) (r : List Word) → turned false (spell_clause k r) ≡ spell_clause k (turned false r)
turned-clause none r = refl
turned-clause (some p) r = refl

turned-rule : (x : Rule) → turned false (yield x) ≡ yield (turn x)
turned-rule (rule e es n ns k c) =
    ap (λ (l : List Word). mark events_kind ∷ name e ∷ l)
    (turned-names es _ ∙ ap (λ (l : List Word). spell_names es (mark semicolon ∷ mark notes_kind ∷ name n ∷ l)) (turned-names ns _ ∙ ap (λ (l : List Word). spell_names ns (mark semicolon ∷ l)) (turned-clause k (spell_cond c []) ∙ ap (spell_clause k) (turned-cond c []))))

-- ---- the turned tokens
abbrev pub put_token : ℕ → List Token → List Token
put_token k ts = cond (eqb k 0) ts (record { kind = k; start = 0; end = 0 } ∷ ts)

abbrev pub turned_tokens : Bool → List Token → List Token
turned_tokens f [] = []
turned_tokens f (t ∷ ts) = put_token (before f (word_of t.kind (place t))) (t ∷ turned_tokens (after (word_of t.kind (place t))) ts)

words-put : (f : Bool) (w : Word) (ts : List Token) → words (put_token (before f w) ts) ≡ put_word (before f w) (words ts)
words-put f (mark k) ts = grind arith
words-put f (name p) ts = refl
words-put f (number p) ts = refl
words-put f (Word.decimal p) ts = refl

words-turned : (f : Bool) (ts : List Token) → words (turned_tokens f ts) ≡ turned f (words ts)
words-turned f [] = refl
words-turned f (t ∷ ts) =
    let w = word_of t.kind (place t) in
    words-put f w (t ∷ turned_tokens (after w) ts) ∙ ap (λ (l : List Word). put_word (before f w) (w ∷ l)) (words-turned (after w) ts)

pub spells-turned : (x : Rule) (ts : List Token) → yield x ≡ words ts → yield (turn x) ≡ words (turned_tokens false ts)
spells-turned x ts e = sym (turned-rule x) ∙ (ap (turned false) e ∙ sym (words-turned false ts))
