-- The grammar of rules, from 'From rule text to frames' of document 01 and point 1 of document 02: one type for each of its lines,
-- in its order, every repeat grouped to the left; what a tree spells; and the place of what is outside.
-- Assumes nothing: definitions.
use Rattle.std.specs.Prelude.{ℕ, ◌≡◌, cond, List, [], ◌∷◌, ◌++◌, eqb}
use Rattle.std.proofs.Math.Option.{Option, none, some}
use Rattle.rule.specs.Token.{name_kind, number_kind, events_kind, notes_kind, index_kind, abs_kind, arrow_kind, bars_kind}
use Rattle.rule.specs.Token.{ampersands_kind, unequal_kind, at_most_kind, at_least_kind, decimal_kind, scale_kind}
pub use Rattle.rule.specs.Class.{semicolon, bang, open_brace, close_brace, open_paren, close_paren, open_bracket, close_bracket}
pub use Rattle.rule.specs.Class.{star, plus_mark, minus_mark, equal_mark, less_mark, more_mark}
use Rattle.rule.specs.declared.Token.{Token}
use Rattle.rule.specs.declared.parts.Place.{Place}
use Rattle.rule.specs.declared.parts.Sign.{Sign}
use Rattle.rule.specs.declared.parts.Sign.TheVariants.{Plus, Minus}
use Rattle.rule.specs.declared.parts.Multiple.{Multiple}
use Rattle.rule.specs.declared.parts.Multiple.TheVariants.{Once, Times}
use Rattle.rule.specs.declared.parts.Shift.{Shift}
use Rattle.rule.specs.declared.parts.Shift.TheVariants.{Unshifted, By}

-- ---- trees
-- rel: `= != < <= > >=`
pub data Rel : Type 0 where
  equal unequal less at_most more at_least : Rel

-- index: [number "*"] "i" [("+" or "-") number]
pub data Index : Type 0 where
  index : Multiple → Shift → Index

mutual
  -- cond: disj ["->" cond]
  pub data Cond : Type 0 where
    a_disj : Disj → Cond
    implies : Disj → Cond → Cond

  -- disj: conj {"||" conj}
  pub data Disj : Type 0 where
    a_conj : Conj → Disj
    or : Disj → Conj → Disj

  -- conj: unit {"&&" unit}
  pub data Conj : Type 0 where
    a_unit : CUnit → Conj
    and : Conj → CUnit → Conj

  -- unit: "!" unit, or "{" cond "}", or sum rel sum
  pub data CUnit : Type 0 where
    not : CUnit → CUnit
    group : Cond → CUnit
    relation : Sum → Rel → Sum → CUnit

  -- sum: prod {("+" or "-") prod}
  pub data Sum : Type 0 where
    a_prod : Prod → Sum
    add : Sum → Sign → Prod → Sum

  -- prod: factor {"*" factor}
  pub data Prod : Type 0 where
    a_factor : Factor → Prod
    multiply : Prod → Factor → Prod

  -- factor: number, decimal, "i", "(" sum ")", "abs" "(" sum ")", or reference: name "(" name "[" index "]" ")", the note first,
  -- then the event
  pub data Factor : Type 0 where
    literal decimal : Place → Factor
    var : Factor
    parens : Sum → Factor
    absolute : Sum → Factor
    reference : Place → Place → Index → Factor

-- rule: "events" name {name} ";" "notes" name {name} ";" ["scale" number ";"] cond
pub data Rule : Type 0 where
  rule : Place → List Place → Place → List Place → Option Place → Cond → Rule

-- ---- what a tree spells
-- a mark or a reserved word, by its kind; a name, a number or a decimal, by its place
pub data Word : Type 0 where
  mark : ℕ → Word
  name number decimal : Place → Word

-- rel: `= != < <= > >=`
abbrev pub rel_mark : Rel → ℕ
rel_mark equal = equal_mark
rel_mark unequal = unequal_kind
rel_mark less = less_mark
rel_mark at_most = at_most_kind
rel_mark more = more_mark
rel_mark at_least = at_least_kind

-- all of them, in this order
abbrev pub rels : List Rel
rels = equal ∷ unequal ∷ less ∷ at_most ∷ more ∷ at_least ∷ []

-- "+" or "-"
abbrev pub sign_mark : Sign → ℕ
sign_mark Plus = plus_mark
sign_mark Minus = minus_mark

-- both, in this order
abbrev pub signs : List Sign
signs = Plus ∷ Minus ∷ []

-- at a token of kind k: f of the first in the list that has k for its mark, or z
abbrev pub by_mark : {A B : Type 0} → (A → ℕ) → ℕ → (A → B) → B → List A → B
by_mark its k f z [] = z
by_mark its k f z (x ∷ xs) = cond (eqb k (its x)) (f x) (by_mark its k f z xs)

-- each function: the words of the tree, and then r; [number "*"]
abbrev pub spell_multiple : Multiple → List Word → List Word
spell_multiple Once r = r
spell_multiple (Times p) r = number p ∷ mark star ∷ r

-- [("+" or "-") number]
abbrev pub spell_shift : Shift → List Word → List Word
spell_shift Unshifted r = r
spell_shift (By g p) r = mark (sign_mark g) ∷ number p ∷ r

-- index: [number "*"] "i" [("+" or "-") number]
abbrev pub spell_index : Index → List Word → List Word
spell_index (index f o) r = spell_multiple f (mark index_kind ∷ spell_shift o r)

-- conditions and sums, "words and marks quoted"
abbrev mutual
  pub spell_cond : Cond → List Word → List Word
  spell_cond (a_disj x) r = spell_disj x r
  spell_cond (implies x y) r = spell_disj x (mark arrow_kind ∷ spell_cond y r)

  pub spell_disj : Disj → List Word → List Word
  spell_disj (a_conj x) r = spell_conj x r
  spell_disj (or x y) r = spell_disj x (mark bars_kind ∷ spell_conj y r)

  pub spell_conj : Conj → List Word → List Word
  spell_conj (a_unit x) r = spell_unit x r
  spell_conj (and x y) r = spell_conj x (mark ampersands_kind ∷ spell_unit y r)

  pub spell_unit : CUnit → List Word → List Word
  spell_unit (not x) r = mark bang ∷ spell_unit x r
  spell_unit (group x) r = mark open_brace ∷ spell_cond x (mark close_brace ∷ r)
  spell_unit (relation x c y) r = spell_sum x (mark (rel_mark c) ∷ spell_sum y r)

  pub spell_sum : Sum → List Word → List Word
  spell_sum (a_prod x) r = spell_prod x r
  spell_sum (add x g y) r = spell_sum x (mark (sign_mark g) ∷ spell_prod y r)

  pub spell_prod : Prod → List Word → List Word
  spell_prod (a_factor x) r = spell_factor x r
  spell_prod (multiply x y) r = spell_prod x (mark star ∷ spell_factor y r)

  pub spell_factor : Factor → List Word → List Word
  spell_factor (literal p) r = number p ∷ r
  spell_factor (decimal p) r = Word.decimal p ∷ r
  spell_factor var r = mark index_kind ∷ r
  spell_factor (parens x) r = mark open_paren ∷ spell_sum x (mark close_paren ∷ r)
  spell_factor (absolute x) r = mark abs_kind ∷ mark open_paren ∷ spell_sum x (mark close_paren ∷ r)
  spell_factor (reference n e x) r =
      name n ∷ mark open_paren ∷ name e ∷ mark open_bracket ∷ spell_index x (mark close_bracket ∷ mark close_paren ∷ r)

-- {name}
abbrev pub spell_names : List Place → List Word → List Word
spell_names [] r = r
spell_names (p ∷ ps) r = name p ∷ spell_names ps r

-- ["scale" number ";"]
abbrev pub spell_clause : Option Place → List Word → List Word
spell_clause none r = r
spell_clause (some p) r = mark scale_kind ∷ number p ∷ mark semicolon ∷ r

-- rule: "events" name {name} ";" "notes" name {name} ";" ["scale" number ";"] cond
abbrev pub spell_rule : Rule → List Word → List Word
spell_rule (rule e es n ns k c) r =
    mark events_kind ∷ name e ∷ spell_names es (mark semicolon ∷ mark notes_kind ∷ name n ∷ spell_names ns
    (mark semicolon ∷ spell_clause k (spell_cond c r)))

-- the words of a rule, and nothing after
abbrev pub yield : Rule → List Word
yield x = spell_rule x []

-- ---- what tokens spell
-- where a token stands
abbrev pub place : Token → Place
place t = record { start = t.start; end = t.end }

-- a token as a word: names, numbers and decimals by their places, all others by their kind
abbrev pub word_of : ℕ → Place → Word
word_of k p =
    cond (eqb k name_kind) (name p) (cond (eqb k number_kind) (number p) (cond (eqb k decimal_kind) (Word.decimal p) (mark k)))

-- of all tokens
abbrev pub words : List Token → List Word
words [] = []
words (t ∷ ts) = word_of t.kind (place t) ∷ words ts

-- ---- in the grammar: a tree spells the tokens
abbrev pub Is-rule : List Token → Type 0
Is-rule ts = (x : Rule) × (yield x ≡ words ts)

-- the tokens begin a rule
abbrev pub Begins-rule : List Token → Type 0
Begins-rule ts = (x : Rule) × (ws : List Word) × (yield x ≡ words ts ++ ws)

-- "outside the grammar, place the first token that with those before it begins no rule (the length if the text ends early)"
pub data Wrong-at (n : ℕ) : List Token → ℕ → Type 0 where
  at_token : (us : List Token) (t : Token) (vs : List Token) → Begins-rule us → (Begins-rule (us ++ t ∷ []) → ⊥)
      → Wrong-at n (us ++ t ∷ vs) t.start
  at_end : (ts : List Token) → Begins-rule ts → (Is-rule ts → ⊥) → Wrong-at n ts n
