-- What a rule holds, in the order of the text: the levels that it enters and its frames, in postfix order. The one walk over a
-- tree, from which Measure takes depth, names, numbers and frames. From 'From rule text to frames' of document 01 and point 1 of
-- document 02.
-- Assumes nothing: definitions.
use Rattle.std.specs.Prelude.{ℕ, suc, List, [], ◌∷◌, ◌++◌}
use Rattle.std.proofs.Math.Option.{Option, none, some}
use Rattle.rule.specs.Frames.{Arithmetic, Connective, Kind}
use Rattle.rule.specs.Grammar.{index, Cond, a_disj, implies, Disj, a_conj, or, Conj, a_unit, and}
use Rattle.rule.specs.Grammar.{CUnit, not, group, relation, Sum, a_prod, add, Prod, a_factor, multiply}
use Rattle.rule.specs.Grammar.{Factor, literal, var, parens, absolute, reference}
use Rattle.rule.specs.Grammar.{Rule, rule}
use Rattle.rule.specs.Draft.{Draft, head, lit, index_var, ref, alone, relation_of, sign_of}
use Rattle.rule.specs.declared.parts.Place.{Place}

-- a level of that depth is entered, or a frame stands
pub data Item : Type 0 where
  enters : ℕ → Item
  puts : Draft → Item

-- all of it one level deeper
abbrev pub deepened : List Item → List Item
deepened [] = []
deepened (enters d ∷ l) = enters (suc d) ∷ deepened l
deepened (puts f ∷ l) = puts f ∷ deepened l

-- what stands one level further in
abbrev pub inside : List Item → List Item
inside l = enters 1 ∷ deepened l

-- an operation, which has no operand but those before it
abbrev pub operates : Kind → List Item
operates k = puts (alone k) ∷ []

-- Frames "in postfix order, left operand first"; "Depth at a point counts the "!", "{", "(" that groups a sum, "abs" (once, with
-- its parenthesis) and "->" (for its right side) around it"
abbrev mutual
  pub items_cond : Cond → List Item
  items_cond (a_disj x) = items_disj x
  items_cond (implies x y) = items_disj x ++ inside (items_cond y) ++ operates (Kind.connective Connective.implies)

  pub items_disj : Disj → List Item
  items_disj (a_conj x) = items_conj x
  items_disj (or x y) = items_disj x ++ items_conj y ++ operates (Kind.connective Connective.or)

  pub items_conj : Conj → List Item
  items_conj (a_unit x) = items_unit x
  items_conj (and x y) = items_conj x ++ items_unit y ++ operates (Kind.connective Connective.and)

  pub items_unit : CUnit → List Item
  items_unit (not x) = inside (items_unit x) ++ operates Kind.negation
  items_unit (group x) = inside (items_cond x)
  items_unit (relation x c y) = items_sum x ++ items_sum y ++ operates (Kind.relation (relation_of c))

  pub items_sum : Sum → List Item
  items_sum (a_prod x) = items_prod x
  items_sum (add x g y) = items_sum x ++ items_prod y ++ operates (Kind.arithmetic (sign_of g))

  pub items_prod : Prod → List Item
  items_prod (a_factor x) = items_factor x
  items_prod (multiply x y) = items_prod x ++ items_factor y ++ operates (Kind.arithmetic Arithmetic.multiply)

  pub items_factor : Factor → List Item
  items_factor (literal p) = puts (lit p) ∷ []
  items_factor (Factor.decimal p) = puts (lit p) ∷ []
  items_factor var = puts index_var ∷ []
  items_factor (parens x) = inside (items_sum x)
  items_factor (absolute x) = inside (items_sum x) ++ operates Kind.absolute
  items_factor (reference n e (index f o)) = puts (ref n e f o) ∷ []

-- "A frame of kind 04 at the head", where the clause stands
abbrev pub items_clause : Option Place → List Item
items_clause none = []
items_clause (some p) = puts (head p) ∷ []

-- of a rule: of its clause, then of its condition
abbrev pub items : Rule → List Item
items (rule e es n ns k c) = items_clause k ++ items_cond c
