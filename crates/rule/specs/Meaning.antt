-- What a tree of the grammar means: the rule, with its names and numbers looked up, that frames hold and verdicts are of.
-- From document 01, "From rule text to frames", and point 1 of document 02. Assumes nothing: definitions.
use Rattle.std.specs.Prelude.{ℕ, List, ℤ, pos, neg_ℤ}
use Rattle.std.proofs.Math.Option.{Option, none, some}
use Rattle.rule.specs.Frames.{Arithmetic, Connective}
use Rattle.rule.specs.Grammar
use Rattle.rule.specs.Draft.{relation_of, sign_of}
use Rattle.rule.specs.Tree
use Rattle.rule.specs.Spelling as spelling
use Rattle.rule.specs.Spelling.{number_of_name, decimal, letters}
use Rattle.rule.specs.declared.parts.Place.{Place}
use Rattle.rule.specs.declared.parts.Role.TheVariants.{Event, Note}
use Rattle.rule.specs.declared.parts.Sign.TheVariants.{Plus, Minus}
use Rattle.rule.specs.declared.parts.Multiple.{Multiple}
use Rattle.rule.specs.declared.parts.Multiple.TheVariants.{Once, Times}
use Rattle.rule.specs.declared.parts.Shift.{Shift}
use Rattle.rule.specs.declared.parts.Shift.TheVariants.{Unshifted, By}

-- event_of and note_of number a name in its role, value is the number that stands at a place, decimals how many it has
module _ (event_of note_of value decimals : Place → ℕ) where
  -- index: the factor of i, 1 where none stands
  abbrev pub factor_at : Multiple → ℕ
  factor_at Once = 1
  factor_at (Times p) = value p

  -- and the offset, 0 where none stands
  abbrev pub offset_at : Shift → ℤ
  offset_at Unshifted = pos 0
  offset_at (By Plus p) = pos (value p)
  offset_at (By Minus p) = neg_ℤ (pos (value p))

  -- reference: name "(" name "[" index "]" ")", the note first, then the event
  abbrev pub reference_at : Place → Place → Grammar.Index → Tree.Reference
  reference_at n e (Grammar.index f o) = record { event = event_of e; note = note_of n; factor = factor_at f; offset = offset_at o }

  -- "every repeat grouped to the left"; "Conditions group by braces and sums by parentheses", which leave no trace
  abbrev mutual
    pub meaning_sum : Grammar.Sum → Tree.Sum
    meaning_sum (Grammar.a_prod x) = meaning_prod x
    meaning_sum (Grammar.add x g y) = Tree.arithmetic (sign_of g) (meaning_sum x) (meaning_prod y)

    pub meaning_prod : Grammar.Prod → Tree.Sum
    meaning_prod (Grammar.a_factor x) = meaning_factor x
    meaning_prod (Grammar.multiply x y) = Tree.arithmetic Arithmetic.multiply (meaning_prod x) (meaning_factor y)

    pub meaning_factor : Grammar.Factor → Tree.Sum
    meaning_factor (Grammar.literal p) = Tree.literal (decimals p) (value p)
    meaning_factor (Grammar.Factor.decimal p) = Tree.literal (decimals p) (value p)
    meaning_factor Grammar.var = Tree.instance
    meaning_factor (Grammar.parens x) = meaning_sum x
    meaning_factor (Grammar.absolute x) = Tree.abs (meaning_sum x)
    meaning_factor (Grammar.reference n e x) = Tree.reference (reference_at n e x)

  -- of conditions
  abbrev mutual
    pub meaning_cond : Grammar.Cond → Tree.Cond
    meaning_cond (Grammar.a_disj x) = meaning_disj x
    meaning_cond (Grammar.implies x y) = Tree.connective Connective.implies (meaning_disj x) (meaning_cond y)

    pub meaning_disj : Grammar.Disj → Tree.Cond
    meaning_disj (Grammar.a_conj x) = meaning_conj x
    meaning_disj (Grammar.or x y) = Tree.connective Connective.or (meaning_disj x) (meaning_conj y)

    pub meaning_conj : Grammar.Conj → Tree.Cond
    meaning_conj (Grammar.a_unit x) = meaning_unit x
    meaning_conj (Grammar.and x y) = Tree.connective Connective.and (meaning_conj x) (meaning_unit y)

    pub meaning_unit : Grammar.CUnit → Tree.Cond
    meaning_unit (Grammar.not x) = Tree.not (meaning_unit x)
    meaning_unit (Grammar.group x) = meaning_cond x
    meaning_unit (Grammar.relation x c y) = Tree.relation (relation_of c) (meaning_sum x) (meaning_sum y)

  -- ["scale" number ";"]: "each note carries k decimals"
  abbrev pub meaning_clause : Option Place → Option ℕ
  meaning_clause none = none
  meaning_clause (some p) = some (value p)

  -- of a rule
  abbrev pub meaning_of : Grammar.Rule → Tree.RuleTree
  meaning_of (Grammar.rule e es n ns k c) = record { scale = meaning_clause k; condition = meaning_cond c }

-- what a tree that spells a text means, its names numbered by their letters, its numbers by their decimal values, "a literal its
-- decimals"
abbrev pub meaning : List ℕ → Grammar.Rule → Tree.RuleTree
meaning text x =
    meaning_of (number_of_name text Event x) (number_of_name text Note x) (λ p. decimal (letters text p))
    (λ p. spelling.decimals (letters text p)) x
