-- A frame before its names and numbers are looked up, and what relations and signs stand for; Meaning says what frames are.
-- From 'From rule text to frames' of document 01 and point 1 of document 02. Assumes nothing: definitions.
use Rattle.std.specs.Prelude.{ℕ}
use Rattle.rule.specs.Frames.{Arithmetic, Relation, Kind, kind_byte}
use Rattle.rule.specs.Grammar.{Rel, equal, unequal, less, at_most, more, at_least}
use Rattle.rule.specs.declared.parts.Place.{Place}
use Rattle.rule.specs.declared.parts.Sign.{Sign}
use Rattle.rule.specs.declared.parts.Sign.TheVariants.{Plus, Minus}
use Rattle.rule.specs.declared.parts.Multiple.{Multiple}
use Rattle.rule.specs.declared.parts.Shift.{Shift}

-- a frame as the text has it, before names and numbers are looked up: "a frame of kind 04 at the head"; a literal; i; a reference,
-- its note first; a kind alone
pub data Draft : Type 0 where
  head : Place → Draft
  lit : Place → Draft
  index_var : Draft
  ref : Place → Place → Multiple → Shift → Draft
  plain : ℕ → Draft

-- of a kind
abbrev pub alone : Kind → Draft
alone k = plain (kind_byte k)

-- rel: "= != < <= > >="
abbrev pub relation_of : Rel → Relation
relation_of equal = Relation.equal
relation_of unequal = Relation.unequal
relation_of less = Relation.less
relation_of at_most = Relation.at_most
relation_of more = Relation.more
relation_of at_least = Relation.at_least

-- sum: "+" adds, "-" subtracts
abbrev pub sign_of : Sign → Arithmetic
sign_of Plus = Arithmetic.add
sign_of Minus = Arithmetic.subtract
