-- The rational numbers that notes, literals and i stand for, each integer over its power of ten, compared by cross multiplication:
-- a condition's value by them. `scale-exact` in proofs/Main says that it is the same.
-- From document 02, point 1. Assumes nothing: definitions.
use Rattle.std.specs.Prelude.{Bool, cond, ◌++◌, ℕ, ◌*◌, ◌^◌, ℤ, pos, nat_abs, ◌+ℤ◌, ◌-ℤ◌, ◌*ℤ◌}
use Rattle.rule.specs.Frames.{Arithmetic, add, subtract, multiply, Relation}
use Rattle.rule.specs.Tree.{Sum, literal, instance, reference, arithmetic, abs, Cond, relation, connective, references_s}
use Rattle.rule.specs.Decimals.{Term, term}
use Rattle.verdict.specs.Found.{Given, is_missing, some_of}
use Rattle.verdict.specs.Kleene.{not_k, connected, truth}
use Rattle.verdict.specs.Value.{times_z, note_of, holds}
use Rattle.verdict.specs.declared.Truth.{Truth}
use Rattle.verdict.specs.declared.Truth.TheVariants.{Unknown}

-- a rational number: an integer over a natural number
pub record Fraction : Type 0 where
  pub top : ℤ
  pub bottom : ℕ

-- of its parts
abbrev pub over : ℤ → ℕ → Fraction
over z n = record { top = z; bottom = n }

-- "A term has a value and a count of decimals": what it stands for, the value over its power of ten
abbrev pub fraction : Term ℤ → Fraction
fraction x = over x.amount (10 ^ x.decimals)

-- ---- sums
-- cross multiplication: a top by the other's bottom
abbrev pub crossed : Fraction → Fraction → ℤ
crossed p q = times_z p.top q.bottom

-- "11 add, 12 subtract, 13 multiply", of rational numbers: a/b + c/d is (a·d + c·b)/(b·d), a/b × c/d is (a·c)/(b·d)
abbrev pub computed_q : Arithmetic → Fraction → Fraction → Fraction
computed_q add p q = over (crossed p q +ℤ crossed q p) (p.bottom * q.bottom)
computed_q subtract p q = over (crossed p q -ℤ crossed q p) (p.bottom * q.bottom)
computed_q multiply p q = over (p.top *ℤ q.top) (p.bottom * q.bottom)

-- "14 abs", of a rational number
abbrev pub size_q : Fraction → Fraction
size_q p = over (pos (nat_abs p.top)) p.bottom

-- ---- relations
-- "21 to 26 the relations as listed", of rational numbers: compared by cross multiplication
abbrev pub compared_q : Relation → Fraction → Fraction → Bool
compared_q r p q = holds r (crossed p q) (crossed q p)

-- ---- of what is given: how many decimals a note has, the instance number, and what each reference is at that instance
module _ (k : ℕ) (g : Given) where
  -- a sum's rational number: "each note carries k decimals", a literal has its own, "i has none"
  abbrev pub value_q : Sum → Fraction
  value_q (literal d n) = fraction (term (pos n) d)
  value_q instance = fraction (term (pos g.instance) 0)
  value_q (reference r) = fraction (term (note_of (g.found r)) k)
  value_q (arithmetic o a b) = computed_q o (value_q a) (value_q b)
  value_q (abs a) = size_q (value_q a)

  -- "A relation is unknown if it names a void or pending reference, else true or false"
  abbrev pub truth_q : Cond → Truth
  truth_q (relation r a b) =
      cond (some_of is_missing g.found (references_s a ++ references_s b)) Unknown (truth (compared_q r (value_q a) (value_q b)))
  truth_q (Cond.not p) = not_k (truth_q p)
  truth_q (connective j p q) = connected j (truth_q p) (truth_q q)
