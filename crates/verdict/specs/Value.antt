-- The value of a rule's tree at an instance. From document 01, "Verdicts", and document 02, point 1. Assumes nothing: definitions.
use Rattle.std.specs.Prelude.{Bool, false, cond, not, ◌++◌, ℕ, eqb, ℤ, pos, negsuc, nat_abs, ◌+ℤ◌, ◌-ℤ◌}
use Rattle.std.specs.Prelude.{◌*ℤ◌}
use Rattle.std.specs.Int.Signed.{lt_z, le_z}
use Rattle.rule.specs.Frames.{Arithmetic, add, subtract, multiply, Relation, equal, unequal, less, at_most, more, at_least}
use Rattle.rule.specs.Tree.{Sum, literal, instance, reference, arithmetic, abs, Cond, relation, connective, RuleTree, references_s}
use Rattle.rule.specs.Scale.{note_decimals}
use Rattle.rule.specs.Decimals.{Term, term, left_side, right_side, joined, multiplied}
use Rattle.verdict.specs.Found.{Found, present, pending, void, Given, is_missing, some_of}
use Rattle.verdict.specs.Kleene.{not_k, connected, truth}
use Rattle.verdict.specs.declared.Truth.{Truth}
use Rattle.verdict.specs.declared.Truth.TheVariants.{Unknown}

-- ---- sums: terms, of an integer and a count of decimals
-- "exactly": an integer as often as a natural number says
abbrev pub times_z : ℤ → ℕ → ℤ
times_z z n = z *ℤ pos n

-- "11 add, 12 subtract, 13 multiply": "arithmetic is exact"; "Sums .. bring both sides exactly to the greater count, and a product
-- adds the counts"
abbrev pub computed : Arithmetic → Term ℤ → Term ℤ → Term ℤ
computed add x y = joined times_z ◌+ℤ◌ x y
computed subtract x y = joined times_z ◌-ℤ◌ x y
computed multiply x y = multiplied ◌*ℤ◌ x y

-- "14 abs", which keeps the count
abbrev pub size_of : Term ℤ → Term ℤ
size_of x = term (pos (nat_abs x.amount)) x.decimals

-- "the value (4 bytes, 0 unless present)": a reference's note; no relation looks at that 0
abbrev pub note_of : Found → ℤ
note_of (present z) = z
note_of pending = pos 0
note_of void = pos 0

-- ---- relations
-- the relation "=": the same number
abbrev pub eq_z : ℤ → ℤ → Bool
eq_z (pos x) (pos y) = eqb x y
eq_z (pos x) (negsuc y) = false
eq_z (negsuc x) (pos y) = false
eq_z (negsuc x) (negsuc y) = eqb x y

-- "21 to 26 the relations as listed": "= != < <= > >="
abbrev pub holds : Relation → ℤ → ℤ → Bool
holds equal x y = eq_z x y
holds unequal x y = not (eq_z x y)
holds less x y = lt_z x y
holds at_most x y = le_z x y
holds more x y = lt_z y x
holds at_least x y = le_z y x

-- "relations bring both sides exactly to the greater count"
abbrev pub compared : Relation → Term ℤ → Term ℤ → Bool
compared r x y = holds r (left_side times_z x y) (right_side times_z x y)

-- ---- of what is given: how many decimals a note has, the instance number, and what each reference is at that instance
module _ (k : ℕ) (g : Given) where
  -- the value of a sum, by its "01 literal, 02 i, 03 reference, 11 add, 12 subtract, 13 multiply, 14 abs"; "i has none"
  abbrev pub value_s : Sum → Term ℤ
  value_s (literal d n) = term (pos n) d
  value_s instance = term (pos g.instance) 0
  value_s (reference r) = term (note_of (g.found r)) k
  value_s (arithmetic o a b) = computed o (value_s a) (value_s b)
  value_s (abs a) = size_of (value_s a)

  -- "A relation is unknown if it names a void or pending reference, else true or false"
  abbrev pub value_c : Cond → Truth
  value_c (relation r a b) =
      cond (some_of is_missing g.found (references_s a ++ references_s b)) Unknown (truth (compared r (value_s a) (value_s b)))
  value_c (Cond.not p) = not_k (value_c p)
  value_c (connective j p q) = connected j (value_c p) (value_c q)

-- of a rule, "each note" with the scale's decimals
abbrev pub value : Given → RuleTree → Truth
value g t = value_c (note_decimals t.scale) g t.condition
