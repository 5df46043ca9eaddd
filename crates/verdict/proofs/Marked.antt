-- The marked examples M1 to M11 of document 01, each computed from the definitions. Assumes nothing.
use mathlib.Core.Path.{◌≡◌, refl}
use mathlib.Core.Bool.{cond}
use mathlib.Core.List.{List, [], ◌∷◌, ◌++◌}
use Prim.Native.Nat.{ℕ}
use lib.Dec.{eqb}
use lib.IntN.{ℤ, pos, negsuc}
use lib.ListN.{replicate}
use Rattle.rule.specs.Frames.{add, multiply, equal, less, more, or, kind_of}
use Rattle.rule.specs.Tree.{Sum, literal, reference, arithmetic, abs, relation, connective, RuleTree, postfix, bytes_of}
use Rattle.rule.specs.Order.{order_of}
use Rattle.rule.specs.References.{reference_count}
use Rattle.rule.specs.Sizes.{sizes_fit}
use Rattle.rule.specs.Check.{checked_of}
use Rattle.rule.specs.CheckTold as checking
use Rattle.rule.proofs.Laws.{latency, unscaled}
use Rattle.verdict.specs.Found.{given_in}
use Rattle.verdict.specs.Settled.{judgement}
use Rattle.std.specs.Prelude.{Option, Some, None}
use Rattle.verdict.specs.declared.Verdict.{Verdict}
use Rattle.verdict.specs.declared.Verdict.TheVariants.{True, False, Unknown}

-- what is said of instance i over accepted lines; waiting is None
abbrev over : (ℕ → List (List ℤ)) → ℕ → RuleTree → Option Verdict
over lines i t = judgement (given_in lines i) t

-- the lines of events 0 and 1, each with one note
abbrev lines : List (List ℤ) → List (List ℤ) → ℕ → List (List ℤ)
lines a b e = cond (eqb e 0) a (cond (eqb e 1) b [])

-- one line with a note
abbrev line : ℤ → List (List ℤ)
line z = (z ∷ []) ∷ []

-- n lines before the one that counts
abbrev before : ℕ → List (List ℤ)
before n = replicate n (pos 0 ∷ [])

-- t(e[i + o]), t being note 0
abbrev t : ℕ → ℤ → Sum
t e o = reference (record { event = e; note = 0; factor = 1; offset = o })

m1 : over (lines (line (pos 10)) (line (pos 35))) 0 latency ≡ Some True
m1 = refl

m2 : over (lines (line (pos 10)) (line (pos 36))) 0 latency ≡ Some False
m2 = refl

m3 : over (lines (line (pos 10)) []) 0 latency ≡ None
m3 = refl

-- events a b; notes t; t(a[i+10]) > 100 || t(b[i-5]) < 300
abbrev after003 : RuleTree
after003 = unscaled (connective or (relation more (t 0 (pos 10)) (literal 0 100)) (relation less (t 1 (negsuc 4)) (literal 0 300)))

m4 : over (lines (before 20 ++ line (pos 200)) []) 10 after003 ≡ Some True
m4 = refl

m5 : over (lines (before 14 ++ line (pos 200)) []) 4 after003 ≡ Some True
m5 = refl

m6 : over (lines (before 14 ++ line (pos 100)) []) 4 after003 ≡ Some Unknown
m6 = refl

m7 : over (lines (before 14) []) 4 after003 ≡ None
m7 = refl

-- t(a[i-2]) > 0, whose first instance is 2 (document 02, point 2)
m8 : over (lines [] []) 2 (unscaled (relation more (t 0 (negsuc 1)) (literal 0 0))) ≡ None
m8 = refl

-- t(a[i]) > 0 || 0 = 0
m9 : over (lines [] []) 0 (unscaled (connective or (relation more (t 0 (pos 0)) (literal 0 0)) (relation equal (literal 0 0) (literal 0 0)))) ≡ None
m9 = refl

-- abs(t(a[i])) > 2147483647
m10 : over (lines (line (negsuc 2147483647)) []) 0 (unscaled (relation more (abs (t 0 (pos 0))) (literal 0 2147483647))) ≡ Some True
m10 = refl

-- the product of two notes, and one more, in a relation with 0
abbrev product : Sum
product = arithmetic multiply (t 0 (pos 0)) (t 1 (pos 0))

abbrev opened : Sum → List ℕ
opened a = bytes_of (postfix (unscaled (relation more a (literal 0 0))))

m11 : checked_of (opened product) ≡ checking.accepted
unfolding checked_of order_of reference_count sizes_fit kind_of
m11 = refl

m11-more : checked_of (opened (arithmetic add product (literal 0 1))) ≡ checking.refused 8 0
unfolding checked_of order_of reference_count sizes_fit kind_of
m11-more = refl
