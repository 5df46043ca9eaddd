-- What holds of verdicts: the headline statements. Each is proved where it is cited. Assumes nothing.
use mathlib.Core.Path.{◌≡◌}
use mathlib.Core.Bool.{true}
use mathlib.Core.List.{List, Memᴰ}
use Prim.Native.Nat.{ℕ, ◌≤◌}
use lib.IntN.{ℤ, nat_abs}
use Rattle.rule.specs.Limits.{reference_magnitude}
use Rattle.rule.specs.Frames.{equal}
use Rattle.rule.specs.Tree.{Reference, Sum, Cond, RuleTree, IsRule, references, magnitude, decimals}
use Rattle.rule.specs.Build.{tree_of}
use Rattle.rule.specs.Check.{checked_of}
use Rattle.rule.specs.CheckTold as checking
use Rattle.verdict.specs.Found.{instance_limit, Found, found_in, Given, given_in}
use Rattle.verdict.specs.Value.{note_of, value_s, value_c, value}
use Rattle.verdict.specs.Rational.{fraction, compared_q, value_q, truth_q}
use Rattle.verdict.specs.Settled.{settled, judgement}
use Rattle.verdict.specs.Later.{Gains, with_found, GainsIn, Sharpens, MoreLines}
use Rattle.verdict.specs.Marks.{TellAll}
use Rattle.verdict.specs.Pass.{judgement_of}
use Rattle.std.specs.Prelude.{None}
use Rattle.verdict.proofs.Own
use Rattle.verdict.proofs.Stays
use Rattle.verdict.proofs.Bounds
use Rattle.verdict.proofs.Means
use Rattle.verdict.proofs.Exact

-- what judge answers of accepted frames is the document's: the value of the rule's tree where the instance is settled,
-- whatever the references are, so long as the arrays tell it
pub judge_accepted : (s : List ℕ) (g : Given) (marks : List ℕ) (notes : List ℤ) → checked_of s ≡ checking.accepted → TellAll s g.found marks notes
    → judgement_of s g.instance marks notes ≡ judgement g (tree_of s)
judge_accepted = Means.judge_accepted

-- evaluation of a tree's frames in postfix order gives the tree's value
pub judge_postfix : {s : List ℕ} (r : IsRule s) (g : Given) (marks : List ℕ) (notes : List ℤ) → TellAll s g.found marks notes
    → judgement_of s g.instance marks notes ≡ judgement g r.tree
judge_postfix = Means.judge_postfix

-- only the rule's own references matter
pub own-references : (g : Given) (found : Reference → Found) (t : RuleTree) → ((r : Reference) → Memᴰ r (references t) → g.found r ≡ found r)
    → judgement g t ≡ judgement (with_found g found) t
own-references = Own.judgement-own

-- a rule that is true or false stays so when pending references become present
pub monotone : (g : Given) (found : Reference → Found) (t : RuleTree) → GainsIn t g.found found → Sharpens (value g t) (value (with_found g found) t)
monotone = Stays.value_sharpens

-- a settled instance stays settled, with its verdict
pub settled-stays : (g : Given) (found : Reference → Found) (t : RuleTree) → GainsIn t g.found found → settled g t ≡ true
    → (settled (with_found g found) t ≡ true) × (value (with_found g found) t ≡ value g t)
settled-stays = Stays.settled-stays

-- where lines are added, each reference stays as it is or was pending
pub lines_gain : (lines lines' : ℕ → List (List ℤ)) → MoreLines lines lines' → (i : ℕ) (r : Reference) → Gains (found_in lines i r) (found_in lines' i r)
lines_gain = Stays.lines_gain

-- so more accepted lines leave what is said of an instance that is settled
pub lines_stay : (i : ℕ) (lines lines' : ℕ → List (List ℤ)) (t : RuleTree) → MoreLines lines lines' → (judgement (given_in lines i) t ≡ None → ⊥)
    → judgement (given_in lines' i) t ≡ judgement (given_in lines i) t
lines_stay = Stays.lines_stay

-- no sum exceeds its magnitude, and each has the decimals of its magnitude: with frames that opening accepts arithmetic is exact
pub within-magnitude : (k : ℕ) (g : Given) → g.instance ≤ instance_limit → ((r : Reference) → nat_abs (note_of (g.found r)) ≤ reference_magnitude)
    → (a : Sum) → (nat_abs (value_s k g a).amount ≤ (magnitude k a).amount) × ((value_s k g a).decimals ≡ decimals k a)
within-magnitude = Bounds.value-within

-- a condition's value is that of the rational numbers that notes, literals and i stand for, compared by cross multiplication:
-- bringing to one count changes no verdict, whatever the limits
pub scale-exact : (k : ℕ) (g : Given) (t : Cond) → value_c k g t ≡ truth_q k g t
scale-exact = Exact.scale-exact

-- and a sum's value, over its power of ten, equals its rational number
pub sum-exact : (k : ℕ) (g : Given) (a : Sum) → compared_q equal (fraction (value_s k g a)) (value_q k g a) ≡ true
sum-exact = Exact.sum-exact
