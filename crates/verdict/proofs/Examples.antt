-- The pass over frames, computed on frames of marked examples with what their arrays hold. Assumes nothing.
use mathlib.Core.Path.{◌≡◌, refl}
use mathlib.Core.List.{List, [], ◌∷◌}
use Prim.Native.Nat.{ℕ}
use lib.IntN.{ℤ, pos, negsuc}
use Rattle.rule.specs.Frames.{equal, less, more, or, kind_of}
use Rattle.rule.specs.Tree.{Sum, literal, reference, abs, relation, connective, RuleTree, postfix, bytes_of}
use Rattle.rule.proofs.Laws.{latency, unscaled}
use Rattle.verdict.specs.Pass.{body_judgement, judgement_of}
use Rattle.std.specs.Prelude.{Option, Some, None}
use Rattle.verdict.specs.declared.Verdict.{Verdict}
use Rattle.verdict.specs.declared.Verdict.TheVariants.{True, False, Unknown}

abbrev t : ℕ → ℤ → Sum
t e o = reference (record { event = e; note = 0; factor = 1; offset = o })

-- a rule's frames at an instance, with marks and notes
abbrev said : RuleTree → ℕ → List ℕ → List ℤ → Option Verdict
said c i marks notes = judgement_of (bytes_of (postfix c)) i marks notes

m1 : said latency 0 (0 ∷ 0 ∷ []) (pos 35 ∷ pos 10 ∷ []) ≡ Some True
unfolding judgement_of body_judgement kind_of
m1 = refl

m2 : said latency 0 (0 ∷ 0 ∷ []) (pos 36 ∷ pos 10 ∷ []) ≡ Some False
unfolding judgement_of body_judgement kind_of
m2 = refl

m3 : said latency 0 (1 ∷ 0 ∷ []) (pos 0 ∷ pos 10 ∷ []) ≡ None
unfolding judgement_of body_judgement kind_of
m3 = refl

-- t(a[i+10]) > 100 || t(b[i-5]) < 300: frames 0 and 3 are the references
abbrev after003 : RuleTree
after003 = unscaled (connective or (relation more (t 0 (pos 10)) (literal 0 100)) (relation less (t 1 (negsuc 4)) (literal 0 300)))

m4 : said after003 10 (0 ∷ 9 ∷ 9 ∷ 1 ∷ []) (pos 200 ∷ pos 0 ∷ pos 0 ∷ pos 7 ∷ []) ≡ Some True
unfolding judgement_of body_judgement kind_of
m4 = refl

m6 : said after003 4 (0 ∷ 9 ∷ 9 ∷ 2 ∷ []) (pos 100 ∷ pos 0 ∷ pos 0 ∷ pos 7 ∷ []) ≡ Some Unknown
unfolding judgement_of body_judgement kind_of
m6 = refl

m7 : said after003 4 (1 ∷ 9 ∷ 9 ∷ 2 ∷ []) (pos 200 ∷ pos 0 ∷ pos 0 ∷ pos 7 ∷ []) ≡ None
unfolding judgement_of body_judgement kind_of
m7 = refl

-- t(a[i]) > 0 || 0 = 0
m9 : said (unscaled (connective or (relation more (t 0 (pos 0)) (literal 0 0)) (relation equal (literal 0 0) (literal 0 0)))) 0 (1 ∷ []) [] ≡ None
unfolding judgement_of body_judgement kind_of
m9 = refl

-- abs(t(a[i])) > 2147483647
m10 : said (unscaled (relation more (abs (t 0 (pos 0))) (literal 0 2147483647))) 0 (0 ∷ []) (negsuc 2147483647 ∷ []) ≡ Some True
unfolding judgement_of body_judgement kind_of
m10 = refl
