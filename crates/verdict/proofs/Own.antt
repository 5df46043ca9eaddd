-- A rule's value goes by its own references alone. Assumes nothing.
use mathlib.Core.Path.{◌≡◌, refl, ap, ap₂, ◌∙◌}
use mathlib.Core.Bool.{Bool, true, false, cond, ◌||◌}
use mathlib.Core.Logic.{⊎_elim}
use mathlib.Core.List.Memᴰ
use mathlib.Core.List.{List, [], ◌∷◌, ◌++◌, Memᴰ}
use Prim.Native.Nat.{ℕ}
use Rattle.rule.specs.Tree.{Reference, Sum, literal, instance, reference, arithmetic, abs, Cond, relation, connective, RuleTree, references_s, references_c, references}
use Rattle.rule.specs.Scale.{note_decimals}
use Rattle.rule.specs.Decimals.{term}
use Rattle.numbers.proofs.Bools.{true-false}
use Rattle.verdict.specs.Found.{Found, Given, is_missing, is_pending, is_present, some_of}
use Rattle.verdict.specs.Kleene.{not_k, connected, truth}
use Rattle.verdict.specs.Value.{computed, size_of, note_of, compared, value_s, value_c, value}
use Rattle.verdict.specs.Settled.{settled_by, verdict_of, settled, judgement}
use Rattle.verdict.specs.Later.{with_found}
use Rattle.verdict.specs.declared.Truth.{Truth}
use Rattle.verdict.specs.declared.Truth.TheVariants.{Unknown}
use Rattle.std.specs.Prelude.{Some, None}

-- both say the same of each of the references
abbrev pub SameOn : List Reference → (Reference → Found) → (Reference → Found) → Type 0
SameOn rs found found' = (r : Reference) → Memᴰ r rs → found r ≡ found' r

module _ (found found' : Reference → Found) where
  pub same_left : (ps qs : List Reference) → SameOn (ps ++ qs) found found' → SameOn ps found found'
  same_left ps qs h r m = h r (Memᴰ.append_left qs m)

  pub same-right : (ps qs : List Reference) → SameOn (ps ++ qs) found found' → SameOn qs found found'
  same-right ps qs h r m = h r (Memᴰ.append_right ps m)

  pub some-own : (is : Found → Bool) (rs : List Reference) → SameOn rs found found' → some_of is found rs ≡ some_of is found' rs
  some-own is [] h = refl
  some-own is (r ∷ rs) h = ap₂ ◌||◌ (ap is (h r (Memᴰ.head refl))) (some-own is rs (λ x m. h x (Memᴰ.tail m)))

module _ (k : ℕ) (g : Given) (found : Reference → Found) where
  pub sum-own : (a : Sum) → SameOn (references_s a) g.found found → value_s k g a ≡ value_s k (with_found g found) a
  sum-own (literal d n) h = refl
  sum-own instance h = refl
  sum-own (reference r) h = ap (λ (f : Found). term (note_of f) k) (h r (Memᴰ.head refl))
  sum-own (arithmetic o a b) h =
      ap₂ (computed o) (sum-own a (same_left g.found found (references_s a) (references_s b) h)) (sum-own b (same-right g.found found (references_s a) (references_s b) h))
  sum-own (abs a) h = ap size_of (sum-own a h)

  pub cond-own : (t : Cond) → SameOn (references_c t) g.found found → value_c k g t ≡ value_c k (with_found g found) t
  cond-own (relation r a b) h =
      ap₂ (λ (t : Bool) (u : Bool). cond t Unknown (truth u)) (some-own g.found found is_missing (references_s a ++ references_s b) h)
      (ap₂ (compared r) (sum-own a (same_left g.found found (references_s a) (references_s b) h)) (sum-own b (same-right g.found found (references_s a) (references_s b) h)))
  cond-own (Cond.not p) h = ap not_k (cond-own p h)
  cond-own (connective j p q) h =
      ap₂ (connected j) (cond-own p (same_left g.found found (references_c p) (references_c q) h)) (cond-own q (same-right g.found found (references_c p) (references_c q) h))

module _ (g : Given) (found : Reference → Found) where
  pub value-own : (t : RuleTree) → SameOn (references t) g.found found → value g t ≡ value (with_found g found) t
  value-own t h = cond-own (note_decimals t.scale) g found t.condition h

  pub settled-own : (t : RuleTree) → SameOn (references t) g.found found → settled g t ≡ settled (with_found g found) t
  settled-own t h =
      ap₂ (λ (a b : Bool). settled_by a b (value g t)) (some-own g.found found is_pending (references t) h) (some-own g.found found is_present (references t) h)
      ∙ ap (settled_by (some_of is_pending found (references t)) (some_of is_present found (references t))) (value-own t h)

  pub judgement-own : (t : RuleTree) → SameOn (references t) g.found found → judgement g t ≡ judgement (with_found g found) t
  judgement-own t h =
      ap₂ (λ (b : Bool) (v : Truth). cond b (Some (verdict_of v)) None) (settled-own t h) (value-own t h)

-- where none is so, each is not
pub or_left : (a b : Bool) → (a || b) ≡ false → a ≡ false
or_left true b e = e
or_left false b e = refl

pub or_right : (a b : Bool) → (a || b) ≡ false → b ≡ false
or_right true b e = absurd (true-false e)
or_right false b e = e

pub none_so : (is : Found → Bool) (found : Reference → Found) (rs : List Reference) → some_of is found rs ≡ false → (r : Reference) → Memᴰ r rs → is (found r) ≡ false
none_so is found [] e r m = elim m [ ]
none_so is found (x ∷ rs) e r m =
    ⊎_elim
    (λ (q : r ≡ x). ap (λ (y : Reference). is (found y)) q ∙ or_left (is (found x)) (some_of is found rs) e)
    (λ (n : Memᴰ r rs). none_so is found rs (or_right (is (found x)) (some_of is found rs) e) r n)
    (Memᴰ.cases_cons m)
