-- What later lines leave: a known truth value, and the verdict of a settled instance. Assumes nothing.
use mathlib.Core.Path.{◌≡◌, refl, ap, ap₂, ◌∙◌, sym}
use mathlib.Core.Bool.{Bool, true, false, cond, not, ◌&&◌, ◌||◌, or-true}
use mathlib.Core.Logic.{inl, inr}
use mathlib.Core.List.Memᴰ
use mathlib.Core.List.{List, [], ◌∷◌, ◌++◌, Memᴰ}
use Prim.Native.Nat.{ℕ, ◌<◌}
use native.Mathlib.Omega.{arith}
use lib.IntN.{ℤ, pos}
use lib.ListN.{length, get_or, length-append, get_or-append}
use Rattle.rule.specs.Frames.{Relation}
use Rattle.rule.specs.Tree.{Reference, Sum, Cond, relation, connective, RuleTree, references_s, references_c, references}
use Rattle.rule.specs.Scale.{note_decimals}
use Rattle.numbers.proofs.Bools.{true-false}
use Rattle.verdict.specs.Found.{meant, Found, pending, by_lists, found_in, Given, given_in, is_missing, is_pending, is_present, some_of}
use Rattle.verdict.specs.Kleene.{truth, is_known}
use Rattle.verdict.specs.Value.{compared, value_s, value_c, value}
use Rattle.verdict.specs.Settled.{settled_by, verdict_of, settled, judgement}
use Rattle.verdict.specs.Later.{Gains, with_found, GainsIn, Sharpens, MoreLines}
use Rattle.verdict.specs.declared.Truth.{Truth}
use Rattle.verdict.specs.declared.Truth.TheVariants.{Unknown}
use Rattle.std.specs.Prelude.{Some, None}
use Rattle.verdict.proofs.Tables.{not_sharpens, connected_sharpens}
use Rattle.verdict.proofs.Resolve.{found-gains}
use Rattle.verdict.proofs.Own.{SameOn, cond-own, value-own, settled-own, none_so}

-- a reference that is not so, where pending is so, stays
stays-not : (is : Found → Bool) → is pending ≡ true → (a b : Found) → Gains a b → is a ≡ false → a ≡ b
stays-not is w a b (inl p) e = p
stays-not is w a b (inr p) e = absurd (true-false (sym w ∙ sym (ap is p) ∙ e))

or_mono : (a a' b b' : Bool) → (a ≡ true → a' ≡ true) → (b ≡ true → b' ≡ true) → (a || b) ≡ true → (a' || b') ≡ true
or_mono true a' b b' f h e = ap (λ (t : Bool). t || b') (f refl)
or_mono false a' b b' f h e = ap (λ (t : Bool). a' || t) (h e) ∙ or-true a'

module _ (g : Given) (found' : Reference → Found) where
  abbrev GainsOn : List Reference → Type 0
  GainsOn rs = (r : Reference) → Memᴰ r rs → Gains (g.found r) (found' r)

  none-same : (is : Found → Bool) → is pending ≡ true → (rs : List Reference) → GainsOn rs → some_of is g.found rs ≡ false → SameOn rs g.found found'
  none-same is w rs n e r m = stays-not is w (g.found r) (found' r) (n r m) (none_so is g.found rs e r m)

  module _ (k : ℕ) where
    relation_sharpens : (r : Relation) (a b : Sum) (t : Bool) → some_of is_missing g.found (references_s a ++ references_s b) ≡ t → GainsOn (references_s a ++ references_s b)
        → Sharpens (cond t Unknown (truth (compared r (value_s k g a) (value_s k g b)))) (value_c k (with_found g found') (relation r a b))
    relation_sharpens r a b true e n = inl refl
    relation_sharpens r a b false e n =
        inr
        (sym (ap (λ (t : Bool). cond t Unknown (truth (compared r (value_s k g a) (value_s k g b)))) e)
        ∙ cond-own k g found' (relation r a b) (none-same is_missing refl (references_s a ++ references_s b) n e))

    cond_sharpens : (t : Cond) → GainsOn (references_c t) → Sharpens (value_c k g t) (value_c k (with_found g found') t)
    cond_sharpens (relation r a b) n = relation_sharpens r a b (some_of is_missing g.found (references_s a ++ references_s b)) refl n
    cond_sharpens (Cond.not p) n = not_sharpens (value_c k g p) (value_c k (with_found g found') p) (cond_sharpens p n)
    cond_sharpens (connective j p q) n =
        connected_sharpens j (value_c k g p) (value_c k (with_found g found') p) (value_c k g q) (value_c k (with_found g found') q)
        (cond_sharpens p (λ r m. n r (Memᴰ.append_left (references_c q) m)))
        (cond_sharpens q (λ r m. n r (Memᴰ.append_right (references_c p) m)))

  -- monotone in what becomes present
  pub value_sharpens : (t : RuleTree) → GainsIn t g.found found' → Sharpens (value g t) (value (with_found g found') t)
  value_sharpens t n = cond_sharpens (note_decimals t.scale) t.condition n

  -- one that is present stays
  present-stays : (a b : Found) → Gains a b → is_present a ≡ true → is_present b ≡ true
  present-stays a b (inl p) e = sym (ap is_present p) ∙ e
  present-stays a b (inr p) e = absurd (true-false (sym e ∙ ap is_present p))

  some-present : (rs : List Reference) → GainsOn rs → some_of is_present g.found rs ≡ true → some_of is_present found' rs ≡ true
  some-present [] n e = e
  some-present (x ∷ rs) n e =
      or_mono (is_present (g.found x)) _ _ _ (present-stays (g.found x) (found' x) (n x (Memᴰ.head refl))) (some-present rs (λ r m. n r (Memᴰ.tail m))) e

  known_same : (v v' : Truth) → Sharpens v v' → is_known v ≡ true → v ≡ v'
  known_same v v' (inl p) e = absurd (true-false (sym e ∙ ap is_known p))
  known_same v v' (inr p) e = p

  module _ (t : RuleTree) (n : GainsIn t g.found found') where
    both_stay : (a b : Bool) → some_of is_pending g.found (references t) ≡ a → some_of is_present g.found (references t) ≡ b
        → settled_by a b (value g t) ≡ true → (settled (with_found g found') t ≡ true) × (value (with_found g found') t ≡ value g t)
    both_stay false b e d h =
        let same : SameOn (references t) g.found found' = none-same is_pending refl (references t) n e in
        let z : settled g t ≡ true = ap (λ (x : Bool). settled_by x (some_of is_present g.found (references t)) (value g t)) e in
        (sym (settled-own g found' t same) ∙ z, sym (value-own g found' t same))
    both_stay true true e d h =
        let v : value g t ≡ value (with_found g found') t = known_same (value g t) (value (with_found g found') t) (value_sharpens t n) h in
        let p : some_of is_present found' (references t) ≡ true = some-present (references t) n d in
        let k : is_known (value (with_found g found') t) ≡ true = sym (ap is_known v) ∙ h in
        (ap₂ (λ (x y : Bool). not (some_of is_pending found' (references t)) || (x && y)) p k ∙ or-true (not (some_of is_pending found' (references t))), sym v)
    both_stay true false e d h = absurd (true-false (sym h))

    pub settled-stays : settled g t ≡ true → (settled (with_found g found') t ≡ true) × (value (with_found g found') t ≡ value g t)
    settled-stays h = both_stay (some_of is_pending g.found (references t)) (some_of is_present g.found (references t)) refl refl h

    judged : (b : Bool) → settled g t ≡ b → (cond b (Some (verdict_of (value g t))) None ≡ None → ⊥)
        → judgement (with_found g found') t ≡ cond b (Some (verdict_of (value g t))) None
    judged true e h = let q = settled-stays e in ap₂ (λ (b : Bool) (v : Truth). cond b (Some (verdict_of v)) None) q.0 q.1
    judged false e h = absurd (h refl)

    pub judgement-stays : (judgement g t ≡ None → ⊥) → judgement (with_found g found') t ≡ judgement g t
    judgement-stays h = judged (settled g t) refl h

-- ---- lines
more_still : (a b more : List (List ℤ)) → a ++ more ≡ b → (n k : ℕ) → k < length a
    → (k < length b) × (get_or (get_or a k []) n (pos 0) ≡ get_or (get_or b k []) n (pos 0))
more_still a b more e n k h = (
  omega (arith, ap length e, length-append a more),
  ap (λ (l : List ℤ). get_or l n (pos 0)) (sym (get_or-append a more [] k h) ∙ ap (λ (l : List (List ℤ)). get_or l k []) e),
)

pub lines_gain : (lines lines' : ℕ → List (List ℤ)) → MoreLines lines lines' → (i : ℕ) (r : Reference) → Gains (found_in lines i r) (found_in lines' i r)
lines_gain lines lines' m i r =
    let q = m r.event in
    found-gains (by_lists lines) (by_lists lines') r.event r.note
    (more_still (lines r.event) (lines' r.event) q.0 q.1 r.note) (meant i r)

pub lines_stay : (i : ℕ) (lines lines' : ℕ → List (List ℤ)) (t : RuleTree) → MoreLines lines lines' → (judgement (given_in lines i) t ≡ None → ⊥)
    → judgement (given_in lines' i) t ≡ judgement (given_in lines i) t
lines_stay i lines lines' t m = judgement-stays (given_in lines i) (found_in lines' i) t (λ r w. lines_gain lines lines' m i r)
