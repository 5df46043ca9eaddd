-- The pass over frames holds the values of the trees that the frames build. Assumes nothing.
use mathlib.Core.Path.{◌≡◌, refl, sym, ap, ap₂, ◌∙◌, subst}
use mathlib.Core.Bool.{Bool, true, false, not, cond, ◌||◌, or-false, or_assoc, or_comm}
use mathlib.Core.Logic.{⊎_elim}
use mathlib.Core.List.{List, [], ◌∷◌, ◌++◌, map}
use Prim.Native.Nat.{ℕ, zero, suc, ◌≤◌, ◌<◌}
use native.Mathlib.Omega.{arith}
use lib.Dec.{T, eqb}
use lib.IntN.{ℤ, pos}
use lib.ListN.{length, get_or}
use Rattle.numbers.proofs.Bools.{true-false}
use Rattle.rule.specs.Frames.{Source, Arithmetic, Relation, Connective, Kind, kind_byte, kind_of, frame_at, frame_count, fields_of}
use Rattle.rule.specs.Tree.{Reference, Sum, arithmetic, abs, Cond, relation, connective, references_s, references_c}
use Rattle.rule.specs.Decimals.{Term, term}
use Rattle.rule.specs.References.{reference_byte, reference_of}
use Rattle.rule.specs.Order.{Prefix, viable, stuck, prefix_at, InOrder}
use Rattle.rule.specs.Build.{Trees, trees, top1, top2, leaf, built_by, built, trees_at, first_c}
use Rattle.rule.specs.Stack.{EnoughSums}
use Rattle.rule.specs.declared.Frame.{Frame}
use Rattle.rule.proofs.Laws.{byte-kind, Live, sums_of, live, one_left, found, literal-value}
use Rattle.verdict.specs.Found.{Found, present, pending, void, Given, is_present, is_pending, is_missing, some_of}
use Rattle.verdict.specs.Kleene.{not_k, connected, truth}
use Rattle.verdict.specs.Value.{computed, size_of, note_of, compared, value_s, value_c}
use Rattle.verdict.specs.Settled.{judged_by}
use Rattle.verdict.specs.Marks.{present_mark, pending_mark, Tells, TellAll}
use Rattle.verdict.specs.Pass.{relation_truth, operand_by, pass_by, pass_at, first_t, body_judgement}
use Rattle.verdict.specs.declared.Truth.{Truth}
use Rattle.verdict.specs.declared.evaluate.Pass.{Pass}
use Rattle.verdict.specs.declared.Truth.TheVariants.{Unknown}
use Rattle.verdict.proofs.Own.{or_left, or_right}
use Rattle.verdict.proofs.Built.{AsMany, as_many}

-- ---- what a mark says
tells_missing : (f : Found) (mark : ℕ) (note : ℤ) → Tells f mark note → not (eqb mark present_mark) ≡ is_missing f
tells_missing (present z) mark note t = rw t.0
tells_missing pending mark note t = rw t
tells_missing void mark note t = rw t

tells_pending : (f : Found) (mark : ℕ) (note : ℤ) → Tells f mark note → eqb mark pending_mark ≡ is_pending f
tells_pending (present z) mark note t = rw t.0
tells_pending pending mark note t = rw t
tells_pending void mark note t = rw t

tells_present : (f : Found) (mark : ℕ) (note : ℤ) → Tells f mark note → eqb mark present_mark ≡ is_present f
tells_present (present z) mark note t = rw t.0
tells_present pending mark note t = rw t
tells_present void mark note t = rw t

tells_note : (f : Found) (mark : ℕ) (note : ℤ) → Tells f mark note → is_missing f ≡ false → note ≡ note_of f
tells_note (present z) mark note t e = t.1
tells_note pending mark note t e = absurd (true-false e)
tells_note void mark note t e = absurd (true-false e)

-- ---- alternatives
or-last : (a b : Bool) → (a || b) ≡ ((b || false) || a)
or-last a b = or_comm a b ∙ ap (λ (t : Bool). t || a) (sym (or-false b))

or_into : (a b c : Bool) → ((a || b) || c) ≡ (a || ((c || false) || b))
or_into a b c = or_assoc a b c ∙ ap (λ (t : Bool). a || t) (or-last b c)

or-two : (a b c : Bool) → (b || (a || c)) ≡ ((a || b) || c)
or-two a b c = sym (or_assoc b a c) ∙ ap (λ (t : Bool). t || c) (or_comm b a)

or-move : (a b c : Bool) → (c || (b || (a || false))) ≡ (((a || b) || c) || false)
or-move a b c = or_comm c (b || (a || false)) ∙ ap (λ (t : Bool). t || c) (or-two a b false ∙ or-false (a || b)) ∙ sym (or-false ((a || b) || c))

some_append : (is : Found → Bool) (at : Reference → Found) (xs ys : List Reference) → some_of is at (xs ++ ys) ≡ (some_of is at xs || some_of is at ys)
some_append is at [] ys = refl
some_append is at (r ∷ xs) ys = ap (λ (t : Bool). is (at r) || t) (some_append is at xs ys) ∙ sym (or_assoc (is (at r)) (some_of is at xs) (some_of is at ys))

-- ---- lists of trees
module _ (is : Found → Bool) (at : Reference → Found) where
  abbrev some_s : List Sum → Bool
  some_s [] = false
  some_s (a ∷ ss) = some_of is at (references_s a) || some_s ss

  abbrev some_c : List Cond → Bool
  some_c [] = false
  some_c (t ∷ cs) = some_of is at (references_c t) || some_c cs

  some-arithmetic : (o : Arithmetic) (ss : List Sum) → some_s ss ≡ some_s (top2 (arithmetic o) ss)
  some-arithmetic o [] = refl
  some-arithmetic o (b ∷ []) = refl
  some-arithmetic o (b ∷ (a ∷ ss)) =
      or-two (some_of is at (references_s a)) (some_of is at (references_s b)) (some_s ss)
      ∙ ap (λ (t : Bool). t || some_s ss) (sym (some_append is at (references_s a) (references_s b)))

  some-abs : (ss : List Sum) → some_s ss ≡ some_s (top1 abs ss)
  some-abs [] = refl
  some-abs (a ∷ ss) = refl

  some-not : (cs : List Cond) → some_c cs ≡ some_c (top1 Cond.not cs)
  some-not [] = refl
  some-not (t ∷ cs) = refl

  some-connective : (j : Connective) (cs : List Cond) → some_c cs ≡ some_c (top2 (connective j) cs)
  some-connective j [] = refl
  some-connective j (q ∷ []) = refl
  some-connective j (q ∷ (p ∷ cs)) =
      or-two (some_of is at (references_c p)) (some_of is at (references_c q)) (some_c cs)
      ∙ ap (λ (t : Bool). t || some_c cs) (sym (some_append is at (references_c p) (references_c q)))

map-one : {A B : Type 0} (f : A → B) (g : A → A) (g' : B → B) → ((a : A) → g' (f a) ≡ f (g a)) → (l : List A) → top1 g' (map f l) ≡ map f (top1 g l)
map-one f g g' h [] = refl
map-one f g g' h (a ∷ l) = ap (λ (x : _). x ∷ map f l) (h a)

map-two : {A B : Type 0} (f : A → B) (g : A → A → A) (g' : B → B → B) → ((a b : A) → g' (f a) (f b) ≡ f (g a b)) → (l : List A) → top2 g' (map f l) ≡ map f (top2 g l)
map-two f g g' h [] = refl
map-two f g g' h (b ∷ []) = refl
map-two f g g' h (b ∷ (a ∷ l)) = ap (λ (x : _). x ∷ map f l) (h a b)

-- ---- the pass holds the values of the trees, of the sums only while no reference is missing
module _ (scale : ℕ) (g : Given) where
  record Holds (cs : List Cond) (ss : List Sum) (p : Pass) : Type 0 where
    missing : p.missing ≡ some_s is_missing g.found ss
    sums : p.missing ≡ false → p.sums ≡ map (value_s scale g) ss
    conds : p.conds ≡ map (value_c scale g) cs
    pending : p.pending ≡ (some_c is_pending g.found cs || some_s is_pending g.found ss)
    present : p.present ≡ (some_c is_present g.found cs || some_s is_present g.found ss)

  abbrev HoldsIn : Trees → Pass → Type 0
  HoldsIn (trees cs ss) p = Holds cs ss p

  related_away : (r : Relation) (vs : List (Term ℤ)) → relation_truth r true vs ≡ Unknown
  related_away r [] = refl
  related_away r (y ∷ []) = refl
  related_away r (y ∷ (x ∷ vs)) = refl

  related-by : (r : Relation) (a b : Sum) (m : Bool) (vs : List (Term ℤ)) → m ≡ some_of is_missing g.found (references_s a ++ references_s b)
      → (m ≡ false → vs ≡ value_s scale g b ∷ (value_s scale g a ∷ [])) → relation_truth r m vs ≡ value_c scale g (relation r a b)
  related-by r a b true vs e h = related_away r vs ∙ ap (λ (t : Bool). cond t Unknown (truth (compared r (value_s scale g a) (value_s scale g b)))) e
  related-by r a b false vs e h =
      ap (relation_truth r false) (h refl) ∙ ap (λ (t : Bool). cond t Unknown (truth (compared r (value_s scale g a) (value_s scale g b)))) e

  module _ (most : ℕ) (x : Frame) (mark : ℕ) (note : ℤ) (cs : List Cond) (p : Pass) where
    holds-operand : (s : Source) (ss : List Sum) → T (fields_of most (Kind.operand s) x) → (s ≡ Source.reference → Tells (g.found (reference_of x)) mark note)
        → Holds cs ss p → Holds cs (leaf s x ∷ ss) (operand_by scale s x g.instance mark note p)
    holds-operand Source.literal ss f t h =
        record {
          missing = h.missing;
          sums = λ e. ap₂ ◌∷◌ (ap (λ (z : ℤ). term z x.event) (literal-value most x f)) (h.sums e);
          conds = h.conds;
          pending = h.pending;
          present = h.present;
        }
    holds-operand Source.instance ss f t h =
        record { missing = h.missing; sums = λ e. ap (λ (vs : List (Term ℤ)). term (pos g.instance) 0 ∷ vs) (h.sums e); conds = h.conds; pending = h.pending; present = h.present }
    holds-operand Source.reference ss f t h =
        let q = g.found (reference_of x) in
        let w : Tells q mark note = t refl in
        let m : not (eqb mark present_mark) ≡ is_missing q = tells_missing q mark note w in
        record {
          missing = ap₂ ◌||◌ h.missing m ∙ or-last (some_s is_missing g.found ss) (is_missing q);
          sums = λ e. ap₂ ◌∷◌ (ap (λ (z : ℤ). term z scale) (tells_note q mark note w (sym m ∙ or_right p.missing (not (eqb mark present_mark)) e))) (h.sums (or_left p.missing (not (eqb mark present_mark)) e));
          conds = h.conds;
          pending = ap₂ ◌||◌ h.pending (tells_pending q mark note w) ∙ or_into (some_c is_pending g.found cs) (some_s is_pending g.found ss) (is_pending q);
          present = ap₂ ◌||◌ h.present (tells_present q mark note w) ∙ or_into (some_c is_present g.found cs) (some_s is_present g.found ss) (is_present q);
        }

    holds-relation : (r : Relation) (ss : List Sum) → length ss ≡ 2 → Holds cs ss p → HoldsIn (built_by (Kind.relation r) x cs ss) (pass_by scale (Kind.relation r) x g.instance mark note p)
    holds-relation r [] n h = absurd (omega arith)
    holds-relation r (b ∷ []) n h = absurd (omega arith)
    holds-relation r (b ∷ (a ∷ [])) n h =
        record {
          missing = refl;
          sums = λ e. refl;
          conds = ap₂ ◌∷◌
              (related-by r a b p.missing p.sums
              (h.missing ∙ or-two (some_of is_missing g.found (references_s a)) (some_of is_missing g.found (references_s b)) false ∙ or-false _ ∙ sym (some_append is_missing g.found (references_s a) (references_s b))) h.sums)
              h.conds;
          pending = h.pending ∙ moved is_pending;
          present = h.present ∙ moved is_present;
        }
      where
        moved : (is : Found → Bool) → (some_c is g.found cs || (some_of is g.found (references_s b) || (some_of is g.found (references_s a) || false)))
            ≡ ((some_of is g.found (references_s a ++ references_s b) || some_c is g.found cs) || false)
        moved is =
            or-move (some_of is g.found (references_s a)) (some_of is g.found (references_s b)) (some_c is g.found cs)
            ∙ ap (λ (t : Bool). (t || some_c is g.found cs) || false) (sym (some_append is g.found (references_s a) (references_s b)))
    holds-relation r (b ∷ (a ∷ (d ∷ ss))) n h = absurd (omega arith)

    holds_by : (o : Kind) (ss : List Sum) → T (fields_of most o x) → (o ≡ Kind.operand Source.reference → Tells (g.found (reference_of x)) mark note) → EnoughSums o (length ss)
        → Holds cs ss p → HoldsIn (built_by o x cs ss) (pass_by scale o x g.instance mark note p)
    holds_by (Kind.operand s) ss f t n h = holds-operand s ss f (λ e. t (ap Kind.operand e)) h
    holds_by (Kind.arithmetic o) ss f t n h =
        record {
          missing = h.missing ∙ some-arithmetic is_missing g.found o ss;
          sums = λ e. ap (top2 (computed o)) (h.sums e) ∙ map-two (value_s scale g) (arithmetic o) (computed o) (λ a b. refl) ss;
          conds = h.conds;
          pending = h.pending ∙ ap (λ (t : Bool). some_c is_pending g.found cs || t) (some-arithmetic is_pending g.found o ss);
          present = h.present ∙ ap (λ (t : Bool). some_c is_present g.found cs || t) (some-arithmetic is_present g.found o ss);
        }
    holds_by Kind.absolute ss f t n h =
        record {
          missing = h.missing ∙ some-abs is_missing g.found ss;
          sums = λ e. ap (top1 size_of) (h.sums e) ∙ map-one (value_s scale g) abs size_of (λ a. refl) ss;
          conds = h.conds;
          pending = h.pending ∙ ap (λ (t : Bool). some_c is_pending g.found cs || t) (some-abs is_pending g.found ss);
          present = h.present ∙ ap (λ (t : Bool). some_c is_present g.found cs || t) (some-abs is_present g.found ss);
        }
    holds_by (Kind.relation r) ss f t n h = holds-relation r ss n h
    holds_by Kind.negation ss f t n h =
        record {
          missing = h.missing;
          sums = h.sums;
          conds = ap (top1 not_k) h.conds ∙ map-one (value_c scale g) Cond.not not_k (λ a. refl) cs;
          pending = h.pending ∙ ap (λ (t : Bool). t || some_s is_pending g.found ss) (some-not is_pending g.found cs);
          present = h.present ∙ ap (λ (t : Bool). t || some_s is_present g.found ss) (some-not is_present g.found cs);
        }
    holds_by (Kind.connective j) ss f t n h =
        record {
          missing = h.missing;
          sums = h.sums;
          conds = ap (top2 (connected j)) h.conds ∙ map-two (value_c scale g) (connective j) (connected j) (λ a b. refl) cs;
          pending = h.pending ∙ ap (λ (t : Bool). t || some_s is_pending g.found ss) (some-connective is_pending g.found j cs);
          present = h.present ∙ ap (λ (t : Bool). t || some_s is_present g.found ss) (some-connective is_present g.found j cs);
        }
    holds_by Kind.none ss f t n h = absurd n

  -- at the end one condition is left, the rule
  alone : (a : Bool) → ((a || false) || false) ≡ a
  alone a = or-false (a || false) ∙ or-false a

  judged-last : (z : Trees) (p : Pass) → AsMany (viable 1 0) z → HoldsIn z p
      → judged_by p.pending p.present (first_t p.conds)
      ≡ judged_by (some_of is_pending g.found (references_c (first_c z))) (some_of is_present g.found (references_c (first_c z))) (value_c scale g (first_c z))
  judged-last (trees [] ss) p n h = absurd (omega (arith, n.0))
  judged-last (trees (t ∷ []) []) p n h =
      ap₂ (λ (a b : Bool). judged_by a b (first_t p.conds)) (h.pending ∙ alone (some_of is_pending g.found (references_c t))) (h.present ∙ alone (some_of is_present g.found (references_c t)))
      ∙ ap (λ (cs : List Truth). judged_by (some_of is_pending g.found (references_c t)) (some_of is_present g.found (references_c t)) (first_t cs)) h.conds
  judged-last (trees (t ∷ []) (a ∷ ss)) p n h = absurd (omega (arith, n.1))
  judged-last (trees (t ∷ (u ∷ cs)) ss) p n h = absurd (omega (arith, n.0))

-- ---- over the frames
-- a kind's byte has that kind, and no other
byte_of : (b : ℕ) → kind_of b ≡ Kind.operand Source.reference → b ≡ reference_byte
byte_of b e =
    ⊎_elim
    (λ (n : kind_of b ≡ Kind.none). absurd (let z : 3 ≡ 0 = ap kind_byte (sym e ∙ n) in omega arith))
    (λ (q : b ≡ kind_byte (kind_of b)). q ∙ ap kind_byte e)
    (byte-kind b)

sums-of : (p : Prefix) (cs : List Cond) (ss : List Sum) → Live p → AsMany p (trees cs ss) → sums_of p ≡ length ss
sums-of (viable c k) cs ss l h = sym h.1
sums-of (stuck q) cs ss l h = absurd l

module _ (most scale : ℕ) (s : List ℕ) (g : Given) (marks : List ℕ) (notes : List ℤ) (f : InOrder most s) (told : TellAll s g.found marks notes) where
  holds-next : (k : ℕ) → k < frame_count s → (z : Trees) → trees_at s k ≡ z → HoldsIn scale g z (pass_at scale s g.instance marks notes k)
      → HoldsIn scale g (trees_at s (suc k)) (pass_at scale s g.instance marks notes (suc k))
  holds-next k l (trees cs ss) e h =
      let x = frame_at s k in
      let q = found most s k l f in
      let n : sums_of (prefix_at most s k) ≡ length ss = sums-of (prefix_at most s k) cs ss (live most s k (omega arith) f) (subst (AsMany (prefix_at most s k)) e (as_many most s k)) in
      subst (λ (z : Trees). HoldsIn scale g (built x z) (pass_at scale s g.instance marks notes (suc k))) (sym e)
      (holds_by scale g most x (get_or marks k 0) (get_or notes k (pos 0)) cs (pass_at scale s g.instance marks notes k) (kind_of x.kind) ss q.fields
      (λ o. told k l (byte_of x.kind o)) (subst (EnoughSums (kind_of x.kind)) n q.sums) h)

  holds_at : (k : ℕ) → k ≤ frame_count s → HoldsIn scale g (trees_at s k) (pass_at scale s g.instance marks notes k)
  holds_at zero l = record { missing = refl; sums = λ e. refl; conds = refl; pending = refl; present = refl }
  holds_at (suc k) l = holds-next k l (trees_at s k) refl (holds_at k (omega arith))

  abbrev its : Cond
  its = first_c (trees_at s (frame_count s))

  pub judge_body : body_judgement scale s g.instance marks notes ≡ judged_by (some_of is_pending g.found (references_c its)) (some_of is_present g.found (references_c its)) (value_c scale g its)
  unfolding body_judgement
  judge_body =
      judged-last scale g (trees_at s (frame_count s)) (pass_at scale s g.instance marks notes (frame_count s))
      (subst (λ (p : _). AsMany p (trees_at s (frame_count s))) (one_left most s f) (as_many most s (frame_count s))) (holds_at (frame_count s) (omega arith))
