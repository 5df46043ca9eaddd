-- Frames that refusal 10's pass takes are a tree in postfix_c order, and the tree is one. Assumes nothing.
use mathlib.Core.Path.{◌≡◌, refl, sym, ap, ◌∙◌, subst}
use mathlib.Core.Logic.{◌⊎◌, inl, inr}
use mathlib.Core.Bool.{Bool, true, false, ◌&&◌, cond}
use mathlib.Core.Option.{Option, none, some}
use mathlib.Core.List.{List, [], ◌∷◌, ◌++◌, append_assoc, append-nil}
use Prim.Native.Nat.{ℕ, suc, ◌+◌, ◌-◌, ◌≤◌}
use native.Mathlib.Omega.{arith}
use lib.Dec.{T, leb, ltb, eqb, leb→le, eqb→eq, ltb→lt}
use lib.IntN.{ℤ, pos, negsuc, nat_abs}
use lib.ListN.{length, take}
use lib.Signed.{le_z}
use mir.Syntax.{w32}
use mir.Val.{SFits}
use Rattle.std.specs.Prelude.{Option as Maybe, Some, None}
use Rattle.std.specs.Prelude.{Ok}
use Rattle.numbers.proofs.Bools.{and_l, and_r, T_true}
use Rattle.numbers.proofs.Ints.{nat_abs_zero, not_negative}
use Rattle.rule.specs.Limits.{event_limit, note_limit, factor_limit, offset_limit, literal_limit}
use Rattle.rule.specs.Frames.{Source, Arithmetic, Relation, Connective, Kind, kind_byte, kind_of, sum_of, cond_of, relates, frame, bare, frame_at, frame_count, unused, literal_fields, reference_fields, bare_fields}
use Rattle.rule.specs.Tree.{Sum, literal, instance, reference, arithmetic, abs, Cond, relation, not, connective, LimitsR, LimitsS, RuleTree, LimitsC, postfix_s, postfix_c, postfix}
use Rattle.rule.specs.Scale.{literal_decimals, head_of}
use Rattle.rule.specs.References.{reference_count, reference_of}
use Rattle.rule.specs.Order.{good, stepped, step_in, frame_step, Prefix, viable, stuck, order_at, order_next, prefix_at, ended, order_of, InOrder}
use Rattle.rule.specs.Build.{Trees, trees, top1, top2, related, built_by, built, trees_at, first_c, tree_of}
use Rattle.rule.specs.declared.Frame.{Frame}
use Rattle.rule.specs.declared.order.Shape.{Shape}
use Rattle.rule.proofs.FrameKinds.{kind-byte, byte-kind}
use Rattle.rule.proofs.FrameOrder.{one_left}
use Rattle.rule.proofs.FrameLists.{frames_of, runs, runs_append, runs_to, runs-all, pass1, pass2, Octets, AllOctets}

-- ---- refusal 10's pass over a list of frames, by the scale
abbrev pub ordered : Option ℕ → Frame → Maybe Shape → Maybe Shape
ordered z x (Some h) = frame_step (literal_decimals z) x h.conditions h.sums
ordered z x None = None

abbrev pub shape_of : Prefix → Maybe Shape
shape_of (viable c k) = good c k
shape_of (stuck p) = None

shape-order-at : (i : ℕ) (h : Maybe Shape) → shape_of (order_at i h) ≡ h
shape-order-at i (Some h) = refl
shape-order-at i None = refl

bad-good : {c k : ℕ} → None ≡ good c k → ⊥
bad-good e = let z : ◌≡◌ {A = ℕ} 0 1 = cc in omega arith

-- the counts of good ones
abbrev good_conds : Maybe Shape → ℕ
good_conds (Some h) = h.conditions
good_conds None = 0

abbrev good_sums : Maybe Shape → ℕ
good_sums (Some h) = h.sums
good_sums None = 0

good_parts : (a b c d : ℕ) → good a b ≡ good c d → (a ≡ c) × (b ≡ d)
good_parts a b c d e = (ap good_conds e, ap good_sums e)

end-fine : (n m : ℕ) (p : Prefix) → shape_of p ≡ good 1 0 → ended n m p ≡ Ok m
end-fine n m (viable c k) e = let p = good_parts c k 1 0 e in rw (p.0, p.1)
end-fine n m (stuck q) e = absurd (bad-good e)

-- ---- a tree's frames build the tree, on any stacks
built-bare : (k : Kind) (cs : List Cond) (ss : List Sum) → built (bare k) (trees cs ss) ≡ built_by k (bare k) cs ss
built-bare k cs ss = ap (λ (o : Kind). built_by o (bare k) cs ss) (kind-byte k)

build_s : (t : Sum) (cs : List Cond) (ss : List Sum) → runs built (postfix_s t) (trees cs ss) ≡ trees cs (t ∷ ss)
unfolding kind_of
build_s (literal d n) cs ss = refl
build_s instance cs ss = refl
build_s (reference r) cs ss = refl
build_s (arithmetic o a b) cs ss =
    pass2 built (postfix_s a) (postfix_s b) (bare (Kind.arithmetic o)) _ _ _ (build_s a cs ss) (build_s b cs (a ∷ ss))
    ∙ built-bare (Kind.arithmetic o) cs (b ∷ (a ∷ ss))
build_s (abs a) cs ss = pass1 built (postfix_s a) (bare Kind.absolute) _ _ (build_s a cs ss) ∙ built-bare Kind.absolute cs (a ∷ ss)

build : (t : Cond) (cs : List Cond) (ss : List Sum) → runs built (postfix_c t) (trees cs ss) ≡ trees (t ∷ cs) ss
build (relation r a b) cs ss =
    pass2 built (postfix_s a) (postfix_s b) (bare (Kind.relation r)) _ _ _ (build_s a cs ss) (build_s b cs (a ∷ ss))
    ∙ built-bare (Kind.relation r) cs (b ∷ (a ∷ ss))
build (not p) cs ss = pass1 built (postfix_c p) (bare Kind.negation) _ _ (build p cs ss) ∙ built-bare Kind.negation (p ∷ cs) ss
build (connective j p q) cs ss =
    pass2 built (postfix_c p) (postfix_c q) (bare (Kind.connective j)) _ _ _ (build p cs ss) (build q (p ∷ cs) ss)
    ∙ built-bare (Kind.connective j) (q ∷ (p ∷ cs)) ss

-- so the tree is one
pub unique : (t u : Cond) → postfix_c t ≡ postfix_c u → t ≡ u
unique t u e =
    let z : trees (t ∷ []) [] ≡ trees (u ∷ []) [] = sym (build t [] []) ∙ ap (λ (x : List Frame). runs built x (trees [] [])) e ∙ build u [] [] in
    cc

-- whatever frames stand before it
after : (xs : List Frame) (t : Cond) (z : Trees) → runs built xs (trees [] []) ≡ z → (cs : List Cond) × ((ss : List Sum) × (runs built (xs ++ postfix_c t) (trees [] []) ≡ trees (t ∷ cs) ss))
after xs t (trees cs ss) e = (cs, (ss, runs_append built xs (postfix_c t) (trees [] []) ∙ ap (runs built (postfix_c t)) e ∙ build t cs ss))

pub suffix_unique : (xs ys : List Frame) (t u : Cond) → xs ++ postfix_c t ≡ ys ++ postfix_c u → t ≡ u
suffix_unique xs ys t u e =
    let p = after xs t (runs built xs (trees [] [])) refl in
    let q = after ys u (runs built ys (trees [] [])) refl in
    let z : trees (t ∷ p.0) p.1.0 ≡ trees (u ∷ q.0) q.1.0 = sym p.1.1 ∙ ap (λ (x : List Frame). runs built x (trees [] [])) e ∙ q.1.1 in
    cc

-- the head builds nothing
build-rule : (t : RuleTree) → runs built (postfix t) (trees [] []) ≡ trees (t.condition ∷ []) []
unfolding kind_of
build-rule t = go t.scale
  where
    go : (z : Option ℕ) → runs built (head_of z ++ postfix_c t.condition) (trees [] []) ≡ trees (t.condition ∷ []) []
    go none = build t.condition [] []
    go (some k) = build t.condition [] []

-- the condition of frames that are a rule's
pub tree_in : (s : List ℕ) (t : RuleTree) → frames_of s ≡ postfix t → (tree_of s).condition ≡ t.condition
unfolding tree_of
tree_in s t e = ap first_c (runs-all built s (trees_at s) (λ i. refl) ∙ ap (λ (x : List Frame). runs built x (trees [] [])) e ∙ build-rule t)

-- ---- stacks of trees, the top first
abbrev flat_s : List Sum → List Frame
flat_s [] = []
flat_s (a ∷ ss) = flat_s ss ++ postfix_s a

abbrev flat_c : List Cond → List Frame
flat_c [] = []
flat_c (p ∷ cs) = flat_c cs ++ postfix_c p

-- a test passed
passed : (t : Bool) (h : Maybe Shape) {c k : ℕ} → cond t h None ≡ good c k → T t × (h ≡ good c k)
passed true h e = (tt, e)
passed false h e = absurd (bad-good e)

reg1 : (f r a x : List Frame) → (f ++ (r ++ a)) ++ x ≡ f ++ (r ++ (a ++ x))
reg1 f r a x = simp append_assoc

reg2 : (f r a b x : List Frame) → (f ++ ((r ++ a) ++ b)) ++ x ≡ f ++ (r ++ ((a ++ b) ++ x))
reg2 f r a b x = simp append_assoc

reg_not : (f p x : List Frame) → ((f ++ p) ++ []) ++ x ≡ (f ++ (p ++ x)) ++ []
reg_not f p x = rw (append-nil (f ++ p), append-nil (f ++ (p ++ x))) (append_assoc f p x)

reg_join : (f p q x : List Frame) → (((f ++ p) ++ q) ++ []) ++ x ≡ (f ++ ((p ++ q) ++ x)) ++ []
reg_join f p q x = rw (append-nil ((f ++ p) ++ q), append-nil (f ++ ((p ++ q) ++ x))) (simp append_assoc)

reg_rel : (f a b x : List Frame) → (f ++ (a ++ b)) ++ x ≡ (f ++ ((a ++ b) ++ x)) ++ []
reg_rel f a b x = rw (append-nil (f ++ ((a ++ b) ++ x))) (append_assoc f (a ++ b) x)

-- ---- what a frame's fields say of it
pub frame_is : {k l e f n m g h : ℕ} {v w : ℤ} → k ≡ l → e ≡ f → n ≡ m → g ≡ h → v ≡ w → frame k e n g v ≡ frame l f m h w
frame_is p q r t u = cc

module _ (x : Frame) (t : T (unused x)) where
  no_event : x.event ≡ 0
  no_event = eqb→eq x.event 0 (and_l (eqb x.event 0) (eqb x.note 0) (and_l (eqb x.event 0 && eqb x.note 0) (eqb x.factor 0) t))

  no_note : x.note ≡ 0
  no_note = eqb→eq x.note 0 (and_r (eqb x.event 0) (eqb x.note 0) (and_l (eqb x.event 0 && eqb x.note 0) (eqb x.factor 0) t))

  no_factor : x.factor ≡ 0
  no_factor = eqb→eq x.factor 0 (and_r (eqb x.event 0 && eqb x.note 0) (eqb x.factor 0) t)

is-bare : (o : Kind) (x : Frame) → x.kind ≡ kind_byte o → T (bare_fields x) → bare o ≡ x
is-bare o x e t =
    let u = and_l (unused x) (eqb (nat_abs x.value) 0) t in
    let v : x.value ≡ pos 0 = nat_abs_zero x.value (eqb→eq (nat_abs x.value) 0 (and_r (unused x) (eqb (nat_abs x.value) 0) t)) in
    frame_is (sym e) (sym (no_event x u)) (sym (no_note x u)) (sym (no_factor x u)) (sym v)

literal-limit : (z : ℤ) → SFits w32 z → z ≡ pos (nat_abs z) → nat_abs z ≤ literal_limit
literal-limit (pos n) f e = omega (arith, f.sfits)
literal-limit (negsuc n) f e = absurd (let h : ◌≡◌ {A = ℕ} 0 1 = cc in omega arith)

pub reference-limits : (x : Frame) → T (reference_fields x) → LimitsR (reference_of x)
reference-limits x t =
    let a : Bool = ltb x.event event_limit && ltb x.note note_limit in
    let b : Bool = leb 1 x.factor && leb x.factor factor_limit in
    let d : T (a && b) = and_l (a && b) (leb (nat_abs x.value) offset_limit) t in
    let e : T a = and_l a b d in
    let f : T b = and_r a b d in
    record {
      event = ltb→lt x.event event_limit (and_l (ltb x.event event_limit) (ltb x.note note_limit) e);
      note = ltb→lt x.note note_limit (and_r (ltb x.event event_limit) (ltb x.note note_limit) e);
      least = leb→le 1 x.factor (and_l (leb 1 x.factor) (leb x.factor factor_limit) f);
      factor = leb→le x.factor factor_limit (and_r (leb 1 x.factor) (leb x.factor factor_limit) f);
      offset = leb→le (nat_abs x.value) offset_limit (and_r (a && b) (leb (nat_abs x.value) offset_limit) t);
    }

-- a literal's decimals, its other bytes 0 and its value
module _ (most : ℕ) (x : Frame) (t : T (literal_fields most x)) where
  abbrev others : Bool
  others = eqb x.note 0 && eqb x.factor 0

  fields_in : T (leb x.event most && others)
  fields_in = and_l (leb x.event most && others) (le_z (pos 0) x.value) t

  others_in : T others
  others_in = and_r (leb x.event most) others fields_in

  pub literal-decimals : x.event ≤ most
  literal-decimals = leb→le x.event most (and_l (leb x.event most) others fields_in)

  pub literal-value : x.value ≡ pos (nat_abs x.value)
  literal-value = not_negative x.value (T_true (le_z (pos 0) x.value) (and_r (leb x.event most && others) (le_z (pos 0) x.value) t))

  is-literal : x.kind ≡ kind_byte (Kind.operand Source.literal) → x ≡ frame (kind_byte (Kind.operand Source.literal)) x.event 0 0 (pos (nat_abs x.value))
  is-literal e =
      frame_is e refl (eqb→eq x.note 0 (and_l (eqb x.note 0) (eqb x.factor 0) others_in)) (eqb→eq x.factor 0 (and_r (eqb x.note 0) (eqb x.factor 0) others_in)) literal-value

-- ---- a body: the frames of a condition within the limits
pub record BodyRule (z : Option ℕ) (fs : List Frame) : Type 0 where
  pub tree : Cond
  pub limits : LimitsC z tree
  pub frames : fs ≡ postfix_c tree

module _ (z : Option ℕ) where
  shape-next : (i : ℕ) (x : Frame) (p : Prefix) → shape_of (order_next (literal_decimals z) i x p) ≡ (ordered z) x (shape_of p)
  shape-next i x (viable c k) = shape-order-at i (frame_step (literal_decimals z) x c k)
  shape-next i x (stuck p) = refl

  pub order-to : (s : List ℕ) (i : ℕ) → i ≤ length (frames_of s) → shape_of (prefix_at (literal_decimals z) s i) ≡ runs (ordered z) (take i (frames_of s)) (good 0 0)
  order-to s i h = runs_to (ordered z) s (λ j. shape_of (prefix_at (literal_decimals z) s j)) (λ j. shape-next j (frame_at s j) (prefix_at (literal_decimals z) s j)) i h

  pub order-all : (s : List ℕ) → shape_of (prefix_at (literal_decimals z) s (frame_count s)) ≡ runs (ordered z) (frames_of s) (good 0 0)
  order-all s = runs-all (ordered z) s (λ j. shape_of (prefix_at (literal_decimals z) s j)) (λ j. shape-next j (frame_at s j) (prefix_at (literal_decimals z) s j))

  pub fine-runs : (s : List ℕ) → InOrder (literal_decimals z) s → runs (ordered z) (frames_of s) (good 0 0) ≡ good 1 0
  fine-runs s f = sym (order-all s) ∙ ap shape_of (one_left (literal_decimals z) s f)

  pub runs-fine : (s : List ℕ) → runs (ordered z) (frames_of s) (good 0 0) ≡ good 1 0 → InOrder (literal_decimals z) s
  unfolding order_of
  runs-fine s e = end-fine (frame_count s) (reference_count s) (prefix_at (literal_decimals z) s (frame_count s)) (order-all s ∙ e)

  abbrev AllS : List Sum → Type 0
  AllS [] = Unit {0}
  AllS (a ∷ ss) = LimitsS z a × AllS ss

  abbrev AllC : List Cond → Type 0
  AllC [] = Unit {0}
  AllC (p ∷ cs) = LimitsC z p × AllC cs

  -- ---- what the frames so far are
  record Held (pre : List Frame) (c k : ℕ) (cs : List Cond) (ss : List Sum) : Type 0 where
    conds : length cs ≡ c
    sums : length ss ≡ k
    all_c : AllC cs
    all_s : AllS ss
    are : pre ≡ flat_c cs ++ flat_s ss

  abbrev HeldT : List Frame → ℕ → ℕ → Trees → Type 0
  HeldT pre c k (trees cs ss) = Held pre c k cs ss

  -- one frame more, by what it does
  module _ (pre : List Frame) (c k : ℕ) (x : Frame) (c' k' : ℕ) where
    -- what a good step took and left
    took : (n : ℕ) → stepped (sum_of n) c k ≡ good c' k' → (n ≤ k) × (c ≡ c') × (k - n + 1 ≡ k')
    took n g = let d = passed (leb n k) _ g in let e = good_parts c (k - n + 1) c' k' d.1 in (leb→le n k d.0, e.0, e.1)

    took_c : (n : ℕ) → stepped (cond_of n) c k ≡ good c' k' → (n ≤ c) × (k ≡ 0) × (c - n + 1 ≡ c') × (0 ≡ k')
    took_c n g =
        let d = passed (leb n c && eqb k 0) _ g in
        let e = good_parts (c - n + 1) 0 c' k' d.1 in
        (leb→le n c (and_l (leb n c) (eqb k 0) d.0), eqb→eq k 0 (and_r (leb n c) (eqb k 0) d.0), e.0, e.1)

    took-two : stepped relates c k ≡ good c' k' → (k ≡ 2) × (c + 1 ≡ c') × (0 ≡ k')
    took-two g = let d = passed (eqb k 2) _ g in let e = good_parts (c + 1) 0 c' k' d.1 in (eqb→eq k 2 d.0, e.0, e.1)

    leaf-step : (cs : List Cond) (ss : List Sum) → Held pre c k cs ss → (t : Sum) → x ∷ [] ≡ postfix_s t → LimitsS z t → stepped (sum_of 0) c k ≡ good c' k' → Held (pre ++ (x ∷ [])) c' k' cs (t ∷ ss)
    leaf-step cs ss h t e l g =
        let d = took 0 g in
        record {
          conds = h.conds ∙ d.1;
          sums = omega (arith, h.sums, d.2);
          all_c = h.all_c;
          all_s = (l, h.all_s);
          are = ap (λ (y : List Frame). y ++ (x ∷ [])) h.are ∙ append_assoc (flat_c cs) (flat_s ss) (x ∷ []) ∙ ap (λ (y : List Frame). flat_c cs ++ (flat_s ss ++ y)) e;
        }

    arithmetic-step : (o : Arithmetic) → bare (Kind.arithmetic o) ≡ x → (cs : List Cond) (ss : List Sum) → Held pre c k cs ss → stepped (sum_of 2) c k ≡ good c' k' → Held (pre ++ (x ∷ [])) c' k' cs (top2 (arithmetic o) ss)
    arithmetic-step o e cs [] h g = absurd (omega (arith, h.sums, (took 2 g).0))
    arithmetic-step o e cs (b ∷ []) h g = absurd (omega (arith, h.sums, (took 2 g).0))
    arithmetic-step o e cs (b ∷ (a ∷ ss)) h g =
        let d = took 2 g in
        record {
          conds = h.conds ∙ d.1;
          sums = omega (arith, h.sums, d.2);
          all_c = h.all_c;
          all_s = ((h.all_s.1.0, h.all_s.0), h.all_s.1.1);
          are = rw (← e) (ap (λ (y : List Frame). y ++ (bare (Kind.arithmetic o) ∷ [])) h.are ∙ reg2 (flat_c cs) (flat_s ss) (postfix_s a) (postfix_s b) (bare (Kind.arithmetic o) ∷ []));
        }

    absolute-step : bare Kind.absolute ≡ x → (cs : List Cond) (ss : List Sum) → Held pre c k cs ss → stepped (sum_of 1) c k ≡ good c' k' → Held (pre ++ (x ∷ [])) c' k' cs (top1 abs ss)
    absolute-step e cs [] h g = absurd (omega (arith, h.sums, (took 1 g).0))
    absolute-step e cs (a ∷ ss) h g =
        let d = took 1 g in
        record {
          conds = h.conds ∙ d.1;
          sums = omega (arith, h.sums, d.2);
          all_c = h.all_c;
          all_s = h.all_s;
          are = rw (← e) (ap (λ (y : List Frame). y ++ (bare Kind.absolute ∷ [])) h.are ∙ reg1 (flat_c cs) (flat_s ss) (postfix_s a) (bare Kind.absolute ∷ []));
        }

    relation-step : (r : Relation) → bare (Kind.relation r) ≡ x → (cs : List Cond) (ss : List Sum) → Held pre c k cs ss → stepped relates c k ≡ good c' k' → HeldT (pre ++ (x ∷ [])) c' k' (related r cs ss)
    relation-step r e cs [] h g = absurd (omega (arith, h.sums, (took-two g).0))
    relation-step r e cs (b ∷ []) h g = absurd (omega (arith, h.sums, (took-two g).0))
    relation-step r e cs (b ∷ (a ∷ [])) h g =
        let d = took-two g in
        record {
          conds = omega (arith, h.conds, d.1);
          sums = d.2;
          all_c = ((h.all_s.1.0, h.all_s.0), h.all_c);
          all_s = tt;
          are = rw (← e) (ap (λ (y : List Frame). y ++ (bare (Kind.relation r) ∷ [])) h.are ∙ reg_rel (flat_c cs) (postfix_s a) (postfix_s b) (bare (Kind.relation r) ∷ []));
        }
    relation-step r e cs (b ∷ (a ∷ (y ∷ ss))) h g = absurd (omega (arith, h.sums, (took-two g).0))

    negation-step : bare Kind.negation ≡ x → (cs : List Cond) (ss : List Sum) → Held pre c k cs ss → stepped (cond_of 1) c k ≡ good c' k' → Held (pre ++ (x ∷ [])) c' k' (top1 not cs) ss
    negation-step e [] ss h g = absurd (omega (arith, h.conds, (took_c 1 g).0))
    negation-step e (p ∷ cs) (b ∷ ss) h g = absurd (omega (arith, h.sums, (took_c 1 g).1))
    negation-step e (p ∷ cs) [] h g =
        let d = took_c 1 g in
        record {
          conds = omega (arith, h.conds, d.2);
          sums = d.3;
          all_c = h.all_c;
          all_s = tt;
          are = rw (← e) (ap (λ (y : List Frame). y ++ (bare Kind.negation ∷ [])) h.are ∙ reg_not (flat_c cs) (postfix_c p) (bare Kind.negation ∷ []));
        }

    connective-step : (j : Connective) → bare (Kind.connective j) ≡ x → (cs : List Cond) (ss : List Sum) → Held pre c k cs ss → stepped (cond_of 2) c k ≡ good c' k' → Held (pre ++ (x ∷ [])) c' k' (top2 (connective j) cs) ss
    connective-step j e [] ss h g = absurd (omega (arith, h.conds, (took_c 2 g).0))
    connective-step j e (q ∷ []) ss h g = absurd (omega (arith, h.conds, (took_c 2 g).0))
    connective-step j e (q ∷ (p ∷ cs)) (b ∷ ss) h g = absurd (omega (arith, h.sums, (took_c 2 g).1))
    connective-step j e (q ∷ (p ∷ cs)) [] h g =
        let d = took_c 2 g in
        record {
          conds = omega (arith, h.conds, d.2);
          sums = d.3;
          all_c = ((h.all_c.1.0, h.all_c.0), h.all_c.1.1);
          all_s = tt;
          are = rw (← e) (ap (λ (y : List Frame). y ++ (bare (Kind.connective j) ∷ [])) h.are ∙ reg_join (flat_c cs) (postfix_c p) (postfix_c q) (bare (Kind.connective j) ∷ []));
        }

  -- ---- one frame more, by its kind
  module _ (x : Frame) (ok : Octets x) (pre : List Frame) (c k : ℕ) (cs : List Cond) (ss : List Sum) (h : Held pre c k cs ss) (c' k' : ℕ) where
    step : (o : Kind) → x.kind ≡ kind_byte o → step_in (literal_decimals z) o x c k ≡ good c' k' → HeldT (pre ++ (x ∷ [])) c' k' (built_by o x cs ss)
    step (Kind.operand Source.literal) e g =
        let u = passed (literal_fields (literal_decimals z) x) _ g in
        leaf-step pre c k x c' k' cs ss h (literal x.event (nat_abs x.value)) (ap (λ (y : Frame). y ∷ []) (is-literal (literal_decimals z) x u.0 e))
        (literal-decimals (literal_decimals z) x u.0, literal-limit x.value ok.value (literal-value (literal_decimals z) x u.0)) u.1
    step (Kind.operand Source.instance) e g =
        let u = passed (bare_fields x) _ g in
        leaf-step pre c k x c' k' cs ss h instance (ap (λ (y : Frame). y ∷ []) (sym (is-bare (Kind.operand Source.instance) x e u.0))) tt u.1
    step (Kind.operand Source.reference) e g =
        let u = passed (reference_fields x) _ g in
        leaf-step pre c k x c' k' cs ss h (reference (reference_of x)) (ap (λ (y : Frame). y ∷ []) (frame_is e refl refl refl refl)) (reference-limits x u.0) u.1
    step (Kind.arithmetic o) e g =
        let u = passed (bare_fields x) _ g in
        arithmetic-step pre c k x c' k' o (is-bare (Kind.arithmetic o) x e u.0) cs ss h u.1
    step Kind.absolute e g =
        let u = passed (bare_fields x) _ g in
        absolute-step pre c k x c' k' (is-bare Kind.absolute x e u.0) cs ss h u.1
    step (Kind.relation r) e g =
        let u = passed (bare_fields x) _ g in
        relation-step pre c k x c' k' r (is-bare (Kind.relation r) x e u.0) cs ss h u.1
    step Kind.negation e g =
        let u = passed (bare_fields x) _ g in
        negation-step pre c k x c' k' (is-bare Kind.negation x e u.0) cs ss h u.1
    step (Kind.connective j) e g =
        let u = passed (bare_fields x) _ g in
        connective-step pre c k x c' k' j (is-bare (Kind.connective j) x e u.0) cs ss h u.1
    step Kind.none e g = absurd (bad-good (passed (bare_fields x) None g).1)

    step_by_lem : (kind_of x.kind ≡ Kind.none) ⊎ (x.kind ≡ kind_byte (kind_of x.kind)) → frame_step (literal_decimals z) x c k ≡ good c' k' → HeldT (pre ++ (x ∷ [])) c' k' (built x (trees cs ss))
    step_by_lem (inl e) g =
        absurd (bad-good (passed (bare_fields x) None (sym (ap (λ (o : Kind). step_in (literal_decimals z) o x c k) e) ∙ g)).1)
    step_by_lem (inr e) g = step (kind_of x.kind) e g

  pub bad-stays : (fs : List Frame) → runs (ordered z) fs None ≡ None
  bad-stays [] = refl
  bad-stays (x ∷ fs) = bad-stays fs

  first_good : (fs : List Frame) (y : Maybe Shape) (c k : ℕ) → runs (ordered z) fs y ≡ good c k → (d : ℕ) × ((j : ℕ) × (y ≡ good d j))
  first_good fs (Some h) c k g = (h.conditions, (h.sums, refl))
  first_good fs None c k g = absurd (bad-good (sym (bad-stays fs) ∙ g))

  sound : (fs pre : List Frame) (c k : ℕ) (y : Trees) → AllOctets fs → HeldT pre c k y → (c' k' : ℕ) → runs (ordered z) fs (good c k) ≡ good c' k' → HeldT (pre ++ fs) c' k' (runs built fs y)
  sound [] pre c k y ok h c' k' g =
      let e = good_parts c k c' k' g in
      rw (append-nil pre, ← e.0, ← e.1) h
  sound (x ∷ fs) pre c k (trees cs ss) ok h c' k' g =
      let p = first_good fs (ordered z x (good c k)) c' k' g in
      let q : HeldT (pre ++ (x ∷ [])) p.0 p.1.0 (built x (trees cs ss)) = step_by_lem x ok.0 pre c k cs ss h p.0 p.1.0 (byte-kind x.kind) p.1.1 in
      let r : HeldT ((pre ++ (x ∷ [])) ++ fs) c' k' (runs built fs (built x (trees cs ss)))
      = sound fs (pre ++ (x ∷ [])) p.0 p.1.0 (built x (trees cs ss)) ok.1 q c' k' (ap (runs (ordered z) fs) (sym p.1.1) ∙ g) in
      subst (λ (l : List Frame). HeldT l c' k' (runs built fs (built x (trees cs ss)))) (append_assoc pre (x ∷ []) fs) r

  begun : (fs : List Frame) (c k : ℕ) → AllOctets fs → runs (ordered z) fs (good 0 0) ≡ good c k → HeldT fs c k (runs built fs (trees [] []))
  begun fs c k ok g = sound fs [] 0 0 (trees [] []) ok (record { conds = refl; sums = refl; all_c = tt; all_s = tt; are = refl }) c k g

  only : (fs : List Frame) (y : Trees) → HeldT fs 1 0 y → BodyRule z fs
  only fs (trees [] ss) h = absurd (let a : 0 ≡ 1 = h.conds in omega arith)
  only fs (trees (t ∷ (u ∷ cs)) ss) h = absurd (let a : suc (suc (length cs)) ≡ 1 = h.conds in omega arith)
  only fs (trees (t ∷ []) (a ∷ ss)) h = absurd (let b : suc (length ss) ≡ 0 = h.sums in omega arith)
  only fs (trees (t ∷ []) []) h = record { tree = t; limits = h.all_c.0; frames = h.are ∙ append-nil (postfix_c t) }

  pub rule-of : (fs : List Frame) → AllOctets fs → runs (ordered z) fs (good 0 0) ≡ good 1 0 → BodyRule z fs
  rule-of fs ok g = only fs (runs built fs (trees [] [])) (begun fs 1 0 ok g)
