-- A rule's references: those of its frames, in frame order, and at most half of the frames. Assumes nothing.
use mathlib.Core.Path.{◌≡◌, refl, sym, ap, ◌∙◌}
use mathlib.Core.Bool.{Bool, true, false, cond}
use mathlib.Core.Option.{Option, none, some}
use mathlib.Core.List.{List, [], ◌∷◌, ◌++◌, append-nil}
use Prim.Native.Nat.{ℕ, suc, ◌+◌, ◌*◌, ◌≤◌}
use native.Mathlib.Omega.{arith}
use lib.Dec.{eqb}
use lib.ListN.{length, length-append}
use borrow.Author.Tests.{eqb-true, eq-eqb, ne_eqb}
use Rattle.rule.specs.Limits.{frame_limit, frame_bytes}
use Rattle.rule.specs.Frames.{Relation, equal, unequal, less, at_most, more, at_least, Arithmetic, add, subtract, multiply, Connective, and, or, implies, Kind, kind_byte, bare, frame_count}
use Rattle.rule.specs.Tree.{Reference, Sum, literal, instance, reference, arithmetic, abs, Cond, relation, not, connective, RuleTree, postfix_s, postfix_c, postfix, IsRule, references_s, references_c, references}
use Rattle.rule.specs.Scale.{head_of}
use Rattle.rule.specs.References.{reference_byte, reference_of, references_to, one_more, reference_count}
use Rattle.rule.specs.declared.Frame.{Frame}
use Rattle.rule.proofs.FrameLists.{frames_of, runs, runs-all, bytes-length}
use Rattle.rule.proofs.FrameRules.{IsBody, frames-are}
use Rattle.rule.proofs.FrameHeads.{rule-frames}

-- over a rule's references, in frame order
module _ {S : Type 0} (f : Reference → S → S) where
  abbrev pub over_references : List Reference → S → S
  over_references [] z = z
  over_references (r ∷ rs) z = over_references rs (f r z)

-- ---- how many
two : (xs ys : List Reference) (fs gs : List Frame) (x : Frame) → length xs * 2 ≤ suc (length fs) → length ys * 2 ≤ suc (length gs) → length (xs ++ ys) * 2 ≤ suc (length ((fs ++ gs) ++ (x ∷ [])))
two xs ys fs gs x p q = rw (length-append xs ys, length-append (fs ++ gs) (x ∷ []), length-append fs gs) (omega arith)

same : (xs : List Reference) (fs : List Frame) (x : Frame) → length xs * 2 ≤ suc (length fs) → length xs * 2 ≤ suc (length (fs ++ (x ∷ [])))
same xs fs x p = rw (length-append fs (x ∷ [])) (omega arith)

half_s : (t : Sum) → length (references_s t) * 2 ≤ suc (length (postfix_s t))
half_s (literal d n) = omega arith
half_s instance = omega arith
half_s (reference r) = omega arith
half_s (arithmetic o a b) = two (references_s a) (references_s b) (postfix_s a) (postfix_s b) (bare (Kind.arithmetic o)) (half_s a) (half_s b)
half_s (abs a) = same (references_s a) (postfix_s a) (bare Kind.absolute) (half_s a)

half_c : (t : Cond) → length (references_c t) * 2 ≤ suc (length (postfix_c t))
half_c (relation r a b) = two (references_s a) (references_s b) (postfix_s a) (postfix_s b) (bare (Kind.relation r)) (half_s a) (half_s b)
half_c (not p) = same (references_c p) (postfix_c p) (bare Kind.negation) (half_c p)
half_c (connective j p q) = two (references_c p) (references_c q) (postfix_c p) (postfix_c q) (bare (Kind.connective j)) (half_c p) (half_c q)

pub half : (t : RuleTree) → length (references t) * 2 ≤ suc (length (postfix t))
half t = go t.scale
  where
    go : (z : Option ℕ) → length (references t) * 2 ≤ suc (length (head_of z ++ postfix_c t.condition))
    go none = half_c t.condition
    go (some k) = let h = half_c t.condition in omega arith

pub rule-length : {s : List ℕ} (r : IsRule s) → length s ≡ length (postfix r.tree) * frame_bytes
rule-length r = ap length r.bytes ∙ bytes-length (postfix r.tree)

-- at most 32 references in 64 frames
pub at_most_32 : {s : List ℕ} (r : IsRule s) → length s ≤ frame_limit * frame_bytes → length (references r.tree) ≤ 32
at_most_32 {s} r h =
    let e : length s ≡ length (postfix r.tree) * 8 = rule-length r in
    omega (arith, half r.tree)

-- ---- the references of frames, in their order
abbrev refs_in : List Frame → List Reference
refs_in [] = []
refs_in (x ∷ fs) = cond (eqb x.kind reference_byte) (reference_of x ∷ refs_in fs) (refs_in fs)

cond_append : (t : Bool) (r : Reference) (xs ys zs : List Reference) → zs ≡ xs ++ ys → cond t (r ∷ zs) zs ≡ cond t (r ∷ xs) xs ++ ys
cond_append true r xs ys zs e = ap (λ (l : List Reference). r ∷ l) e
cond_append false r xs ys zs e = e

refs_append : (xs ys : List Frame) → refs_in (xs ++ ys) ≡ refs_in xs ++ refs_in ys
refs_append [] ys = refl
refs_append (x ∷ xs) ys = cond_append (eqb x.kind reference_byte) (reference_of x) (refs_in xs) (refs_in ys) (refs_in (xs ++ ys)) (refs_append xs ys)

refs-one : (xs : List Frame) (k : Kind) (p : List Reference) → eqb (kind_byte k) reference_byte ≡ false → refs_in xs ≡ p → refs_in (xs ++ (bare k ∷ [])) ≡ p
refs-one xs k p h a = refs_append xs (bare k ∷ []) ∙ rw h (append-nil (refs_in xs) ∙ a)

refs-two : (xs ys : List Frame) (k : Kind) (p q : List Reference) → eqb (kind_byte k) reference_byte ≡ false → refs_in xs ≡ p → refs_in ys ≡ q → refs_in ((xs ++ ys) ++ (bare k ∷ [])) ≡ p ++ q
refs-two xs ys k p q h a b = refs-one (xs ++ ys) k (p ++ q) h (refs_append xs ys ∙ rw (a, b))

arithmetic_no : (o : Arithmetic) → eqb (kind_byte (Kind.arithmetic o)) reference_byte ≡ false
arithmetic_no add = refl
arithmetic_no subtract = refl
arithmetic_no multiply = refl

relation_no : (r : Relation) → eqb (kind_byte (Kind.relation r)) reference_byte ≡ false
relation_no equal = refl
relation_no unequal = refl
relation_no less = refl
relation_no at_most = refl
relation_no more = refl
relation_no at_least = refl

connective_no : (j : Connective) → eqb (kind_byte (Kind.connective j)) reference_byte ≡ false
connective_no and = refl
connective_no or = refl
connective_no implies = refl

refs_s : (t : Sum) → refs_in (postfix_s t) ≡ references_s t
refs_s (literal d n) = refl
refs_s instance = refl
refs_s (reference r) = refl
refs_s (arithmetic o a b) = refs-two (postfix_s a) (postfix_s b) (Kind.arithmetic o) (references_s a) (references_s b) (arithmetic_no o) (refs_s a) (refs_s b)
refs_s (abs a) = refs-one (postfix_s a) Kind.absolute (references_s a) refl (refs_s a)

refs_c : (t : Cond) → refs_in (postfix_c t) ≡ references_c t
refs_c (relation r a b) = refs-two (postfix_s a) (postfix_s b) (Kind.relation r) (references_s a) (references_s b) (relation_no r) (refs_s a) (refs_s b)
refs_c (not p) = refs-one (postfix_c p) Kind.negation (references_c p) refl (refs_c p)
refs_c (connective j p q) = refs-two (postfix_c p) (postfix_c q) (Kind.connective j) (references_c p) (references_c q) (connective_no j) (refs_c p) (refs_c q)

-- the head is none
refs-rule : (t : RuleTree) → refs_in (postfix t) ≡ references t
refs-rule t = go t.scale
  where
    go : (z : Option ℕ) → refs_in (head_of z ++ postfix_c t.condition) ≡ references t
    go none = refs_c t.condition
    go (some k) = refs_c t.condition

-- ---- a pass that looks at references only is one over the rule's references
module _ {S : Type 0} (f : Reference → S → S) where
  abbrev looked : Frame → S → S
  looked x z = cond (eqb x.kind reference_byte) (f (reference_of x) z) z

  cond_over : (t : Bool) (r : Reference) (rs : List Reference) (z : S) → over_references f rs (cond t (f r z) z) ≡ over_references f (cond t (r ∷ rs) rs) z
  cond_over true r rs z = refl
  cond_over false r rs z = refl

  runs-refs : (fs : List Frame) (z : S) → runs looked fs z ≡ over_references f (refs_in fs) z
  runs-refs [] z = refl
  runs-refs (x ∷ fs) z =
      runs-refs fs (cond (eqb x.kind reference_byte) (f (reference_of x) z) z)
      ∙ cond_over (eqb x.kind reference_byte) (reference_of x) (refs_in fs) z

  over-frames : (s : List ℕ) (rs : List Reference) (z : S) → refs_in (frames_of s) ≡ rs → references_to f s z (frame_count s) ≡ over_references f rs z
  over-frames s rs z e =
      runs-all looked s (references_to f s z) (λ i. refl) ∙ runs-refs (frames_of s) z ∙ ap (λ (l : List Reference). over_references f l z) e

  pub over-references : {s : List ℕ} (r : IsRule s) (z : S) → references_to f s z (frame_count s) ≡ over_references f (references r.tree) z
  over-references {s} r z = over-frames s (references r.tree) z (ap refs_in (rule-frames r) ∙ refs-rule r.tree)

over-count : (rs : List Reference) (n : ℕ) → over_references one_more rs n ≡ n + length rs
over-count [] n = omega arith
over-count (r ∷ rs) n = let h : over_references one_more rs (n + 1) ≡ (n + 1) + length rs = over-count rs (n + 1) in omega arith

pub count-of : {s : List ℕ} (r : IsRule s) → reference_count s ≡ length (references r.tree)
unfolding reference_count
count-of r = over-references one_more r 0 ∙ over-count (references r.tree) 0 ∙ omega arith

-- of a body
pub body-count : {z : Option ℕ} {s : List ℕ} (r : IsBody z s) → reference_count s ≡ length (references_c r.tree)
unfolding reference_count
body-count {z} {s} r = over-frames one_more s (references_c r.tree) 0 (ap refs_in (frames-are z r) ∙ refs_c r.tree) ∙ over-count (references_c r.tree) 0 ∙ omega arith

-- ---- none, or some
none-by : (rs : List Reference) → length rs ≡ 0 → rs ≡ []
none-by [] e = refl
none-by (r ∷ rs) e = absurd (let h : suc (length rs) ≡ 0 = e in omega arith)

pub no_reference : {z : Option ℕ} {s : List ℕ} (r : IsBody z s) → eqb (reference_count s) 0 ≡ true → references_c r.tree ≡ []
no_reference {s = s} r e = none-by (references_c r.tree) (sym (body-count r) ∙ eqb-true (reference_count s) 0 e)

pub reference-none : {z : Option ℕ} {s : List ℕ} (r : IsBody z s) → references_c r.tree ≡ [] → eqb (reference_count s) 0 ≡ true
reference-none {s = s} r e = eq-eqb (reference_count s) 0 (body-count r ∙ ap length e)

pub reference-some : {z : Option ℕ} {s : List ℕ} (r : IsBody z s) → (references_c r.tree ≡ [] → ⊥) → eqb (reference_count s) 0 ≡ false
reference-some {s = s} r h = ne_eqb (reference_count s) 0 (λ e. h (none-by (references_c r.tree) (sym (body-count r) ∙ e)))
