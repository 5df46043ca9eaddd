-- A rule and its body: the head carries the scale, and what stands behind it is a condition by that scale. Assumes nothing.
use mathlib.Core.Path.{◌≡◌, refl, sym, ap, ◌∙◌, subst}
use mathlib.Core.Bool.{Bool, true, false, ◌&&◌}
use mathlib.Core.Option.{Option, none, some}
use mathlib.Core.List.{List, [], ◌∷◌, ◌++◌, append_assoc, append-nil}
use Prim.Native.Nat.{ℕ, zero, suc, ◌-◌, ◌*◌, ◌%◌, ◌≤◌}
use native.Mathlib.Omega.{arith}
use lib.Dec.{leb, eqb}
use lib.IntN.{nat_abs}
use lib.ListN.{length, take, drop, length-drop}
use lib.Seq.{take_all}
use borrow.Author.Tests.{leb-true, le-leb, eqb-true}
use Rattle.numbers.proofs.Bools.{and-true, true-false}
use Rattle.numbers.proofs.Ints.{nat_abs_zero}
use Rattle.rule.specs.Limits.{decimal_limit, frame_bytes}
use Rattle.rule.specs.Frames.{Kind, kind_of, scale_byte, bare, frame_at, frame_count, Bytes, empty, byte}
use Rattle.rule.specs.Tree.{Sum, literal, instance, reference, arithmetic, abs, Cond, relation, not, connective, RuleTree, LimitsC, Limits, postfix_s, postfix_c, postfix, bytes_of, IsRule}
use Rattle.rule.specs.Scale.{note_decimals, literal_decimals, ScaleFits, head_of, head_frames, headed, scale_of, head_fields, head_fine, body}
use Rattle.rule.specs.Build.{Trees, trees, built, trees_at, first_c, tree_of}
use Rattle.rule.specs.Stack.{HeadIs}
use Rattle.rule.specs.declared.Frame.{Frame}
use Rattle.rule.specs.declared.Head.{Head}
use Rattle.rule.proofs.FrameLists.{frames_of, runs, runs-all, frames-bytes, bytes-frames, AllOctets, octets-bytes}
use Rattle.rule.proofs.FrameParsing.{unique, tree_in, frame_is}
use Rattle.rule.proofs.FrameRules.{IsBody, octets, frames-are}

-- ---- the first frame of a condition is an operand's
abbrev pub first_kind : List Frame → ℕ
first_kind [] = 0
first_kind (x ∷ fs) = x.kind

regroup : (a b : List Frame) (x : Frame) (fs : List Frame) → ((a ++ b) ++ (x ∷ [])) ++ fs ≡ a ++ (b ++ (x ∷ fs))
regroup a b x fs = append_assoc (a ++ b) (x ∷ []) fs ∙ append_assoc a b (x ∷ fs)

abbrev NoHead : List Frame → Type 0
NoHead fs = eqb (first_kind fs) scale_byte ≡ false

sum_first : (a : Sum) (fs : List Frame) → NoHead (postfix_s a ++ fs)
sum_first (literal d n) fs = refl
sum_first instance fs = refl
sum_first (reference r) fs = refl
sum_first (arithmetic o a b) fs = rw (regroup (postfix_s a) (postfix_s b) (bare (Kind.arithmetic o)) fs) (sum_first a (postfix_s b ++ (bare (Kind.arithmetic o) ∷ fs)))
sum_first (abs a) fs = rw (append_assoc (postfix_s a) (bare Kind.absolute ∷ []) fs) (sum_first a (bare Kind.absolute ∷ fs))

cond-first : (t : Cond) (fs : List Frame) → NoHead (postfix_c t ++ fs)
cond-first (relation r a b) fs = rw (regroup (postfix_s a) (postfix_s b) (bare (Kind.relation r)) fs) (sum_first a (postfix_s b ++ (bare (Kind.relation r) ∷ fs)))
cond-first (not p) fs = rw (append_assoc (postfix_c p) (bare Kind.negation ∷ []) fs) (cond-first p (bare Kind.negation ∷ fs))
cond-first (connective j p q) fs = rw (regroup (postfix_c p) (postfix_c q) (bare (Kind.connective j)) fs) (cond-first p (postfix_c q ++ (bare (Kind.connective j) ∷ fs)))

pub no_head : (t : Cond) → NoHead (postfix_c t)
no_head t = subst NoHead (append-nil (postfix_c t)) (cond-first t [])

-- ---- frames have one head and one body
abbrev behind : List Frame → List Frame
behind [] = []
behind (x ∷ fs) = fs

abbrev first_event : List Frame → ℕ
first_event [] = 0
first_event (x ∷ fs) = x.event

-- without a head, the frames begin with none
abbrev pub Headless : Option ℕ → List Frame → Type 0
Headless none fs = NoHead fs
Headless (some k) fs = Unit {0}

pub split : (z w : Option ℕ) (fs : List Frame) (t : Cond) → Headless z fs → head_of z ++ fs ≡ head_of w ++ postfix_c t → (w ≡ z) × (fs ≡ postfix_c t)
split none none fs t h e = (refl, e)
split none (some k) fs t h e = absurd (true-false (sym (ap (λ (l : List Frame). eqb (first_kind l) scale_byte) e) ∙ h))
split (some k) none fs t h e = absurd (true-false (ap (λ (l : List Frame). eqb (first_kind l) scale_byte) e ∙ no_head t))
split (some k) (some j) fs t h e = (ap some (sym (ap first_event e)), ap behind e)

-- ---- eight bytes hold each frame of a rule
pub rule-octets : (t : RuleTree) → Limits t → AllOctets (postfix t)
rule-octets t l = go t.scale l.0 l.1
  where
    go : (z : Option ℕ) → ScaleFits z → LimitsC z t.condition → AllOctets (head_of z ++ postfix_c t.condition)
    go none f c = octets none t.condition c
    go (some k) f c =
        (record { kind = omega arith; event = omega arith; note = omega arith; factor = omega arith; value = record { sfits = omega arith } }, octets (some k) t.condition c)

pub rule-bytes : (t : RuleTree) → Limits t → Bytes (bytes_of (postfix t))
rule-bytes t l = octets-bytes (postfix t) (rule-octets t l)

pub rule-frames : {s : List ℕ} (r : IsRule s) → frames_of s ≡ postfix r.tree
rule-frames r = ap frames_of r.bytes ∙ frames-bytes (postfix r.tree) (rule-octets r.tree r.limits)

-- ---- the head of a rule's bytes
kind-first : (fs : List Frame) → (frame_at (bytes_of fs) 0).kind ≡ first_kind fs
kind-first [] = refl
kind-first (x ∷ fs) = refl

pub and_no : (t u : Bool) → u ≡ false → (t && u) ≡ false
and_no true u e = e
and_no false u e = refl

-- what holds of the bytes of a head and a condition
pub record Headed (s : List ℕ) (z : Option ℕ) (t : Cond) : Type 0 where
  pub scale-is : scale_of s ≡ z
  pub body_is : body s ≡ bytes_of (postfix_c t)
  pub fine-is : head_fine s ≡ true

headed-by : (z : Option ℕ) (t : Cond) → ScaleFits z → Headed (bytes_of (head_of z ++ postfix_c t)) z t
headed-by none t f =
    let e : headed (bytes_of (postfix_c t)) ≡ false = and_no (leb frame_bytes (length (bytes_of (postfix_c t)))) (eqb (frame_at (bytes_of (postfix_c t)) 0).kind scale_byte) (rw (kind-first (postfix_c t)) (no_head t)) in
    record { scale-is = rw e; body_is = rw e; fine-is = rw e }
headed-by (some k) t f =
    let e : leb frame_bytes (length (bytes_of (head_of (some k) ++ postfix_c t))) ≡ true = le-leb frame_bytes (length (bytes_of (head_of (some k) ++ postfix_c t))) (omega arith) in
    record { scale-is = rw e; body_is = rw e; fine-is = rw (e, le-leb k decimal_limit f) }

pub rule-headed : {s : List ℕ} (r : IsRule s) → Headed s r.tree.scale r.tree.condition
rule-headed r = rw r.bytes (headed-by r.tree.scale r.tree.condition r.limits.0)

pub rule-scale : {s : List ℕ} (r : IsRule s) → scale_of s ≡ r.tree.scale
rule-scale r = (rule-headed r).scale-is

pub rule-head : {s : List ℕ} → IsRule s → head_fine s ≡ true
rule-head r = (rule-headed r).fine-is

abbrev pub rule-body : {s : List ℕ} (r : IsRule s) → IsBody (scale_of s) (body s)
rule-body r = record { tree = r.tree.condition; limits = rw (rule-scale r) r.limits.1; bytes = (rule-headed r).body_is }

-- ---- the head of any bytes
frames-first : (s : List ℕ) → 8 ≤ length s → frames_of s ≡ frame_at s 0 ∷ frames_of (drop 8 s)
frames-first [] h = absurd (omega arith)
frames-first (k ∷ []) h = absurd (omega arith)
frames-first (k ∷ (e ∷ [])) h = absurd (omega arith)
frames-first (k ∷ (e ∷ (n ∷ []))) h = absurd (omega arith)
frames-first (k ∷ (e ∷ (n ∷ (f ∷ [])))) h = absurd (omega arith)
frames-first (k ∷ (e ∷ (n ∷ (f ∷ (a ∷ []))))) h = absurd (omega arith)
frames-first (k ∷ (e ∷ (n ∷ (f ∷ (a ∷ (b ∷ [])))))) h = absurd (omega arith)
frames-first (k ∷ (e ∷ (n ∷ (f ∷ (a ∷ (b ∷ (c ∷ []))))))) h = absurd (omega arith)
frames-first (k ∷ (e ∷ (n ∷ (f ∷ (a ∷ (b ∷ (c ∷ (d ∷ s)))))))) h = refl

-- a head with the fields of its kind
head-frame : (x : Frame) → x.kind ≡ scale_byte → head_fields x ≡ true → (x ∷ [] ≡ head_of (some x.event)) × (x.event ≤ decimal_limit)
head-frame x e f =
    let p = and-true (leb x.event decimal_limit && (eqb x.note 0 && eqb x.factor 0)) (eqb (nat_abs x.value) 0) f in
    let q = and-true (leb x.event decimal_limit) (eqb x.note 0 && eqb x.factor 0) p.0 in
    let r = and-true (eqb x.note 0) (eqb x.factor 0) q.1 in (
      ap (λ (y : Frame). y ∷ []) (frame_is e refl (eqb-true x.note 0 r.0) (eqb-true x.factor 0 r.1) (nat_abs_zero x.value (eqb-true (nat_abs x.value) 0 p.1))),
      leb-true x.event decimal_limit q.0,
    )

-- bytes with a good head, or none: the frames are the head's and the body's
pub record Parts (s : List ℕ) : Type 0 where
  pub are : frames_of s ≡ head_of (scale_of s) ++ frames_of (body s)
  pub fits : ScaleFits (scale_of s)
  pub headless : 8 ≤ length s → Headless (scale_of s) (frames_of (body s))

parts-by : (s : List ℕ) (t : Bool) → headed s ≡ t → head_fine s ≡ true → Parts s
parts-by s true e f =
    let p = and-true (leb frame_bytes (length s)) (eqb (frame_at s 0).kind scale_byte) e in
    let h : 8 ≤ length s = leb-true frame_bytes (length s) p.0 in
    let q = head-frame (frame_at s 0) (eqb-true (frame_at s 0).kind scale_byte p.1) (rw e at f) in
    record {
      are = rw e (frames-first s h ∙ ap (λ (l : List Frame). l ++ frames_of (drop 8 s)) q.0);
      fits = rw e q.1;
      headless = λ l. rw e tt;
    }
parts-by s false e f =
    record {
      are = rw e;
      fits = rw e tt;
      headless = λ l. rw (e, frames-first s l) (no_first (eqb (frame_at s 0).kind scale_byte) refl (rw (le-leb 8 (length s) l) at e));
    }
  where
    no_first : (t : Bool) → eqb (frame_at s 0).kind scale_byte ≡ t → t ≡ false → eqb (frame_at s 0).kind scale_byte ≡ false
    no_first t e f = e ∙ f

pub parts : (s : List ℕ) → head_fine s ≡ true → Parts s
parts s f = parts-by s (headed s) refl f

-- a head is at most one frame, with few decimals
pub record Few (s : List ℕ) : Type 0 where
  pub frames-few : head_frames (scale_of s) ≤ 1
  pub frames_in_lem : head_frames (scale_of s) * frame_bytes ≤ length s
  pub most-few : literal_decimals (scale_of s) ≤ decimal_limit

few-by : (s : List ℕ) (t : Bool) → headed s ≡ t → Few s
few-by s true e =
    let p = and-true (leb frame_bytes (length s)) (eqb (frame_at s 0).kind scale_byte) e in
    let h : 8 ≤ length s = leb-true frame_bytes (length s) p.0 in
    record { frames-few = rw e (omega arith); frames_in_lem = rw e (omega arith); most-few = rw e (omega arith) }
few-by s false e = record { frames-few = rw e (omega arith); frames_in_lem = rw e (omega arith); most-few = rw e (omega arith) }

pub head_few : (s : List ℕ) → Few s
head_few s = few-by s (headed s) refl

scale-few : (z : Option ℕ) → ScaleFits z → note_decimals z ≤ decimal_limit
scale-few none f = omega arith
scale-few (some k) f = f

pub decimals-few : (s : List ℕ) → head_fine s ≡ true → note_decimals (scale_of s) ≤ decimal_limit
decimals-few s f = scale-few (scale_of s) (parts s f).fits

-- ---- the body of bytes
bytes_drop : (n : ℕ) {s : List ℕ} → Bytes s → Bytes (drop n s)
bytes_drop zero b = b
bytes_drop (suc n) empty = empty
bytes_drop (suc n) (byte p b) = bytes_drop n b

pub body_bytes : {s : List ℕ} → Bytes s → Bytes (body s)
body_bytes {s} b = bytes_drop (head_frames (scale_of s) * frame_bytes) b

pub body-length : (s : List ℕ) → length (body s) ≤ length s
body-length s = let d = length-drop (head_frames (scale_of s) * frame_bytes) s in omega arith

pub body-whole : (s : List ℕ) → length s % 8 ≡ 0 → length (body s) % 8 ≡ 0
body-whole s h = let d = length-drop (head_frames (scale_of s) * frame_bytes) s in omega arith

-- the part of a slice that the code takes for it
pub body-part : {s : List ℕ} {h : Head} → HeadIs s h → take (length s - h.frames * 8) (drop (h.frames * 8) s) ≡ body s
body-part {s} {h} i =
    let d = length-drop (head_frames (scale_of s) * 8) s in
    rw i.frames (take_all (length s - head_frames (scale_of s) * 8) (drop (head_frames (scale_of s) * 8) s) (omega arith))

-- a body behind a good head is a rule
pub body-rule : {s : List ℕ} → Bytes s → length s % 8 ≡ 0 → head_fine s ≡ true → IsBody (scale_of s) (body s) → IsRule s
body-rule {s} b h f r =
    let p = parts s f in
    record {
      tree = record { scale = scale_of s; condition = r.tree };
      limits = (p.fits, r.limits);
      bytes = sym (bytes-frames b h) ∙ ap bytes_of (p.are ∙ ap (λ (l : List Frame). head_of (scale_of s) ++ l) (frames-are (scale_of s) r));
    }

-- ---- of one tree only
abbrev pub tree : Option ℕ → Cond → RuleTree
tree z t = record { scale = z; condition = t }

tree_is : {z w : Option ℕ} {t u : Cond} → z ≡ w → t ≡ u → tree z t ≡ tree w u
tree_is e f = rw (e, f)

pub one-tree : {s : List ℕ} (p q : IsRule s) → p.tree ≡ q.tree
one-tree {s} p q =
    tree_is (sym (rule-scale p) ∙ rule-scale q) (unique p.tree.condition q.tree.condition (sym (frames-are (scale_of s) (rule-body p)) ∙ frames-are (scale_of s) (rule-body q)))

pub tree-of : {s : List ℕ} (r : IsRule s) → tree_of s ≡ r.tree
unfolding tree_of
tree-of {s} r = tree_is (rule-scale r) (tree_in s r.tree (rule-frames r))

-- the condition is the body's
head_builds : (z : Option ℕ) (fs : List Frame) → runs built (head_of z ++ fs) (trees [] []) ≡ runs built fs (trees [] [])
unfolding kind_of
head_builds none fs = refl
head_builds (some k) fs = refl

pub tree-body : (s : List ℕ) → head_fine s ≡ true → tree_of s ≡ tree (scale_of s) (first_c (trees_at (body s) (frame_count (body s))))
unfolding tree_of
tree-body s f =
    ap (λ (q : Trees). tree (scale_of s) (first_c q))
    (runs-all built s (trees_at s) (λ i. refl) ∙ ap (λ (l : List Frame). runs built l (trees [] [])) (parts s f).are ∙ head_builds (scale_of s) (frames_of (body s))
    ∙ sym (runs-all built (body s) (trees_at (body s)) (λ i. refl)))
