-- Refusal 10 does not hold of a body exactly where its bytes are the frames of a condition within the limits. Assumes nothing.
use mathlib.Core.Path.{◌≡◌, refl, sym, ap, ◌∙◌}
use mathlib.Core.Logic.{◌↔◌}
use mathlib.Core.Bool.{Bool, true, cond}
use mathlib.Core.Option.{Option, none, some}
use mathlib.Core.List.{List, [], ◌∷◌, ◌++◌}
use Prim.Native.Nat.{ℕ, ◌+◌, ◌%◌, ◌≤◌, ◌<◌, zero-le}
use native.Mathlib.Omega.{arith}
use lib.IntN.{nat_abs}
use lib.ListN.{length}
use borrow.Author.Tests.{le-leb, lt-ltb}
use Rattle.std.specs.Prelude.{None}
use Rattle.numbers.proofs.Ints.{mag_nat_abs}
use Rattle.rule.specs.Limits.{literal_limit, decimal_limit, event_limit, note_limit, factor_limit, offset_limit}
use Rattle.rule.specs.Frames.{Source, Kind, kind_of, sum_of, cond_of, bare, fields_of, Bytes}
use Rattle.rule.specs.Tree.{Sum, literal, instance, reference, arithmetic, abs, Cond, relation, not, connective, LimitsS, LimitsC, postfix_s, postfix_c, bytes_of}
use Rattle.rule.specs.Scale.{literal_decimals}
use Rattle.rule.specs.Order.{good, stepped, step_by, step_in, InOrder}
use Rattle.rule.specs.declared.Frame.{Frame}
use Rattle.rule.proofs.FrameKinds.{kind-byte, kind_octet}
use Rattle.rule.proofs.FrameLists.{frames_of, runs, pass1, pass2, Octets, AllOctets, all_append, octets_in, octets-bytes, frames-bytes, bytes-frames}
use Rattle.rule.proofs.FrameParsing.{ordered, fine-runs, runs-fine, BodyRule, rule-of}

-- where j is k and the sums, or the conditions, that a frame takes
sum-on : (n c k j : ℕ) → j ≡ k + n → stepped (sum_of n) c j ≡ good c (k + 1)
sum-on n c k j e = rw (le-leb n j (omega arith)) (ap (good c) (omega arith))

cond-on : (n k j : ℕ) → j ≡ k + n → stepped (cond_of n) j 0 ≡ good (k + 1) 0
cond-on n k j e = rw (le-leb n j (omega arith)) (ap (λ (x : ℕ). good x 0) (omega arith))

-- ---- and eight bytes hold each of them
pub bare-octets : (k : Kind) → Octets (bare k)
bare-octets k = record { kind = kind_octet k; event = omega arith; note = omega arith; factor = omega arith; value = record { sfits = omega arith } }

join : (xs ys : List Frame) (k : Kind) → AllOctets xs → AllOctets ys → AllOctets ((xs ++ ys) ++ (bare k ∷ []))
join xs ys k p q = all_append (xs ++ ys) (bare k ∷ []) (all_append xs ys p q) (bare-octets k, tt)

few-decimals : (z : Option ℕ) → literal_decimals z ≤ decimal_limit
few-decimals none = omega arith
few-decimals (some k) = omega arith

-- bytes that are a body
pub record IsBody (z : Option ℕ) (s : List ℕ) : Type 0 where
  pub tree : Cond
  pub limits : LimitsC z tree
  pub bytes : s ≡ bytes_of (postfix_c tree)

module _ (z : Option ℕ) where
  -- ---- a tree's frames are in order, whatever stands before them
  bare-on : (o : Kind) (c k : ℕ) → fields_of (literal_decimals z) o (bare o) ≡ true → (ordered z) (bare o) (good c k) ≡ step_by o c k
  bare-on o c k f = ap (λ (p : Kind). step_in (literal_decimals z) p (bare o) c k) (kind-byte o) ∙ ap (λ (t : Bool). cond t (step_by o c k) None) f

  order_s : (t : Sum) → LimitsS z t → (c k : ℕ) → runs (ordered z) (postfix_s t) (good c k) ≡ good c (k + 1)
  unfolding kind_of
  order_s (literal d n) l c k = rw (le-leb d (literal_decimals z) l.0, le-leb 0 n zero-le) (sum-on 0 c k k (omega arith))
  order_s instance l c k = sum-on 0 c k k (omega arith)
  order_s (reference r) l c k =
      rw (
        lt-ltb r.event event_limit l.event,
        lt-ltb r.note note_limit l.note,
        le-leb 1 r.factor l.least,
        le-leb r.factor factor_limit l.factor,
        le-leb (nat_abs r.offset) offset_limit l.offset,
      ) (sum-on 0 c k k (omega arith))
  order_s (arithmetic o a b) l c k =
      pass2 (ordered z) (postfix_s a) (postfix_s b) (bare (Kind.arithmetic o)) _ _ _ (order_s a l.0 c k) (order_s b l.1 c (k + 1))
      ∙ bare-on (Kind.arithmetic o) c (k + 1 + 1) refl ∙ sum-on 2 c k (k + 1 + 1) (omega arith)
  order_s (abs a) l c k =
      pass1 (ordered z) (postfix_s a) (bare Kind.absolute) _ _ (order_s a l c k) ∙ bare-on Kind.absolute c (k + 1) refl ∙ sum-on 1 c k (k + 1) refl

  order_c : (t : Cond) → LimitsC z t → (c : ℕ) → runs (ordered z) (postfix_c t) (good c 0) ≡ good (c + 1) 0
  order_c (relation r a b) l c =
      pass2 (ordered z) (postfix_s a) (postfix_s b) (bare (Kind.relation r)) _ _ _ (order_s a l.0 c 0) (order_s b l.1 c 1) ∙ bare-on (Kind.relation r) c 2 refl
  order_c (not p) l c = pass1 (ordered z) (postfix_c p) (bare Kind.negation) _ _ (order_c p l c) ∙ bare-on Kind.negation (c + 1) 0 refl ∙ cond-on 1 c (c + 1) refl
  order_c (connective j p q) l c =
      pass2 (ordered z) (postfix_c p) (postfix_c q) (bare (Kind.connective j)) _ _ _ (order_c p l.0 c) (order_c q l.1 (c + 1))
      ∙ bare-on (Kind.connective j) (c + 1 + 1) 0 refl ∙ cond-on 2 c (c + 1 + 1) (omega arith)

  pub order-rule : (t : Cond) → LimitsC z t → runs (ordered z) (postfix_c t) (good 0 0) ≡ good 1 0
  order-rule t l = order_c t l 0

  octets_s : (t : Sum) → LimitsS z t → AllOctets (postfix_s t)
  octets_s (literal d n) l =
      let p : d ≤ literal_decimals z = l.0 in
      let q : n ≤ literal_limit = l.1 in
      (record { kind = omega arith; event = omega (arith, few-decimals z); note = omega arith; factor = omega arith; value = record { sfits = omega arith } }, tt)
  octets_s instance l = (bare-octets (Kind.operand Source.instance), tt)
  octets_s (reference r) l =
      let p : r.event < event_limit = l.event in
      let q : r.note < note_limit = l.note in
      let f : r.factor ≤ factor_limit = l.factor in
      let o : nat_abs r.offset ≤ offset_limit = l.offset in
      (record { kind = omega arith; event = omega arith; note = omega arith; factor = omega arith; value = record { sfits = omega (arith, mag_nat_abs r.offset) } }, tt)
  octets_s (arithmetic o a b) l = join (postfix_s a) (postfix_s b) (Kind.arithmetic o) (octets_s a l.0) (octets_s b l.1)
  octets_s (abs a) l = all_append (postfix_s a) (bare Kind.absolute ∷ []) (octets_s a l) (bare-octets Kind.absolute, tt)

  pub octets : (t : Cond) → LimitsC z t → AllOctets (postfix_c t)
  octets (relation r a b) l = join (postfix_s a) (postfix_s b) (Kind.relation r) (octets_s a l.0) (octets_s b l.1)
  octets (not p) l = all_append (postfix_c p) (bare Kind.negation ∷ []) (octets p l) (bare-octets Kind.negation, tt)
  octets (connective j p q) l = join (postfix_c p) (postfix_c q) (Kind.connective j) (octets p l.0) (octets q l.1)

  pub rule-bytes : (t : Cond) → LimitsC z t → Bytes (bytes_of (postfix_c t))
  rule-bytes t l = octets-bytes (postfix_c t) (octets t l)

  -- ---- over bytes
  pub frames-are : {s : List ℕ} (r : IsBody z s) → frames_of s ≡ postfix_c r.tree
  frames-are r = ap frames_of r.bytes ∙ frames-bytes (postfix_c r.tree) (octets r.tree r.limits)

  pub rule-frames : {s : List ℕ} → IsBody z s → BodyRule z (frames_of s)
  rule-frames r = record { tree = r.tree; limits = r.limits; frames = frames-are r }

  pub frames-rule : {s : List ℕ} → Bytes s → length s % 8 ≡ 0 → BodyRule z (frames_of s) → IsBody z s
  frames-rule b h r = record { tree = r.tree; limits = r.limits; bytes = sym (bytes-frames b h) ∙ ap bytes_of r.frames }

  pub fine-rule : {s : List ℕ} → Bytes s → length s % 8 ≡ 0 → InOrder (literal_decimals z) s → IsBody z s
  fine-rule {s} b h f = frames-rule b h (rule-of z (frames_of s) (octets_in b) (fine-runs z s f))

  pub rule-order : (s : List ℕ) → BodyRule z (frames_of s) → InOrder (literal_decimals z) s
  rule-order s r = runs-fine z s (ap (λ (x : List Frame). runs (ordered z) x (good 0 0)) r.frames ∙ order-rule r.tree r.limits)

  pub rule-fine : {s : List ℕ} → IsBody z s → InOrder (literal_decimals z) s
  rule-fine {s} r = rule-order s (rule-frames r)

  pub fine_iff : {s : List ℕ} → Bytes s → length s % 8 ≡ 0 → InOrder (literal_decimals z) s ↔ IsBody z s
  fine_iff b h = (fine-rule b h, rule-fine)
