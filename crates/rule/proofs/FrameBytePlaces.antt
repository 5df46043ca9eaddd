-- The place of refusal 10 over bytes: p frames are p × 8 bytes, the head's before the body's. Assumes nothing.
use mathlib.Core.Path.{◌≡◌, refl, sym, ap, ◌∙◌, subst}
use mathlib.Core.Bool.{true, false}
use mathlib.Core.Option.{Option, none, some}
use mathlib.Core.List.{List, [], ◌∷◌, ◌++◌, append_assoc}
use Prim.Native.Nat.{ℕ, zero, suc, ◌+◌, ◌-◌, ◌*◌, ◌%◌, ◌≤◌, ◌<◌}
use native.Mathlib.Decide.{dec_lt}
use native.Mathlib.Omega.{arith}
use borrow.Author.Tests.{le-leb}
use lib.ListN.{length, take, drop, take-append-drop}
use lib.Seq.{take-add}
use Rattle.std.specs.Prelude.{Err}
use Rattle.numbers.proofs.Bools.{true-false}
use Rattle.rule.specs.Frames.{Relation, frame_count, Bytes}
use Rattle.rule.specs.Tree.{instance, relation, RuleTree, LimitsC, Limits, postfix, bytes_of, IsRule}
use Rattle.rule.specs.Scale.{literal_decimals, head_of, head_frames, scale_of, head_fine, body}
use Rattle.rule.specs.Order.{order_of}
use Rattle.rule.specs.Opening.{Begins, PlaceOf10}
use Rattle.rule.specs.declared.Frame.{Frame}
use Rattle.rule.proofs.FrameLists.{frames_of, frames-length, frames_append, bytes-frames, AllOctets, all_take, octets_in}
use Rattle.rule.proofs.FrameParsing.{BodyRule}
use Rattle.rule.proofs.FramePlaces.{BeginsF, PlaceF, place}
use Rattle.rule.proofs.FrameHeads.{Headless, split, rule-frames, rule-head, Parts, parts, body_bytes}

bytes_append : (xs ys : List Frame) → bytes_of (xs ++ ys) ≡ bytes_of xs ++ bytes_of ys
bytes_append [] ys = refl
bytes_append (x ∷ xs) ys = rw (bytes_append xs ys)

take-bytes : (p : ℕ) (fs : List Frame) → bytes_of (take p fs) ≡ take (p * 8) (bytes_of fs)
take-bytes zero fs = refl
take-bytes (suc p) [] = sym (nil (suc p * 8))
  where
    nil : (n : ℕ) → ◌≡◌ {A = List ℕ} (take n []) []
    nil zero = refl
    nil (suc n) = refl
take-bytes (suc p) (x ∷ fs) =
    let h : suc p * 8 ≡ suc (suc (suc (suc (suc (suc (suc (suc (p * 8)))))))) = omega arith in
    rw (h, take-bytes p fs)

-- ---- a body's place is the rule's, behind the head
head-take : (z : Option ℕ) (p : ℕ) (fs : List Frame) → take (head_frames z + p) (head_of z ++ fs) ≡ head_of z ++ take p fs
head-take none p fs = let e : 0 + p ≡ p = omega arith in rw e
head-take (some k) p fs = let e : 1 + p ≡ suc p = omega arith in rw e

head-length : (z : Option ℕ) (fs : List Frame) → length (head_of z ++ fs) ≡ head_frames z + length fs
head-length none fs = omega arith
head-length (some k) fs = omega arith

-- the first of some frames stays the first
headless-more : (z : Option ℕ) (p : ℕ) (fs gs : List Frame) → p < length fs → Headless z fs → Headless z (take (suc p) fs ++ gs)
headless-more none p [] gs h n = absurd (omega arith)
headless-more none p (x ∷ fs) gs h n = n
headless-more (some k) p fs gs h n = tt

module _ (s : List ℕ) (b : Bytes s) (h : length s % 8 ≡ 0) (w : 8 ≤ length s) (f : head_fine s ≡ true) where
  abbrev z : Option ℕ
  z = scale_of s

  abbrev fs : List Frame
  fs = frames_of (body s)

  its : Parts s
  its = parts s f

  taken : (p : ℕ) → head_of z ++ take p fs ≡ take (head_frames z + p) (frames_of s)
  taken p = sym (head-take z p fs) ∙ ap (take (head_frames z + p)) (sym its.are)

  take-is : (p : ℕ) → bytes_of (head_of z ++ take p fs) ≡ take ((head_frames z + p) * 8) s
  take-is p = ap bytes_of (taken p) ∙ take-bytes (head_frames z + p) (frames_of s) ∙ ap (take ((head_frames z + p) * 8)) (bytes-frames b h)

  counted : frame_count s ≡ head_frames z + length fs
  counted = sym (frames-length s) ∙ ap length its.are ∙ head-length z fs

  begins-rule : (p : ℕ) → BeginsF z (take p fs) → Begins (take ((head_frames z + p) * 8) s)
  begins-rule p a =
      let r : BodyRule z (take p fs ++ a.rest) = a.rule in
      subst Begins (take-is p)
      (record {
        rest = bytes_of a.rest;
        rule = record {
          tree = record { scale = z; condition = r.tree };
          limits = (its.fits, r.limits);
          bytes = sym (bytes_append (head_of z ++ take p fs) a.rest) ∙ ap bytes_of (append_assoc (head_of z) (take p fs) a.rest ∙ ap (λ (l : List Frame). head_of z ++ l) r.frames);
        };
      })

  -- frames behind the head that make a rule with it are a body
  body_of : (gs : List Frame) (t : RuleTree) → Limits t → Headless z gs → head_of z ++ gs ≡ postfix t → BodyRule z gs
  body_of gs t l n e =
      let p = split z t.scale gs t.condition n e in
      record { tree = t.condition; limits = subst (λ (v : Option ℕ). LimitsC v t.condition) p.0 l.1; frames = p.1 }

  rule-begins : (p : ℕ) → p < length fs → Begins (take ((head_frames z + suc p) * 8) s) → BeginsF z (take (suc p) fs)
  rule-begins p i a =
      let c : Begins (bytes_of (head_of z ++ take (suc p) fs)) = subst Begins (sym (take-is (suc p))) a in
      let r : IsRule (bytes_of (head_of z ++ take (suc p) fs) ++ c.rest) = c.rule in
      let o : AllOctets (head_of z ++ take (suc p) fs) = subst AllOctets (sym (taken (suc p))) (all_take (head_frames z + suc p) (frames_of s) (octets_in b)) in
      record {
        rest = frames_of c.rest;
        rule =
            body_of (take (suc p) fs ++ frames_of c.rest) r.tree r.limits (headless-more z p fs (frames_of c.rest) i (its.headless w))
            (sym (append_assoc (head_of z) (take (suc p) fs) (frames_of c.rest)) ∙ sym (frames_append (head_of z ++ take (suc p) fs) c.rest o) ∙ rule-frames r);
      }

  to-bytes : (p : ℕ) → PlaceF z fs p → PlaceOf10 s (head_frames z + p)
  to-bytes p a =
      let n = counted in
      let i : p ≤ length fs = a.inside in
      let e : suc (head_frames z + p) ≡ head_frames z + suc p = omega arith in
      record {
        inside = omega arith;
        before = begins-rule p a.before;
        here = λ g d. let j : p < length fs = omega arith in a.here j (rule-begins p j (subst (λ (q : ℕ). Begins (take (q * 8) s)) e d));
        end = λ g r. a.end (omega arith) (body_of fs r.tree r.limits (its.headless w) (sym its.are ∙ rule-frames r));
      }

  pub place-bytes : (p : ℕ) → order_of (literal_decimals (scale_of s)) (body s) ≡ Err p → PlaceOf10 s (head_frames (scale_of s) + p)
  place-bytes p e = to-bytes p (place z (body s) (octets_in (body_bytes b)) p e)

-- ---- a head whose fields are not its kind's begins no rule
-- i = i
abbrev some-rule : RuleTree
some-rule = record { scale = none; condition = relation Relation.equal instance instance }

same_head : (s t : List ℕ) → 8 ≤ length s → head_fine (take 8 s ++ t) ≡ head_fine s
same_head [] t h = absurd (omega arith)
same_head (k ∷ []) t h = absurd (omega arith)
same_head (k ∷ (e ∷ [])) t h = absurd (omega arith)
same_head (k ∷ (e ∷ (n ∷ []))) t h = absurd (omega arith)
same_head (k ∷ (e ∷ (n ∷ (f ∷ [])))) t h = absurd (omega arith)
same_head (k ∷ (e ∷ (n ∷ (f ∷ (a ∷ []))))) t h = absurd (omega arith)
same_head (k ∷ (e ∷ (n ∷ (f ∷ (a ∷ (b ∷ [])))))) t h = absurd (omega arith)
same_head (k ∷ (e ∷ (n ∷ (f ∷ (a ∷ (b ∷ (c ∷ []))))))) t h = absurd (omega arith)
same_head (k ∷ (e ∷ (n ∷ (f ∷ (a ∷ (b ∷ (c ∷ (d ∷ s)))))))) t h =
    let l : List ℕ = k ∷ (e ∷ (n ∷ (f ∷ (a ∷ (b ∷ (c ∷ (d ∷ []))))))) in
    rw (le-leb 8 (length (l ++ t)) (omega arith), le-leb 8 (length (l ++ s)) (omega arith))

pub head-place : (s : List ℕ) → 8 ≤ length s → head_fine s ≡ false → PlaceOf10 s 0
head-place s w f =
    record {
      inside = omega arith;
      before = record { rest = bytes_of (postfix some-rule); rule = record { tree = some-rule; limits = (tt, (tt, tt)); bytes = refl } };
      here = λ g d. true-false (sym (rule-head d.rule) ∙ same_head s d.rest w ∙ f);
      end = λ g r. absurd (omega arith);
    }

-- ---- and the place is one
begins-before : (xs ys : List ℕ) → Begins (xs ++ ys) → Begins xs
begins-before xs ys b = record { rest = ys ++ b.rest; rule = rw (append_assoc xs ys b.rest) at b.rule }

begins-take : (s : List ℕ) (i j : ℕ) → i ≤ j → Begins (take j s) → Begins (take i s)
begins-take s i j h b =
    let e : i + (j - i) ≡ j = omega arith in
    begins-before (take i s) (take (j - i) (drop i s)) (rw (← take-add i (j - i) s, e) b)

before-not : (s : List ℕ) (p q : ℕ) → PlaceOf10 s p → PlaceOf10 s q → p < q → ⊥
before-not s p q a b h =
    let i : q * 8 ≤ length s = b.inside in
    a.here (omega arith) (begins-take s (suc p * 8) (q * 8) (omega arith) b.before)

pub place-one : {s : List ℕ} {p q : ℕ} → PlaceOf10 s p → PlaceOf10 s q → p ≡ q
place-one {s} {p} {q} a b =
    elim (dec_lt p q) [
      | yes h ↦ absurd (before-not s p q a b h)
      | no h ↦ elim (dec_lt q p) [ yes g ↦ absurd (before-not s q p b a g) | no g ↦ omega arith ]
    ]

-- bytes that are a rule have none
pub no_place : {s : List ℕ} {p : ℕ} → IsRule s → PlaceOf10 s p → ⊥
no_place {s} {p} r a =
    elim (dec_lt (p * 8) (length s)) [
      | yes h ↦ a.here h (record { rest = drop (suc p * 8) s; rule = rw (take-append-drop (suc p * 8) s) r })
      | no h ↦ let i = a.inside in a.end (omega arith) r
    ]
