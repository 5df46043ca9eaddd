-- The place of refusal 10 over a list of frames. Assumes nothing.
use mathlib.Core.Path.{◌≡◌, refl, sym, ap, ◌∙◌, subst}
use mathlib.Core.Bool.{Bool, true, false, ◌&&◌, cond}
use mathlib.Core.Option.{Option}
use mathlib.Core.List.{List, [], ◌∷◌, ◌++◌}
use Prim.Native.Nat.{ℕ, zero, suc, ◌≤◌, ◌<◌}
use native.Mathlib.Nat.{le_refl}
use native.Mathlib.Omega.{arith}
use lib.Dec.{eqb}
use lib.ListN.{length, take}
use lib.Seq.{take-length}
use borrow.Author.Tests.{le-leb}
use Rattle.std.specs.Prelude.{Option as Maybe, Some, None}
use Rattle.std.specs.Prelude.{Ok, Err}
use Rattle.rule.specs.Frames.{Source, Arithmetic, Relation, Connective, Kind, kind_of, bare, frame_at, frame_count}
use Rattle.rule.specs.References.{reference_count}
use Rattle.rule.specs.Scale.{literal_decimals}
use Rattle.rule.specs.Order.{good, frame_step, Prefix, viable, stuck, order_at, order_next, prefix_at, ended, order_of}
use Rattle.rule.specs.declared.Frame.{Frame}
use Rattle.rule.specs.declared.order.Shape.{Shape}
use Rattle.rule.proofs.FrameLists.{frames_of, frames-length, runs, runs_append, AllOctets, all_append, all_take}
use Rattle.rule.proofs.FrameParsing.{ordered, shape_of, order-to, order-all, bad-stays, BodyRule, rule-of}
use Rattle.rule.proofs.FrameRules.{order-rule, rule-order, bare-octets}

order-at-stuck : (i : ℕ) (h : Maybe Shape) (p : ℕ) → order_at i h ≡ stuck p → i ≡ p
order-at-stuck i (Some h) p e = cc
order-at-stuck i None p e = cc

-- some frames more make a body
pub record BeginsF (z : Option ℕ) (fs : List Frame) : Type 0 where
  pub rest : List Frame
  pub rule : BodyRule z (fs ++ rest)

-- the place of the first frame that with those before it begins none
pub record PlaceF (z : Option ℕ) (fs : List Frame) (p : ℕ) : Type 0 where
  pub inside : p ≤ length fs
  pub before : BeginsF z (take p fs)
  pub here : p < length fs → BeginsF z (take (suc p) fs) → ⊥
  pub end : p ≡ length fs → BodyRule z fs → ⊥

module _ (z : Option ℕ) where
  -- ---- from any counts some frames lead to a rule
  record Completion (c k : ℕ) : Type 0 where
    more : List Frame
    octets : AllOctets more
    whole : runs (ordered z) more (good c k) ≡ good 1 0

  one_more_lem : (o : Kind) (c k c' k' : ℕ) → (ordered z) (bare o) (good c k) ≡ good c' k' → Completion c' k' → Completion c k
  one_more_lem o c k c' k' e r = record { more = bare o ∷ r.more; octets = (bare-octets o, r.octets); whole = ap (runs (ordered z) r.more) e ∙ r.whole }

  joined : (c : ℕ) → Completion (suc c) 0
  unfolding kind_of
  joined zero = record { more = []; octets = tt; whole = refl }
  joined (suc c) =
      one_more_lem (Kind.connective Connective.and) (suc (suc c)) 0 (suc c) 0
      (rw (le-leb 2 (suc (suc c)) (omega arith)) (ap (λ (x : ℕ). good x 0) (omega arith))) (joined c)

  related : (c : ℕ) → Completion c 2
  unfolding kind_of
  related c = one_more_lem (Kind.relation Relation.equal) c 2 (suc c) 0 (ap (λ (x : ℕ). good x 0) (omega arith)) (joined c)

  summed : (c k : ℕ) → Completion c (suc (suc k))
  unfolding kind_of
  summed c zero = related c
  summed c (suc k) =
      one_more_lem (Kind.arithmetic Arithmetic.add) c (suc (suc (suc k))) c (suc (suc k))
      (rw (le-leb 2 (suc (suc (suc k))) (omega arith)) (ap (good c) (omega arith))) (summed c k)

  single : (c : ℕ) → Completion c 1
  unfolding kind_of
  single c = one_more_lem (Kind.operand Source.instance) c 1 c 2 refl (related c)

  completes : (c k : ℕ) → Completion c k
  unfolding kind_of
  completes zero zero = one_more_lem (Kind.operand Source.instance) 0 0 0 1 refl (single 0)
  completes (suc c) zero = joined c
  completes c (suc zero) = single c
  completes c (suc (suc k)) = summed c k

  -- ---- frames begin a rule exactly where the pass has not stuck
  good-begins : (fs : List Frame) (c k : ℕ) → AllOctets fs → runs (ordered z) fs (good 0 0) ≡ good c k → BeginsF z fs
  good-begins fs c k ok g =
      let r : Completion c k = completes c k in
      record {
        rest = r.more;
        rule = rule-of z (fs ++ r.more) (all_append fs r.more ok r.octets) (runs_append (ordered z) fs r.more (good 0 0) ∙ ap (runs (ordered z) r.more) g ∙ r.whole);
      }

  bad-begins : (fs : List Frame) → runs (ordered z) fs (good 0 0) ≡ None → BeginsF z fs → ⊥
  bad-begins fs g b =
      let r : BodyRule z (fs ++ b.rest) = b.rule in
      let e : runs (ordered z) (fs ++ b.rest) (good 0 0) ≡ good 1 0 = ap (λ (x : List Frame). runs (ordered z) x (good 0 0)) r.frames ∙ order-rule z r.tree r.limits in
      let d : runs (ordered z) (fs ++ b.rest) (good 0 0) ≡ None = runs_append (ordered z) fs b.rest (good 0 0) ∙ ap (runs (ordered z) b.rest) g ∙ bad-stays z b.rest in
      let g : None ≡ good 1 0 = sym d ∙ e in
      let y : ◌≡◌ {A = ℕ} 0 1 = cc in
      omega arith

  -- ---- where the pass stuck
  record Stuck (s : List ℕ) (p n : ℕ) : Type 0 where
    below : p < n
    conds : ℕ
    sums : ℕ
    good : prefix_at (literal_decimals z) s p ≡ viable conds sums
    bad : prefix_at (literal_decimals z) s (suc p) ≡ stuck p

  stuck-next : (s : List ℕ) (p n : ℕ) (q : Prefix) → prefix_at (literal_decimals z) s n ≡ q → (prefix_at (literal_decimals z) s n ≡ stuck p → Stuck s p n) → order_next (literal_decimals z) n (frame_at s n) q ≡ stuck p → Stuck s p (suc n)
  stuck-next s p n (viable c k) e ih g =
      let i : n ≡ p = order-at-stuck n (frame_step (literal_decimals z) (frame_at s n) c k) p g in
      subst (λ (x : ℕ). Stuck s x (suc n)) i
      (record { below = le_refl (suc n); conds = c; sums = k; good = e; bad = ap (order_next (literal_decimals z) n (frame_at s n)) e ∙ g ∙ ap stuck (sym i) })
  stuck-next s p n (stuck q) e ih g =
      let r : Stuck s p n = ih (e ∙ g) in
      let l : p < n = r.below in
      record { below = omega arith; conds = r.conds; sums = r.sums; good = r.good; bad = r.bad }

  stuck-from : (s : List ℕ) (p n : ℕ) → prefix_at (literal_decimals z) s n ≡ stuck p → Stuck s p n
  stuck-from s p zero e = absurd (let z : ◌≡◌ {A = ℕ} 0 1 = cc in omega arith)
  stuck-from s p (suc n) e = stuck-next s p n (prefix_at (literal_decimals z) s n) refl (stuck-from s p n) e

  -- ---- the place
  module _ (s : List ℕ) (ok : AllOctets (frames_of s)) where
    place-by : (p : ℕ) (q : Prefix) → prefix_at (literal_decimals z) s (frame_count s) ≡ q → ended (frame_count s) (reference_count s) q ≡ Err p → order_of (literal_decimals z) s ≡ Err p → PlaceF z (frames_of s) p
    place-by p (stuck x) e g f =
        let i : x ≡ p = cc in
        let r : Stuck s p (frame_count s) = stuck-from s p (frame_count s) (e ∙ ap stuck i) in
        let l : length (frames_of s) ≡ frame_count s = frames-length s in
        let b : p < frame_count s = r.below in
        record {
          inside = omega arith;
          before = good-begins (take p (frames_of s)) r.conds r.sums (all_take p (frames_of s) ok) (sym (order-to z s p (omega arith)) ∙ ap shape_of r.good);
          here = λ h. bad-begins (take (suc p) (frames_of s)) (sym (order-to z s (suc p) (omega arith)) ∙ ap shape_of r.bad);
          end = λ h. absurd (omega arith);
        }
    place-by p (viable c k) e g f =
        let l : length (frames_of s) ≡ frame_count s = frames-length s in
        let i : p ≡ frame_count s = at_end (frame_count s) (reference_count s) (eqb c 1 && eqb k 0) g in
        let j : p ≡ length (frames_of s) = omega arith in
        let b : BeginsF z (frames_of s) = good-begins (frames_of s) c k ok (sym (order-all z s) ∙ ap shape_of e) in
        record {
          inside = omega arith;
          before = rw (j, take-length (frames_of s)) b;
          here = λ h. absurd (omega arith);
          end = λ h r. never (reference_count s) (sym (rule-order z s r) ∙ f);
        }
      where
        at_end : (n m : ℕ) (t : Bool) → cond t (Ok m) (Err n) ≡ Err p → p ≡ n
        at_end n m true g = cc
        at_end n m false g = cc

        never : (m : ℕ) → Ok m ≡ Err p → ⊥
        never m z = let y : ◌≡◌ {A = ℕ} 0 1 = cc in omega arith

    pub place : (p : ℕ) → order_of (literal_decimals z) s ≡ Err p → PlaceF z (frames_of s) p
    unfolding order_of
    place p f = place-by p (prefix_at (literal_decimals z) s (frame_count s)) refl f f
