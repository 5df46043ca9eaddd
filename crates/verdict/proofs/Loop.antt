-- The loop over the frames: what it holds, and that each step may be taken. Assumes nothing.
use mathlib.Core.Path.{◌≡◌, sym, ap, ◌∙◌, subst}
use mathlib.Core.List.{List}
use Prim.Native.Nat.{ℕ, suc, ◌+◌, ◌*◌, ◌≤◌, ◌<◌}
use native.Mathlib.Numerals.{add-one}
use native.Mathlib.Omega.{arith}
use lib.IntN.{ℤ, pos, nat_abs}
use lib.ListN.{length, get_or}
use Rattle.rule.specs.Limits.{decimal_limit, reference_magnitude}
use Rattle.rule.specs.Frames.{kind_of, frame_at, frame_count}
use Rattle.rule.specs.Order.{prefix_at}
use Rattle.rule.specs.Stack.{EnoughSums, EnoughConds, all_decimals}
use Rattle.rule.specs.declared.Frame.{Frame}
use Rattle.rule.proofs.Laws.{sums_of, conds_of, sums_le, conds_le, one_left, found}
use Rattle.verdict.specs.Settled.{judged_by}
use Rattle.verdict.specs.Pass.{pass_by, pass_at, first_t, body_judgement}
use Rattle.verdict.specs.Stacks.{Small, SidesFor, FewDecimals, Begun, BodyJudgeable}
use Rattle.verdict.specs.declared.evaluate.Pass.{Pass}
use Rattle.verdict.proofs.Bounds.{InSizes, sizes-next, small_at, sides-at, sums-length, decimals-at, conds-length}

-- after k frames
pub record Held (scale : ℕ) (s : List ℕ) (i : ℕ) (marks : List ℕ) (notes : List ℤ) (p : Pass) (k : ℕ) : Type 0 where
  pub within : InSizes scale s i marks notes k
  pub pass : pass_at scale s i marks notes k ≡ p

module _ (scale : ℕ) (s : List ℕ) (i : ℕ) (marks : List ℕ) (notes : List ℤ) (j : BodyJudgeable scale s i marks notes) (p : Pass) (k : ℕ) (h : Held scale s i marks notes p k) where
  abbrev most : ℕ
  most = j.order.most

  -- one frame more
  abbrev after : Frame → Pass → Pass
  after x p = pass_by scale (kind_of x.kind) x i (get_or marks k 0) (get_or notes k (pos 0)) p

  sums-are : k ≤ frame_count s → length p.sums ≡ sums_of (prefix_at most s k)
  sums-are le =
      ap (λ (p : Pass). length p.sums) (sym h.pass)
      ∙ sums-length most scale s i marks notes k le j.sizes j.order.order h.within

  conds-are : k ≤ frame_count s → length p.conds ≡ conds_of (prefix_at most s k)
  conds-are le =
      ap (λ (p : Pass). length p.conds) (sym h.pass)
      ∙ conds-length most scale s i marks notes k le j.order.order

  begun-at : nat_abs (get_or notes k (pos 0)) ≤ reference_magnitude → k < frame_count s
      → Begun (kind_of (frame_at s k).kind) p (after (frame_at s k) p)
  begun-at hn le =
      let e : length p.sums ≡ sums_of (prefix_at most s k) = sums-are (omega arith) in
      let f : length p.conds ≡ conds_of (prefix_at most s k) = conds-are (omega arith) in
      let m : sums_of (prefix_at most s k) ≤ k = sums_le most s k in
      let n : conds_of (prefix_at most s k) ≤ k = conds_le most s k in
      let d : all_decimals (pass_at scale s i marks notes k).sums ≤ decimal_limit * k = decimals-at most scale s i marks notes k j.order.few j.scale_in (omega arith) j.sizes j.order.order h.within in
      let b : FewDecimals (pass_at scale s i marks notes k).sums = omega (arith, j.short) in
      let q = found most s k le j.order.order in
      record {
        room = omega (arith, j.short);
        room_c = omega (arith, j.short);
        ready = subst (λ (x : ℕ). EnoughSums (kind_of (frame_at s k).kind) x) (sym e) q.sums;
        ready_c = subst (λ (x : ℕ). EnoughConds (kind_of (frame_at s k).kind) x) (sym f) q.conds;
        few = subst (λ (p : Pass). FewDecimals p.sums) h.pass b;
        sides = subst (λ (p : Pass). SidesFor (kind_of (frame_at s k).kind) p.sums) h.pass (sides-at scale s i marks notes k le j.sizes h.within);
        small = subst (λ (p : Pass). Small (after (frame_at s k) p).sums) h.pass
            (small_at scale s i marks notes (suc k) le j.sizes (sizes-next scale s i marks notes k j.instance_in hn h.within));
      }

  -- what a step requires, of the frame that was read
  pub begun : (x : Frame) → x ≡ frame_at s k → nat_abs (get_or notes k (pos 0)) ≤ reference_magnitude → k < frame_count s
      → Begun (kind_of x.kind) p (pass_by scale (kind_of x.kind) x i (get_or marks k 0) (get_or notes k (pos 0)) p)
  begun x e hn le = subst (λ (y : Frame). Begun (kind_of y.kind) p (after y p)) (sym e) (begun-at hn le)

  -- what it leaves
  pub again : (x : Frame) → x ≡ frame_at s k → nat_abs (get_or notes k (pos 0)) ≤ reference_magnitude
      → (q : Pass) → q ≡ pass_by scale (kind_of x.kind) x i (get_or marks k 0) (get_or notes k (pos 0)) p
      → Held scale s i marks notes q (k + 1)
  again x e hn q g =
      rw (add-one k)
      (record {
        within = sizes-next scale s i marks notes k j.instance_in hn h.within;
        pass = ap (after (frame_at s k)) h.pass ∙ ap (λ (y : Frame). after y p) (sym e) ∙ sym g;
      })

  -- at the end one condition is left
  pub one-cond : k ≡ frame_count s → length p.conds ≡ 1
  one-cond e = conds-are (omega arith) ∙ ap (λ (x : ℕ). conds_of (prefix_at most s x)) e ∙ ap conds_of (one_left most s j.order.order)

  pub last : k ≡ frame_count s → judged_by p.pending p.present (first_t p.conds) ≡ body_judgement scale s i marks notes
  unfolding body_judgement
  last e =
      sym (ap (λ (p : Pass). judged_by p.pending p.present (first_t p.conds)) h.pass)
      ∙ ap (λ (x : ℕ). judged_by (pass_at scale s i marks notes x).pending (pass_at scale s i marks notes x).present (first_t (pass_at scale s i marks notes x).conds)) e
