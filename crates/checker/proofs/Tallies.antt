-- What 12 lets through of counts, p and totals, as facts; a line and a verdict keep them. Assumes nothing.
use Rattle.std.proofs.Common.{◌≡◌, ℕ, zero, suc, ◌+◌, ◌-◌, ◌<◌, ◌≤◌, Bool, true, false, cond, ◌&&◌, eqb, leb, ◌≢◌, List, [], ◌∷◌, get_or, set, sym, ◌∙◌, ⊎_elim, arith, get_or-set_other, eq-eqb, eqb-true, le-leb, leb-true}
use Rattle.numbers.proofs.Bools.{true-false, and-true, true-and}
use Rattle.rule.specs.Limits.{event_limit}
use Rattle.rule.specs.Tree.{Reference}
use Rattle.verdict.specs.Found.{instance_limit}
use Rattle.verdict.specs.declared.Verdict.{Verdict}
use Rattle.checker.specs.Limits.{line_limit}
use Rattle.checker.specs.Base.{referenced, base, first_instance}
use Rattle.checker.specs.State.{counted, totals_sum, Tally, count_of, with_line, with_verdict}
use Rattle.checker.specs.StateTest.{all_to, count_passes, totals_pass, tally_passes}
use Rattle.checker.specs.declared.Totals.{Totals}
use Rattle.checker.proofs.Choices.{cond_case, less_or, same_or, all_to-true}
use Rattle.checker.proofs.Bases.{base_mono}

-- ---- 12 of counts, p and totals, as facts
pub record Counts (refs : List Reference) (w : ℕ) (t : Tally) (e : ℕ) : Type 0 where
  pub few : count_of t e ≤ line_limit
  pub room : referenced refs e ≡ true → count_of t e ≤ base refs e t.next + w
  pub none : referenced refs e ≡ false → count_of t e ≡ 0

pub record Sound (refs : List Reference) (w : ℕ) (t : Tally) : Type 0 where
  pub counts : (e : ℕ) → e < 8 → Counts refs w t e
  pub low : t.next ≤ instance_limit
  pub begun : first_instance refs ≤ t.next
  pub sum : totals_sum t.totals ≡ t.next - first_instance refs

all-at : (n : ℕ) (f : ℕ → Bool) → all_to n f ≡ true → (e : ℕ) → e < n → f e ≡ true
unfolding all_to
all-at zero f h e l = absurd (omega arith)
all-at (suc n) f h e l =
    let a = and-true (f n) (all_to n f) h in
    ⊎_elim (λ (q : e < n). all-at n f a.1 e q) (λ (q : n ≤ e). let p : e ≡ n = omega arith in rw p a.0) (less_or e n)

pub totals_facts : (first p : ℕ) (t : Totals) → totals_pass first p t ≡ true → (first ≤ p) × (totals_sum t ≡ p - first)
totals_facts first p t e =
    let a = and-true (leb first p) (eqb (totals_sum t) (p - first)) e in
    (leb-true first p a.0, eqb-true (totals_sum t) (p - first) a.1)

module _ (refs : List Reference) (w : ℕ) (t : Tally) where
  count_facts : (e : ℕ) → count_passes refs w t e ≡ true → Counts refs w t e
  unfolding count_passes
  count_facts e h =
      let a = and-true (leb (count_of t e) line_limit) (cond (referenced refs e) (leb (count_of t e) (base refs e t.next + w)) (eqb (count_of t e) 0)) h in
      record {
        few = leb-true (count_of t e) line_limit a.0;
        room = λ q. leb-true (count_of t e) (base refs e t.next + w) (rw q at a.1);
        none = λ q. eqb-true (count_of t e) 0 (rw q at a.1);
      }

  count-good : (e : ℕ) → Counts refs w t e → count_passes refs w t e ≡ true
  unfolding count_passes
  count-good e c =
      true-and (leb (count_of t e) line_limit) _ (le-leb (count_of t e) line_limit c.few)
      (cond_case (λ (b : Bool). b ≡ true) (referenced refs e) _ _
      (λ q. le-leb (count_of t e) (base refs e t.next + w) (c.room q))
      (λ q. eq-eqb (count_of t e) 0 (c.none q)))

  pub tally_facts : tally_passes refs w t ≡ true → Sound refs w t
  unfolding tally_passes
  tally_facts h =
      let first = first_instance refs in
      let a = and-true (all_to event_limit (count_passes refs w t)) (leb t.next instance_limit && totals_pass first t.next t.totals) h in
      let b = and-true (leb t.next instance_limit) (totals_pass first t.next t.totals) a.1 in
      let c = totals_facts first t.next t.totals b.1 in
      record {
        counts = λ e l. count_facts e (all-at 8 (count_passes refs w t) a.0 e l);
        low = leb-true t.next instance_limit b.0;
        begun = c.0;
        sum = c.1;
      }

  pub tally-good : Sound refs w t → tally_passes refs w t ≡ true
  unfolding tally_passes
  tally-good x =
      true-and _ _ (all_to-true 8 (count_passes refs w t) (λ e l. count-good e (x.counts e l)))
      (true-and _ _ (le-leb t.next instance_limit x.low)
      (true-and _ _ (le-leb (first_instance refs) t.next x.begun) (eq-eqb (totals_sum t.totals) (t.next - first_instance refs) x.sum)))

-- ---- a line is taken
set-most : (xs : List ℕ) (e v : ℕ) → get_or (set xs e v) e 0 ≤ v
set-most [] e v = omega arith
set-most (x ∷ xs) zero v = omega arith
set-most (x ∷ xs) (suc e) v = set-most xs e v

module _ (refs : List Reference) (w : ℕ) (t : Tally) (x : Sound refs w t) where
  count-line : (e f : ℕ) → f < 8 → referenced refs e ≡ true → count_of t e < line_limit → count_of t e < base refs e t.next + w → Counts refs w (with_line t e) f
  count-line e f l r h₁ h₂ = ⊎_elim same other (same_or f e)
    where
      same : f ≡ e → Counts refs w (with_line t e) f
      same q =
          let m : get_or (set t.counts e (count_of t e + 1)) e 0 ≤ count_of t e + 1 = set-most t.counts e (count_of t e + 1) in
          rw q (record { few = omega arith; room = λ _. omega arith; none = λ z. absurd (true-false (sym r ∙ z)) })

      other : f ≢ e → Counts refs w (with_line t e) f
      other q =
          let m : count_of (with_line t e) f ≡ count_of t f = get_or-set_other t.counts e f (count_of t e + 1) 0 q in
          let c = x.counts f l in
          record { few = rw m c.few; room = λ z. rw m (c.room z); none = λ z. m ∙ c.none z }

  pub sound-line : (e : ℕ) → referenced refs e ≡ true → count_of t e < line_limit → count_of t e < base refs e t.next + w → Sound refs w (with_line t e)
  sound-line e r h₁ h₂ = record { counts = λ f l. count-line e f l r h₁ h₂; low = x.low; begun = x.begun; sum = x.sum }

-- ---- a verdict is given
pub sum-counted : (t : Totals) (v : Verdict) → totals_sum (counted t v) ≡ totals_sum t + 1
sum-counted t Verdict.True = omega arith
sum-counted t Verdict.False = omega arith
sum-counted t Verdict.Unknown = omega arith

pub sound-verdict : (refs : List Reference) (w : ℕ) (t : Tally) (v : Verdict) → Sound refs w t → t.next < instance_limit → Sound refs w (with_verdict t v)
sound-verdict refs w t v x l =
    record {
      counts = λ e h. let c = x.counts e h in record {
        few = c.few;
        room = λ q. omega (arith, c.room q, base_mono refs e t.next (t.next + 1) (omega arith));
        none = c.none;
      };
      low = omega arith;
      begun = omega (arith, x.begun);
      sum = sum-counted t.totals v ∙ omega (arith, x.begun, x.sum);
    }
