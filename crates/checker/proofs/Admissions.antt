-- Laws of what 12, 13 and 27 let through. Assumes nothing.
use Rattle.std.proofs.Common.{◌≡◌, ℕ, true, false, List, length, ℤ, ap, arith, eqb-true}
use Rattle.checker.specs.Limits.{window_words}
use Rattle.checker.specs.Answer.{refused}
use Rattle.checker.specs.Open.{window_fits}
use Rattle.checker.specs.StateTest.{state_passes}
use Rattle.checker.specs.Sum.{sum_of, sum_fits}
use Rattle.checker.specs.Refusals.{refusal_number, refusal_place}
use Rattle.checker.specs.Admission.{Admission, admitted, barred, admission}
use Rattle.checker.specs.Feed.{not_fed, feed_def}
use Rattle.checker.specs.Pull.{not_pulled, pull_def}
use Rattle.checker.specs.declared.refusals.Refusal.{Refusal}
use Rattle.checker.specs.declared.State.{State}
use Rattle.checker.proofs.Choices.{cond_case}

-- the number of what is turned down
abbrev barred_with : Admission → ℕ
barred_with admitted = 0
barred_with (barred number) = number

module _ (s : State) (win : List ℤ) where
  -- the cases of the three tests, in their order
  pub tested : (P : Admission → Type 0) → (state_passes s ≡ false → P (barred 12)) → (state_passes s ≡ true → window_fits s.width win ≡ false → P (barred 13))
      → (state_passes s ≡ true → window_fits s.width win ≡ true → sum_fits s win ≡ false → P (barred 27))
      → (state_passes s ≡ true → window_fits s.width win ≡ true → sum_fits s win ≡ true → P admitted)
      → P (admission s win)
  unfolding admission
  tested P at-12 at-13 at-27 none =
      cond_case P (state_passes s) _ _
      (λ g. cond_case P (window_fits s.width win) _ _
      (λ l. cond_case P (sum_fits s win) _ _ (none g l) (at-27 g l))
      (at-13 g))
      at-12

  -- what is let through passes all three
  through : barred_with (admission s win) ≡ 0 → (state_passes s ≡ true) × ((window_fits s.width win ≡ true) × (sum_fits s win ≡ true))
  through =
      tested (λ (a : Admission). barred_with a ≡ 0 → (state_passes s ≡ true) × ((window_fits s.width win ≡ true) × (sum_fits s win ≡ true)))
      (λ _ q. absurd (omega (arith, q)))
      (λ _ _ q. absurd (omega (arith, q)))
      (λ _ _ _ q. absurd (omega (arith, q)))
      (λ g l m _. (g, (l, m)))

  pub let_in : state_passes s ≡ true → window_fits s.width win ≡ true → sum_fits s win ≡ true → admission s win ≡ admitted
  unfolding admission
  let_in g l m = rw (g, l, m)

  pub barred_27 : state_passes s ≡ true → window_fits s.width win ≡ true → sum_fits s win ≡ false → admission s win ≡ barred 27
  unfolding admission
  barred_27 g l m = rw (g, l, m)

  pub barred_13 : state_passes s ≡ true → window_fits s.width win ≡ false → admission s win ≡ barred 13
  unfolding admission
  barred_13 g l = rw (g, l)

  pub barred_12 : state_passes s ≡ false → admission s win ≡ barred 12
  unfolding admission
  barred_12 g = rw g

  -- what 27 bars passes the other two, and what 12 bars does not pass its own
  pub by_27 : admission s win ≡ barred 27 → (state_passes s ≡ true) × ((window_fits s.width win ≡ true) × (sum_fits s win ≡ false))
  by_27 e =
      tested (λ (a : Admission). barred_with a ≡ 27 → (state_passes s ≡ true) × ((window_fits s.width win ≡ true) × (sum_fits s win ≡ false)))
      (λ _ q. absurd (omega (arith, q)))
      (λ _ _ q. absurd (omega (arith, q)))
      (λ g l m _. (g, (l, m)))
      (λ _ _ _ q. absurd (omega (arith, q)))
      (ap barred_with e)

  pub by_12 : admission s win ≡ barred 12 → state_passes s ≡ false
  by_12 e =
      tested (λ (a : Admission). barred_with a ≡ 12 → state_passes s ≡ false)
      (λ g _. g)
      (λ _ _ q. absurd (omega (arith, q)))
      (λ _ _ _ q. absurd (omega (arith, q)))
      (λ _ _ _ q. absurd (omega (arith, q)))
      (ap barred_with e)

  pub in_good : admission s win ≡ admitted → state_passes s ≡ true
  in_good e = (through (ap barred_with e)).0

  pub in_long : admission s win ≡ admitted → length win ≡ window_words s.width
  in_long e = eqb-true (length win) (window_words s.width) (through (ap barred_with e)).1.0

  pub in_sum : admission s win ≡ admitted → s.sum ≡ sum_of win
  in_sum e = eqb-true s.sum (sum_of win) (through (ap barred_with e)).1.1

  -- what is barred is refused, and nothing changes
  module _ (why : Refusal) (e : barred (refusal_number why) ≡ admission s win) (none : refusal_place why ≡ 0) where
    pub feed-barred : (line : List ℕ) → not_fed s win (refused (refusal_number why) (refusal_place why)) ≡ feed_def s win line
    unfolding feed_def
    feed-barred line = rw (← e, none)

    pub pull-barred : (buffer : List ℕ) → not_pulled s buffer (refused (refusal_number why) (refusal_place why)) ≡ pull_def s win buffer
    unfolding pull_def
    pull-barred buffer = rw (← e, none)
