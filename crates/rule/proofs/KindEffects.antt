-- What the frame of a kind byte takes and leaves. Assumes nothing.
use mathlib.Core.Path.{◌≡◌, refl, ap, subst}
use Prim.Native.Nat.{ℕ, ◌≤◌, ◌<◌}
use Rattle.numbers.proofs.Ranges.{each}
use Rattle.rule.specs.Frames.{absolute, negation, kind_of, Effect, sum_of, cond_of, relates, no_rule, effect}
use Rattle.rule.specs.Stack.{SumsFor, EnoughSums}
use Rattle.rule.proofs.FrameKinds.{kind_at, arithmetic-at, relation-at, connective-at, none_00, none_04, none_15, none_27, none_35}

module _ (b : ℕ) where
  pub operands_leave : 1 ≤ b → b < 4 → effect (kind_of b) ≡ sum_of 0
  unfolding kind_of
  operands_leave h k = each (λ x. effect (kind_of x) ≡ sum_of 0) 1 3 b (refl, (refl, (refl, tt))) h k

  pub arithmetic_leaves : 17 ≤ b → b < 20 → effect (kind_of b) ≡ sum_of 2
  arithmetic_leaves h k = ap effect (arithmetic-at b h k)

  pub absolute_leaves : b ≡ 20 → effect (kind_of b) ≡ sum_of 1
  absolute_leaves e = ap effect (kind_at absolute b e)

  pub relations_leave : 33 ≤ b → b < 39 → effect (kind_of b) ≡ relates
  relations_leave h k = ap effect (relation-at b h k)

  pub negation_leaves : b ≡ 49 → effect (kind_of b) ≡ cond_of 1
  negation_leaves e = ap effect (kind_at negation b e)

  pub connectives_leave : 50 ≤ b → b < 53 → effect (kind_of b) ≡ cond_of 2
  connectives_leave h k = ap effect (connective-at b h k)

  pub first_none : b < 1 → effect (kind_of b) ≡ no_rule
  first_none h = ap effect (none_00 b h)

  pub second_none : 4 ≤ b → b < 17 → effect (kind_of b) ≡ no_rule
  second_none h k = ap effect (none_04 b h k)

  pub third_none : 21 ≤ b → b < 33 → effect (kind_of b) ≡ no_rule
  third_none h k = ap effect (none_15 b h k)

  pub fourth_none : 39 ≤ b → b < 49 → effect (kind_of b) ≡ no_rule
  fourth_none h k = ap effect (none_27 b h k)

  pub last_none : 53 ≤ b → b < 256 → effect (kind_of b) ≡ no_rule
  last_none h k = ap effect (none_35 b h k)

  -- ---- the sums that a frame finds
  pub sums_of_arithmetic : (n : ℕ) → EnoughSums (kind_of b) n → 17 ≤ b → b < 20 → 2 ≤ n
  sums_of_arithmetic n e h k = subst (λ (f : Effect). SumsFor f n) (arithmetic_leaves h k) e

  pub sums_of_relation : (n : ℕ) → EnoughSums (kind_of b) n → 33 ≤ b → b < 39 → n ≡ 2
  sums_of_relation n e h k = subst (λ (f : Effect). SumsFor f n) (relations_leave h k) e

pub ruleset effects = (operands_leave, arithmetic_leaves, absolute_leaves, relations_leave, negation_leaves, connectives_leave, first_none, second_none, third_none, fourth_none, last_none)
