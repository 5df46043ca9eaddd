-- What the evaluator's inner functions require. No public contract cites it.
-- Assumes nothing: definitions.
use Rattle.std.specs.Prelude.{◌≡◌, true, List, [], ◌∷◌, ℕ, ◌+◌, ◌*◌, ◌≤◌, ◌<◌, ℤ, nat_abs, length}
use Rattle.rule.specs.Limits.{frame_limit, frame_bytes, decimal_limit, magnitude_limit}
use Rattle.rule.specs.Frames.{Arithmetic, add, subtract, multiply, Kind, frame_count}
use Rattle.rule.specs.Decimals.{Term, left_side, right_side}
use Rattle.rule.specs.Order.{Orderly}
use Rattle.rule.specs.Sizes.{sizes_fit}
use Rattle.rule.specs.Stack.{all_decimals, EnoughSums, EnoughConds}
use Rattle.verdict.specs.Found.{instance_limit}
use Rattle.verdict.specs.Value.{times_z, computed}
use Rattle.verdict.specs.declared.evaluate.Pass.{Pass}

-- "None exceeds 2^62, so arithmetic is exact": every value fits 64 bits
abbrev pub Small : List (Term ℤ) → Type 0
Small [] = Unit {0}
Small (v ∷ vs) = (nat_abs v.amount ≤ magnitude_limit) × Small vs

-- two values fit, brought "to the greater count"
abbrev pub BothSmall : Term ℤ → Term ℤ → Type 0
BothSmall x y = (nat_abs (left_side times_z x y) ≤ magnitude_limit) × (nat_abs (right_side times_z x y) ≤ magnitude_limit)

-- so the two on top
abbrev pub SmallSides : List (Term ℤ) → Type 0
SmallSides [] = Unit {0}
SmallSides (y ∷ []) = Unit {0}
SmallSides (y ∷ (x ∷ vs)) = BothSmall x y

-- of a frame that brings them: "Sums and relations"
abbrev pub SidesFor : Kind → List (Term ℤ) → Type 0
SidesFor (Kind.operand s) vs = Unit {0}
SidesFor (Kind.arithmetic add) vs = SmallSides vs
SidesFor (Kind.arithmetic subtract) vs = SmallSides vs
SidesFor (Kind.arithmetic multiply) vs = Unit {0}
SidesFor Kind.absolute vs = Unit {0}
SidesFor (Kind.relation r) vs = SmallSides vs
SidesFor Kind.negation vs = Unit {0}
SidesFor (Kind.connective j) vs = Unit {0}
SidesFor Kind.none vs = Unit {0}

-- few decimals, for "at most 64 frames" of at most 6 each
abbrev pub FewDecimals : List (Term ℤ) → Type 0
FewDecimals vs = all_decimals vs ≤ decimal_limit * frame_limit

-- what a step requires: room, for "at most 64 frames", the sums and conditions that its kind needs, few decimals, and small values
-- on the way and after it
pub record Begun (o : Kind) (p next : Pass) : Type 0 where
  pub room : length p.sums < frame_limit
  pub room_c : length p.conds < frame_limit
  pub ready : EnoughSums o (length p.sums)
  pub ready_c : EnoughConds o (length p.conds)
  pub few : FewDecimals p.sums
  pub sides : SidesFor o p.sums
  pub small : Small next.sums

-- what joining two values requires
pub record Joinable (o : Arithmetic) (x y : Term ℤ) : Type 0 where
  pub few : x.decimals + y.decimals ≤ decimal_limit * frame_limit
  pub sides : SidesFor (Kind.arithmetic o) (y ∷ (x ∷ []))
  pub small : nat_abs (computed o x y).amount ≤ magnitude_limit

-- what judge_body requires: frames that 10 and 8 leave, not "p over 1,009,999", an entry for each frame
pub record BodyJudgeable (scale : ℕ) (s : List ℕ) (i : ℕ) (marks : List ℕ) (notes : List ℤ) : Type 0 where
  pub short : length s ≤ frame_limit * frame_bytes
  pub scale_in : scale ≤ decimal_limit
  pub order : Orderly s
  pub sizes : sizes_fit scale s ≡ true
  pub instance_in : i ≤ instance_limit
  pub marked : frame_count s ≤ length marks
  pub noted : frame_count s ≤ length notes
