-- Refusal 10: which frames begin a rule, and the place of the first that does not.
-- Of the sums and conditions that the frames so far have made, c conditions stand below k sums; no others begin a rule.
-- From document 01, "What is turned down", 10. Assumes nothing: definitions.
use Rattle.std.specs.Prelude.{◌≡◌, ◌&&◌, cond, List, ℕ, zero, suc, ◌+◌, ◌-◌, ◌≤◌, leb, eqb}
use Rattle.std.specs.Prelude.{Option, Some, None, Result, Ok, Err}
use Rattle.rule.specs.Limits.{decimal_limit}
use Rattle.rule.specs.Frames.{Kind, kind_of, Effect, sum_of, cond_of, relates, no_rule, effect, frame_at, frame_count, fields_of}
use Rattle.rule.specs.References.{reference_count}
use Rattle.rule.specs.declared.Frame.{Frame}
use Rattle.rule.specs.declared.order.Shape.{Shape}

-- so many conditions below so many sums
abbrev pub good : ℕ → ℕ → Option Shape
good c k = Some (record { conditions = c; sums = k })

-- the counts with a frame more, by what it takes and leaves
abbrev pub stepped : Effect → ℕ → ℕ → Option Shape
stepped (sum_of n) c k = cond (leb n k) (good c (k - n + 1)) None
stepped (cond_of n) c k = cond (leb n c && eqb k 0) (good (c - n + 1) 0) None
stepped relates c k = cond (eqb k 2) (good (c + 1) 0) None
stepped no_rule c k = None

-- by its kind: "each operand a sum or a condition as the grammar has it"
abbrev pub step_by : Kind → ℕ → ℕ → Option Shape
step_by o = stepped (effect o)

-- the counts after the first frames; or the place of the first frame that with those before it begins no rule
pub data Prefix : Type 0 where
  viable : ℕ → ℕ → Prefix
  stuck : ℕ → Prefix

-- what the frame at i leaves
abbrev pub order_at : ℕ → Option Shape → Prefix
order_at i (Some h) = viable h.conditions h.sums
order_at i None = stuck i

-- a rule with so many references, or the place: "their count if only the end is wrong"
abbrev pub ended : ℕ → ℕ → Prefix → Result ℕ ℕ
ended n m (viable c k) = cond (eqb c 1 && eqb k 0) (Ok m) (Err n)
ended n m (stuck p) = Err p

-- of frames behind the head, where a literal has at most so many decimals
module _ (most : ℕ) where
  -- no rule where the fields are not the kind's
  abbrev pub step_in : Kind → Frame → ℕ → ℕ → Option Shape
  step_in o x c k = cond (fields_of most o x) (step_by o c k) None

  -- the same of a frame, by its kind byte
  abbrev pub frame_step : Frame → ℕ → ℕ → Option Shape
  frame_step x c k = step_in (kind_of x.kind) x c k

  -- one frame more; once no rule begins, none does
  abbrev pub order_next : ℕ → Frame → Prefix → Prefix
  order_next i x (viable c k) = order_at i (frame_step x c k)
  order_next i x (stuck p) = stuck p

  -- after the first i frames
  abbrev pub prefix_at : List ℕ → ℕ → Prefix
  prefix_at s zero = viable 0 0
  prefix_at s (suc i) = order_next i (frame_at s i) (prefix_at s i)

  -- the order and the fields of all frames
  unfoldable pub order_of : List ℕ → Result ℕ ℕ
  order_of s = ended (frame_count s) (reference_count s) (prefix_at s (frame_count s))

  -- 10 does not hold
  abbrev pub InOrder : List ℕ → Type 0
  InOrder s = order_of s ≡ Ok (reference_count s)

-- so of some frames behind a head, whatever the scale
pub record Orderly (s : List ℕ) : Type 0 where
  pub most : ℕ
  pub few : most ≤ decimal_limit
  pub order : InOrder most s
