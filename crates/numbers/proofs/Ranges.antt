-- What holds of each number of a range. Assumes nothing.
use mathlib.Core.Path.{subst}
use mathlib.Core.Bool.{Bool, true, ◌&&◌}
use Prim.Native.Nat.{ℕ, zero, suc, ◌+◌, ◌≤◌, ◌<◌}
use native.Mathlib.Omega.{arith}
use native.Mathlib.Decide.{ℕ_discrete}
use lib.Dec.{T}
use Rattle.numbers.proofs.Bools.{and_l, and_r}

-- P of each of d numbers from lo on
abbrev pub AllFrom : (ℕ → Type 0) → ℕ → ℕ → Type 0
AllFrom P lo zero = Unit {0}
AllFrom P lo (suc d) = P lo × AllFrom P (suc lo) d

pub each : (P : ℕ → Type 0) (lo d b : ℕ) → AllFrom P lo d → lo ≤ b → b < lo + d → P b
each P lo zero b p h k = absurd (let z : b < lo + 0 = k in omega arith)
each P lo (suc d) b p h k =
    elim (ℕ_discrete lo b) [
      | yes e ↦ subst P e p.0
      | no n ↦ each P (suc lo) d b p.1 (omega (arith, n)) (omega arith)
    ]

-- the same by one computed test
abbrev pub all_from : (ℕ → Bool) → ℕ → ℕ → Bool
all_from f lo zero = true
all_from f lo (suc d) = f lo && all_from f (suc lo) d

pub tested : (f : ℕ → Bool) (lo d b : ℕ) → T (all_from f lo d) → lo ≤ b → b < lo + d → T (f b)
tested f lo zero b t h k = absurd (let z : b < lo + 0 = k in omega arith)
tested f lo (suc d) b t h k =
    elim (ℕ_discrete lo b) [
      | yes e ↦ subst (λ (x : ℕ). T (f x)) e (and_l (f lo) (all_from f (suc lo) d) t)
      | no n ↦ tested f (suc lo) d b (and_r (f lo) (all_from f (suc lo) d) t) (omega (arith, n)) (omega arith)
    ]
