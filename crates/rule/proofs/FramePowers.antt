-- Laws of powers of ten. Assumes nothing.
use mathlib.Core.Path.{◌≡◌}
use Prim.Native.Nat.{ℕ, zero, suc, ◌+◌, ◌-◌, ◌*◌, ◌^◌, ◌≤◌, ◌<◌}
use native.Mathlib.Nat.{pow-suc}
use native.Mathlib.Omega.{arith}
use Rattle.rule.specs.Limits.{magnitude_limit}

pub ten-more : (e : ℕ) → 10 ^ suc e ≡ 10 ^ e * 10
ten-more e = pow-suc 10 e

pub ten-some : (e : ℕ) → 1 ≤ 10 ^ e
ten-some zero = omega arith
ten-some (suc e) = let h = ten-some e in let q = ten-more e in omega arith

-- past the greatest power below 2^62
over_19 : (d : ℕ) → magnitude_limit < 10 ^ (d + 19)
over_19 zero = omega arith
over_19 (suc d) = let e : suc d + 19 ≡ suc (d + 19) = omega arith in rw e (let h = over_19 d in let q = ten-more (d + 19) in omega arith)

pub ten-over : (e : ℕ) → 18 < e → magnitude_limit < 10 ^ e
ten-over e h = let d : (e - 19) + 19 ≡ e = omega arith in rw d at (over_19 (e - 19))
