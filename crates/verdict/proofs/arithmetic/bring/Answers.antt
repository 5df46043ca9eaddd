-- `verdict::arithmetic::bring` meets its contract. Assumes nothing.
use mathlib.Core.Path.{◌≡◌, ap, ◌∙◌}
use Prim.Native.Nat.{ℕ, ◌^◌, ◌≤◌}
use native.Mathlib.Omega.{arith}
use borrow.Author.Rules.{sfits_of}
use lib.IntN.{ℤ, pos, ◌*ℤ◌}
use mir.ValLaws.{to_z-of_z}
use mir.Facts.{to_z_pos}
use mir.Syntax.{w64}
use mir.Val.{to_z}
use Rattle.rule.proofs.Laws.{ten-over}
use Rattle.verdict.proofs.Numbers.{small-fits, nothing-times, ten-fits}
use Rattle.verdict.proofs.arithmetic.bring.Goals as goal

-- a power of ten as a signed number
power : (e n : ℕ) (z : ℤ) → e ≤ 18 → n ≡ 10 ^ e → z ≡ to_z w64 n → z ≡ pos (10 ^ e)
power e n z h p q = let f = ten-fits e h in q ∙ to_z_pos w64 {n = n} (omega arith) ∙ ap pos p

pub overflow_mul-result : goal.overflow_mul-result
overflow_mul-result c =
    let a = c.args in
    let p = c.cast_signed in
    rw (to_z-of_z w64 a.a c.ranges.a, to_z-of_z w64 p.result (sfits_of p.type_inv), power a.e c.ten_to.result p.result (omega arith) c.ten_to.ensures p.ensures) (small-fits (a.a *ℤ pos (10 ^ a.e)) c.requires)

pub returns-in-1-to-18 : goal.returns-in-1-to-18
returns-in-1-to-18 c =
    let a = c.args in
    let p = c.cast_signed in
    to_z-of_z w64 _ (overflow_mul-result c)
    ∙ rw (to_z-of_z w64 a.a c.ranges.a, to_z-of_z w64 p.result (sfits_of p.type_inv), power a.e c.ten_to.result p.result (omega arith) c.ten_to.ensures p.ensures)

pub returns-in_default : goal.returns-in_default
returns-in_default c = nothing-times c.args.a (10 ^ c.args.e) (ten-over c.args.e (omega arith)) c.requires
