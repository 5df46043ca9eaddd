-- The answer of `read`, case by case. Assumes nothing.
use mathlib.Core.Path.{◌≡◌, refl}
use mathlib.Core.Bool.{true, false}
use mathlib.Core.List.{List}
use Prim.Native.Nat.{ℕ, ◌+◌, ◌-◌, ◌*◌, ◌≤◌, ◌<◌, zero-le}
use native.Mathlib.Omega.{arith}
use Rattle.std.proofs.Common.{Some, None}
use borrow.Author.Tests.{ne_eqb, lt-ltb, le-ltb}
use lib.ListN.{length, take, replicate}
use Rattle.rule.specs.Token.{declares, tokens}
use Rattle.rule.specs.Machine.{start, MachineAnswer}
use Rattle.rule.specs.Memory.{Mem, fresh, listed, spot, mem}
use Rattle.rule.specs.ReadsPart.{run_from}
use Rattle.rule.specs.Check.{checked_of}
use Rattle.rule.specs.Reading.{judged, after_check, concluded, after_grammar, read_of}
use Rattle.rule.specs.ReadTold as reading
use Rattle.rule.specs.declared.memory.Registers.{Registers}
use Rattle.rule.proofs.TokenLists.{rising}
use Rattle.rule.proofs.ReaderEnd.{Kept, OkA, run_ok}

-- ---- 4 to 8 and 18
one-less : (at : ℕ) → at + 1 - 1 ≡ at
one-less at = omega arith

module _ (b : List ℕ) (t : Registers) (tb bytes : List ℕ) where
  pub four : (at : ℕ) → t.name ≡ Some at → concluded b (mem t tb bytes) ≡ (reading.refused 4 at, b)
  unfolding mem
  four at h = rw (h, ne_eqb (at + 1) 0 (λ e. omega arith), one-less at)

  pub five : (at : ℕ) → t.name ≡ None → t.number ≡ Some at → concluded b (mem t tb bytes) ≡ (reading.refused 5 at, b)
  unfolding mem
  five at e h = rw (e, h, ne_eqb (at + 1) 0 (λ e. omega arith), one-less at)

  pub eighteen : (at : ℕ) → t.name ≡ None → t.number ≡ None → t.decimals ≡ Some at → concluded b (mem t tb bytes) ≡ (reading.refused 18 at, b)
  unfolding mem
  eighteen at e f h = rw (e, f, h, ne_eqb (at + 1) 0 (λ e. omega arith), one-less at)

  pub six-deep : t.name ≡ None → t.number ≡ None → t.decimals ≡ None → t.deep ≡ true → concluded b (mem t tb bytes) ≡ (reading.refused 6 0, b)
  unfolding mem
  six-deep e f i g = rw (e, f, i, g)

  pub six-frames : t.name ≡ None → t.number ≡ None → t.decimals ≡ None → t.deep ≡ false → 64 < t.count → concluded b (mem t tb bytes) ≡ (reading.refused 6 0, b)
  unfolding mem
  six-frames e f i g h = rw (e, f, i, g, lt-ltb 64 t.count h)

  pub seven_eight : t.name ≡ None → t.number ≡ None → t.decimals ≡ None → t.deep ≡ false → t.count ≤ 64 → concluded b (mem t tb bytes) ≡ after_check b (mem t tb bytes) (checked_of (take (t.count * 8) bytes))
  unfolding mem
  seven_eight e f i g h = rw (e, f, i, g, le-ltb 64 t.count h)

-- ---- 1 to 3
module _ (text b : List ℕ) where
  pub one : (length b ≡ 512 → ⊥) → read_of text b ≡ (reading.refused 1 0, b)
  unfolding read_of
  one h = rw (ne_eqb (length b) 512 h)

  pub two_none : length b ≡ 512 → length text ≡ 0 → read_of text b ≡ (reading.refused 2 0, b)
  unfolding read_of
  two_none e f = rw (e, f)

  pub two-many : length b ≡ 512 → (length text ≡ 0 → ⊥) → 1024 < length text → read_of text b ≡ (reading.refused 2 0, b)
  unfolding read_of
  two-many e h l = rw (e, ne_eqb (length text) 0 h, lt-ltb 1024 (length text) l)

  pub three : (a : MachineAnswer Mem) → length b ≡ 512 → (length text ≡ 0 → ⊥) → length text ≤ 1024 → judged text ≡ a → read_of text b ≡ after_grammar b a
  unfolding read_of
  three a e h l q = rw (e, ne_eqb (length text) 0 h, le-ltb 1024 (length text) l, q)

-- ---- the machine's answer
-- the code begins with empty registers, whatever the table's places hold
pub starts : (text tb : List ℕ) (t : Registers) → (t.count ≡ 0) × ((t.deep ≡ false) × ((t.number ≡ None) × ((t.decimals ≡ None) × ((t.name ≡ None) × ((t.events ≡ 0) × (t.notes ≡ 0))))))
    → judged text ≡ run_from (declares 2) text start (mem t tb (replicate 512 0)) 0
unfolding judged run_from mem listed
starts text tb t e = rw (e.0, e.1.0, e.1.1.0, e.1.1.1.0, e.1.1.1.1.0, e.1.1.1.1.1.0, e.1.1.1.1.1.1)

pub judged_ok : (text : List ℕ) → OkA text (length text) (judged text)
unfolding judged
judged_ok text =
    run_ok text (length text) (tokens text) 0 (rising (declares 2) text 0 zero-le) start (fresh (replicate 512 0)) tt
    (record { name-within = zero-le; number-within = zero-le; decimals-within = zero-le; long = refl })

module _ (n : ℕ) (t : Registers) (tb b : List ℕ) where
  pub kept-name : Kept n (mem t tb b) → spot t.name ≤ n
  unfolding mem
  kept-name k = k.name-within

  pub kept-number : Kept n (mem t tb b) → spot t.number ≤ n
  unfolding mem
  kept-number k = k.number-within

  pub kept-decimals : Kept n (mem t tb b) → spot t.decimals ≤ n
  unfolding mem
  kept-decimals k = k.decimals-within
