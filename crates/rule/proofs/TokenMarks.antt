-- Laws of `longest_mark`: a byte of class mark in no mark of two bytes is a mark of one byte, or no rule has it. Assumes nothing.
use mathlib.Core.Path.{◌≡◌}
use Prim.Native.Nat.{ℕ, ◌≤◌, ◌<◌}
use native.Mathlib.Omega.{arith}
use mathlib.Core.Bool.{cond}
use lib.Dec.{eqb}
use Rattle.numbers.proofs.Bools.{and-false}
use Rattle.std.proofs.lemmas.Bool.Decides.{nat_tests}
use Rattle.rule.specs.Class.{mark, among, one_byte_marks, class_of}
use Rattle.rule.specs.Token.{foreign_kind, one_byte_mark, two_byte_mark, longest_mark, mark_width}

-- a byte that is neither | nor & is a mark of one byte exactly if its class is mark
pub one_byte : (b : ℕ) → b < 256 → (b ≡ 124 → ⊥) → (b ≡ 38 → ⊥) → among one_byte_marks b ≡ eqb (class_of b) mark
unfolding class_of
one_byte b h p q = grind (arith, nat_tests)

-- so where two bytes are no mark of two, the first one's class tells
pub lone : (b n : ℕ) → b < 256 → (b ≡ 124 → ⊥) → (b ≡ 38 → ⊥) → two_byte_mark b n ≡ 0 → longest_mark b n ≡ cond (eqb (class_of b) mark) b foreign_kind
unfolding longest_mark
lone b n h p q z = rw (z, one_byte b h p q)

-- a mark has one byte or two
pub width_some : (k : ℕ) → (1 ≤ mark_width k) × (mark_width k ≤ 2)
unfolding mark_width
width_some k = grind arith

-- what is no mark of two bytes is a token of one byte
pub one_width : (b : ℕ) → mark_width (one_byte_mark b) ≡ 1
unfolding mark_width
one_width b = grind (arith, nat_tests)

-- so is a mark byte with 0 after it, as at the end of a text
pub width-alone : (b : ℕ) → mark_width (longest_mark b 0) ≡ 1
unfolding longest_mark
width-alone b = simp and-false (one_width b)

-- a mark's kind is neither that of the end nor a word's, a number's or a decimal's
pub mark_high : (b n : ℕ) → 8 < longest_mark b n
unfolding longest_mark
mark_high b n = grind (arith, nat_tests)
