-- Laws of `digit_value`, `capital` and `hex_digit`, range by range. Assumes nothing.
use mathlib.Core.Path.{◌≡◌, refl, sym}
use mathlib.Core.Bool.{Bool, true, false, cond, true≢false}
use Prim.Native.Nat.{ℕ, ◌+◌, ◌-◌, ◌≤◌, ◌<◌}
use native.Mathlib.Omega.{arith}
use borrow.Author.Tests.{le-leb, leb-true, lt-ltb, le-ltb, ltb-true, ltb-false}
use lib.Dec.{leb, ltb}
use Rattle.numbers.specs.Range.{between}
use Rattle.std.proofs.lemmas.Bool.{and_parts}
use Rattle.log_lines.specs.Digit.{digit_value, is_digit, capital, hex_digit}

-- a number of a range
within : (lo hi b : ℕ) → lo ≤ b → b ≤ hi → between lo hi b ≡ true
within lo hi b h k = rw (le-leb lo b h, le-leb b hi k)

-- any other number
outside : (lo hi b : ℕ) → (lo ≤ b → b ≤ hi → ⊥) → between lo hi b ≡ false
outside lo hi b n = go (leb lo b) (leb b hi) refl refl
  where
    go : (x y : Bool) → leb lo b ≡ x → leb b hi ≡ y → between lo hi b ≡ false
    go true true p q = absurd (n (leb-true lo b p) (leb-true b hi q))
    go true false p q = rw (p, q)
    go false y p q = rw p

-- v is the value of the byte b
module _ (b v : ℕ) where
  pub value-of-decimal : 0x30 ≤ b → b ≤ 0x39 → v ≡ b - 0x30 → v ≡ digit_value b
  unfolding digit_value
  value-of-decimal h k e = rw (within 0x30 0x39 b h k) e

  pub value-of-capital : 0x41 ≤ b → b ≤ 0x46 → v ≡ b - 0x41 + 10 → v ≡ digit_value b
  unfolding digit_value
  value-of-capital h k e = rw (outside 0x30 0x39 b (λ p q. omega arith), within 0x41 0x46 b h k) e

  pub value-of-small : 0x61 ≤ b → b ≤ 0x66 → v ≡ b - 0x61 + 10 → v ≡ digit_value b
  unfolding digit_value
  value-of-small h k e =
      rw (outside 0x30 0x39 b (λ p q. omega arith), outside 0x41 0x46 b (λ p q. omega arith), within 0x61 0x66 b h k) e

-- the digit of a value has that value
pub digit-back : (d : ℕ) → d < 16 → digit_value (hex_digit d) ≡ d
digit-back d h = go (ltb d 10) refl
  where
    go : (x : Bool) → ltb d 10 ≡ x → digit_value (cond x (0x30 + d) (0x41 + (d - 10))) ≡ d
    go true e = let l = ltb-true d 10 e in sym (value-of-decimal (0x30 + d) d (omega arith) (omega arith) (omega arith))
    go false e = let l = ltb-false d 10 e in sym (value-of-capital (0x41 + (d - 10)) d (omega arith) (omega arith) (omega arith))

-- the digit of a digit's value is its capital
pub hex_of_value : (b : ℕ) → is_digit b ≡ true → hex_digit (digit_value b) ≡ capital b
unfolding digit_value capital
hex_of_value b = go (between 0x30 0x39 b) (between 0x41 0x46 b) (between 0x61 0x66 b) refl refl refl
  where
    range : (lo hi : ℕ) → between lo hi b ≡ true → (lo ≤ b) × (b ≤ hi)
    range lo hi e = let t = and_parts (leb lo b) (leb b hi) e in (leb-true lo b t.0, leb-true b hi t.1)

    go : (x y z : Bool) → between 0x30 0x39 b ≡ x → between 0x41 0x46 b ≡ y → between 0x61 0x66 b ≡ z
        → ltb (cond x (b - 0x30) (cond y (b - 0x41 + 10) (cond z (b - 0x61 + 10) 16))) 16 ≡ true
        → hex_digit (cond x (b - 0x30) (cond y (b - 0x41 + 10) (cond z (b - 0x61 + 10) 16))) ≡ cond z (b - 0x20) b
    go true y true p q r h = let i = range 0x30 0x39 p in let j = range 0x61 0x66 r in absurd (omega arith)
    go true y false p q r h = let i = range 0x30 0x39 p in rw (lt-ltb (b - 0x30) 10 (omega arith)) (omega arith)
    go false true true p q r h = let i = range 0x41 0x46 q in let j = range 0x61 0x66 r in absurd (omega arith)
    go false true false p q r h = let i = range 0x41 0x46 q in rw (le-ltb (b - 0x41 + 10) 10 (omega arith)) (omega arith)
    go false false true p q r h = let i = range 0x61 0x66 r in rw (le-ltb (b - 0x61 + 10) 10 (omega arith)) (omega arith)
    go false false false p q r h = absurd (true≢false (sym h))
