-- A line in capitals has the line's own answer. Assumes nothing.
use mathlib.Core.Path.{◌≡◌, refl, sym, ◌∙◌}
use mathlib.Core.Bool.{Bool, true, false, cond}
use mathlib.Core.List.{List, [], ◌∷◌, map}
use Prim.Native.Nat.{ℕ, zero, suc, ◌+◌, ◌-◌}
use native.Mathlib.Omega.{arith}
use borrow.Author.Tests.{leb-true}
use lib.Dec.{leb}
use lib.ListN.{get_or, length-map}
use Rattle.numbers.specs.Range.{between}
use Rattle.std.proofs.lemmas.Bool.{and_parts}
use Rattle.log_lines.specs.Digit.{digit_value, capital}
use Rattle.log_lines.specs.Line.{digits_at_front, bad_place, line_of}
use Rattle.log_lines.proofs.Values.{value-of-capital, value-of-small}

-- a digit keeps its value
capital-keeps-value : (b : ℕ) → digit_value (capital b) ≡ digit_value b
unfolding capital
capital-keeps-value b = go (between 0x61 0x66 b) refl
  where
    go : (x : Bool) → between 0x61 0x66 b ≡ x → digit_value (cond x (b - 0x20) b) ≡ digit_value b
    go false e = refl
    go true e =
        let t = and_parts (leb 0x61 b) (leb b 0x66) e in
        let lo = leb-true 0x61 b t.0 in
        let hi = leb-true b 0x66 t.1 in
        let as-small = value-of-small b (b - 0x61 + 10) lo hi refl in
        let as-capital = value-of-capital (b - 0x20) (b - 0x61 + 10) (omega arith) (omega arith) (omega arith) in
        sym as-capital ∙ as-small

-- so does the one at each place
capitals_keep_values : (s : List ℕ) (k : ℕ) → digit_value (get_or (map capital s) k 0) ≡ digit_value (get_or s k 0)
capitals_keep_values [] k = refl
capitals_keep_values (b ∷ bs) zero = capital-keeps-value b
capitals_keep_values (b ∷ bs) (suc k) = capitals_keep_values bs k

-- and as many stand at the front
capitals_keep_front : (s : List ℕ) → digits_at_front (map capital s) ≡ digits_at_front s
unfolding digits_at_front
capitals_keep_front [] = refl
capitals_keep_front (b ∷ bs) = rw (capital-keeps-value b, capitals_keep_front bs)

pub either_case : (s : List ℕ) → line_of (map capital s) ≡ line_of s
unfolding line_of bad_place
either_case s = simp (length-map s capital, capitals_keep_front s, capitals_keep_values s)
