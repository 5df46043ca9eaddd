-- Laws of `code` and `name_code`: two names of at most 12 letters are equal exactly if their numbers are, and a word is too long
-- exactly if its number is `long_name`. Assumes nothing.
use Rattle.std.proofs.Math.Nat.{pow-suc, pow-le-pow_right}
use Rattle.std.proofs.Common.{◌^◌}
use Rattle.std.proofs.lemmas.Bool.Decides.{nat_tests}
use mathlib.Core.Path.{◌≡◌, refl, sym, ap, ◌∙◌}
use mathlib.Core.Logic.{◌↔◌}
use mathlib.Core.List.{List, [], ◌∷◌, reverse}
use Prim.Native.Nat.{ℕ, ◌+◌, ◌-◌, ◌*◌, ◌≤◌, ◌<◌}
use native.Mathlib.Omega.{arith}
use borrow.Author.Tests.{le-leb, lt-leb}
use lib.ListN.{length}
use Rattle.std.specs.List.{fold}
use Rattle.std.proofs.lemmas.List.{reverse-append}
use Rattle.std.proofs.lemmas.List.Sums.{fold_push}
use Rattle.rule.specs.Class.{Letters}
use Rattle.rule.specs.Name.{code, long_name, name_code}

-- ---- for the loop, which reads the word from its end

-- one letter more in front
abbrev pub with_letter : ℕ → ℕ → ℕ
with_letter v b = (b - 96) + 27 * v

pub code_told : (w : List ℕ) → code w ≡ fold with_letter 0 (reverse w)
unfolding code
code_told [] = refl
code_told (b ∷ bs) = rw (reverse-append (b ∷ []) bs, fold_push with_letter 0 (reverse bs) b, ← code_told bs) refl

-- so long as at most 11 letters are read, one more fits
pub code-room : (v n : ℕ) → v + 10 ≤ 10 * 27 ^ n → n ≤ 11 → v ≤ 55590605665555230
code-room v n l h = let t : 27 ^ n ≤ 27 ^ 11 = pow-le-pow_right (omega arith) h in omega arith

-- ---- names

-- two words of letters have one number only if they are one word
code_apart : (x y : List ℕ) → Letters x → Letters y → code x ≡ code y → x ≡ y
unfolding code
code_apart [] [] l k e = refl
code_apart [] (b ∷ bs) l k e = absurd (omega (arith, k.0))
code_apart (a ∷ cs) [] l k e = absurd (omega (arith, l.0))
code_apart (a ∷ cs) (b ∷ bs) l k e = grind (arith, code_apart cs bs l.2 k.2)

code_below : (bs : List ℕ) → Letters bs → code bs < 27 ^ length bs
unfolding code
code_below [] l = omega arith
code_below (b ∷ bs) l = rw (pow-suc 27 (length bs)) (omega (arith, code_below bs l.2, l.0, l.1))

pub short-code : (w : List ℕ) → length w ≤ 12 → name_code w ≡ code w
unfolding name_code
short-code w h = rw (le-leb (length w) 12 h)

pub long-code : (w : List ℕ) → 12 < length w → name_code w ≡ long_name
unfolding name_code
long-code w h = rw (lt-leb (length w) 12 h)

pub short-below : (w : List ℕ) → Letters w → length w ≤ 12 → name_code w < long_name
short-below w l h =
    let t : 27 ^ length w ≤ 27 ^ 12 = pow-le-pow_right (omega arith) h in
    omega (arith, short-code w h, code_below w l)

-- a word is over 12 letters exactly if its number is that of the long ones
pub over_12 : (w : List ℕ) → Letters w → (12 < length w) ↔ (name_code w ≡ long_name)
over_12 w l = (long-code w, grind (arith, nat_tests, short-below w l))

pub names_apart : (x y : List ℕ) → Letters x → Letters y → length x ≤ 12 → length y ≤ 12 → (name_code x ≡ name_code y) ↔ (x ≡ y)
names_apart x y l k h g = (λ e. code_apart x y l k (sym (short-code x h) ∙ (e ∙ short-code y g)), λ e. ap name_code e)

-- for the code, which reads the letters from the end
pub ruleset letters = (long-code, fold_push, pow-suc)
