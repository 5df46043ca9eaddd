-- What `token_here` gives, by the class of the first byte: one law for each case of the code. Assumes nothing.
use Rattle.std.proofs.lemmas.List.{take_rest}
use Rattle.std.proofs.lemmas.Bool.Decides.{nat_tests}
use mathlib.Core.Path.{◌≡◌, ap}
use mathlib.Core.Bool.{Bool}
use mathlib.Core.List.{List, [], ◌∷◌}
use Prim.Native.Nat.{ℕ, suc, ◌+◌, ◌≤◌, ◌<◌}
use native.Mathlib.Nat.{add-zero}
use native.Mathlib.Omega.{arith}
use lib.ListN.{length, take, get_or}
use Rattle.rule.specs.Token.{end_kind, token_kind, width_of, token_here}
use Rattle.rule.proofs.TokenSpans.{rest, first_rest}
use Rattle.rule.specs.declared.Token.{Token}

abbrev pub tok : ℕ → ℕ → ℕ → Token
tok k s e = record { kind = k; start = s; end = e }

pub none : (points : Bool) (s : ℕ) (bs : List ℕ) → length bs < 1 → token_here points s bs ≡ tok end_kind s (s + 0)
unfolding token_here
none points s [] h = rw (add-zero s)
none points s (b ∷ bs) h = absurd (omega arith)

pub some : (points : Bool) (s : ℕ) (bs : List ℕ) → 1 ≤ length bs → token_here points s bs ≡ tok (token_kind points (get_or bs 0 0) (rest bs)) s (s + width_of points (get_or bs 0 0) (rest bs))
unfolding token_here
some points s bs h = ap (token_here points s) (first_rest bs h)

-- the word is the first byte and the run behind it
pub spelt : (n : ℕ) (bs : List ℕ) → 1 ≤ length bs → take (1 + n) bs ≡ get_or bs 0 0 ∷ take n (rest bs)
spelt n bs h = let q : 1 + n ≡ suc n = omega arith in rw q (ap (take (suc n)) (first_rest bs h))

-- for the code, which takes the first byte and the rest
pub ruleset nexts = (none, some, spelt, take_rest, nat_tests)
