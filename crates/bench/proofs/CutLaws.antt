-- What is kept of a cut line. Assumes nothing.
use Rattle.std.proofs.Common.{◌≡◌, ℕ, ◌+◌, ◌-◌, ◌≤◌, min, List, ◌++◌, length, take, sym, ◌∙◌, arith, length-append, take_all}
use native.Mathlib.Decide.{dec_lt}
use lib.Seq.{take-append-add}
use Rattle.bench.specs.Kept.{kept_limit, held_with}

-- what is held, and as much of a part as there is room for
pub kept_more : (held part : List ℕ) (n : ℕ) → length held ≤ kept_limit → n ≡ min (length part) (kept_limit - length held)
    → held ++ take n part ≡ held_with held part
kept_more held part n l e = sym (take-append-add held part n) ∙ go
  where
    go : take (length held + n) (held ++ part) ≡ held_with held part
    go =
        elim (dec_lt (kept_limit - length held) (length part)) [
          | yes h ↦ let e : length held + n ≡ kept_limit = omega arith in rw e
          | no h ↦
              let s = length-append held part in
              take_all (length held + n) (held ++ part) (omega arith) ∙ sym (take_all kept_limit (held ++ part) (omega arith))
        ]
