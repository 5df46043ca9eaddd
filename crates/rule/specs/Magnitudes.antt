-- Magnitudes in 64 bits: what inner functions say of them. No public contract cites it. Assumes nothing: definitions.
use Rattle.std.specs.Prelude.{List, ℕ, ◌-◌, ◌^◌, min, Result, Ok, Err}
use Rattle.rule.specs.Decimals.{Term, term}
use Rattle.rule.specs.Sizes.{Sizes, fits, over}
use Rattle.rule.specs.declared.sizes.OverLimit.{OverLimit}

-- a number, or the greatest of 64 bits where it is more
abbrev pub saturated : ℕ → ℕ
saturated n = min n (2 ^ 64 - 1)

-- the same of a term's amount
abbrev pub saturated_term : Term ℕ → Term ℕ
saturated_term t = term (saturated t.amount) t.decimals

-- the magnitudes after a step, or that one was over the limit
abbrev pub loaded : List (Term ℕ) → Result Unit OverLimit → Sizes
loaded ms (Ok u) = fits ms
loaded ms (Err e) = over
