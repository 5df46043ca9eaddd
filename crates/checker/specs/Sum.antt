-- The sum of the window's words. From document 02, point 11, "A window that somebody wrote into". Assumes nothing: definitions.
use Rattle.std.specs.Prelude.{ℕ, ◌+◌, ◌%◌, ◌^◌, Bool, List, [], ◌∷◌, ℤ, ◌==◌}
use Rattle.std.specs.Int.{w32}
use Rattle.std.proofs.Common.{of_z}
use Rattle.checker.specs.declared.State.{State}

-- a word as its 32 bits: of one below 0, 2^32 more
abbrev pub bits_of : ℤ → ℕ
bits_of z = of_z w32 z

-- the words added up, without wrapping
unfoldable pub added_up : List ℤ → ℕ
added_up [] = 0
added_up (z ∷ zs) = bits_of z + added_up zs

-- "the wrapping 32-bit sum of the window's words"
unfoldable pub sum_of : List ℤ → ℕ
sum_of words = added_up words % 2 ^ 32

-- not "27, the sum differs"
abbrev pub sum_fits : State → List ℤ → Bool
sum_fits s win = s.sum == sum_of win
