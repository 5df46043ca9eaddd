-- Words of four bytes, and halves of them. Assumes nothing: definitions.
use Rattle.std.specs.Prelude.{ℕ, ◌+◌, ◌*◌, ℤ}
use Rattle.std.specs.Int.{w16, w32}
use Rattle.std.proofs.Common.{to_z}

-- big-endian: the first byte is the most significant
abbrev pub big_endian : ℕ → ℕ → ℕ → ℕ → ℕ
big_endian a b c d = ((a * 256 + b) * 256 + c) * 256 + d

-- signed 32-bit, big-endian: from 2^31 on, 2^32 less
abbrev pub signed_word : ℕ → ℕ → ℕ → ℕ → ℤ
signed_word a b c d = to_z w32 (big_endian a b c d)

-- signed 16-bit, big-endian: from 2^15 on, 2^16 less
abbrev pub signed_half : ℕ → ℕ → ℤ
signed_half a b = to_z w16 (a * 256 + b)
