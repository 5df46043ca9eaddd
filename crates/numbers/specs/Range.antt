-- A range of bytes. Assumes nothing: definitions.
use Rattle.std.specs.Prelude.{ℕ, Bool, ◌&&◌, leb}

-- b is one of lo to hi
abbrev pub between : ℕ → ℕ → ℕ → Bool
between lo hi b = leb lo b && leb b hi
