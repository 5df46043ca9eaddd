-- What is kept of a line that a chunk's end cuts. From document 01, "Bench program": "a line cut by the buffer's end is one
-- line". Assumes nothing: definitions.
use Rattle.std.specs.Prelude.{ℕ, List, ◌++◌, take}

-- one byte more than a log line has digits: so many bytes decide whether 15 names a line, and its place
abbrev pub kept_limit : ℕ
kept_limit = 35

-- what is held of a line, with more of it
abbrev pub held_with : List ℕ → List ℕ → List ℕ
held_with held part = take kept_limit (held ++ part)
