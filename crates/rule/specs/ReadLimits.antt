-- The limits of a rule's text, each named once; those of its frames stand in Limits. Assumes nothing: definitions.
use Rattle.std.specs.Prelude.{ℕ}

-- "The text has 1 to 1,024 bytes"
abbrev pub text_limit : ℕ
text_limit = 1024

-- "Depth at a point .. at most 16"
abbrev pub depth_limit : ℕ
depth_limit = 16

-- "names of at most 12 letters"
abbrev pub name_letters : ℕ
name_letters = 12
