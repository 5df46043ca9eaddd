-- The limits of a rule's frames, each named once. From document 01, "From rule text to frames".
-- Assumes nothing: definitions.
use Rattle.std.specs.Prelude.{ℕ, ◌*◌, ◌^◌}

-- events are numbered from 0, at most 8
abbrev pub event_limit : ℕ
event_limit = 8

-- notes, the document's word for an event's annotation: at most 4
abbrev pub note_limit : ℕ
note_limit = 4

-- the factor of i is 1 to 9
abbrev pub factor_limit : ℕ
factor_limit = 9

-- the offset is −9,999 to 9,999
abbrev pub offset_limit : ℕ
offset_limit = 9999

-- a literal is at most 2,147,483,647
abbrev pub literal_limit : ℕ
literal_limit = 2147483647

-- a scale is 0 to 6, and a literal has at most 6 decimals (document 02, point 1)
abbrev pub decimal_limit : ℕ
decimal_limit = 6

-- at most 64 frames
abbrev pub frame_limit : ℕ
frame_limit = 64

-- a frame has 8 bytes
abbrev pub frame_bytes : ℕ
frame_bytes = 8

-- "a lent buffer of exactly 512 bytes"
abbrev pub buffer_bytes : ℕ
buffer_bytes = frame_limit * frame_bytes

-- the magnitude of i
abbrev pub instance_magnitude : ℕ
instance_magnitude = 2 ^ 20

-- the magnitude of a reference
abbrev pub reference_magnitude : ℕ
reference_magnitude = 2 ^ 31

-- no magnitude exceeds 2^62
abbrev pub magnitude_limit : ℕ
magnitude_limit = 2 ^ 62
