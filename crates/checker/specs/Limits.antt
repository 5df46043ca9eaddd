-- Limits of the window, the counts, the report and the board, each named once. From document 01, "Feeding, pulling and the window"
-- and "What is turned down", and document 02, point 9. Assumes nothing: definitions.
use Rattle.std.specs.Prelude.{ℕ, ◌*◌}

-- W, the document's name for the width of the window: "W outside 1 to 256" is refused with 11
abbrev pub width_limit : ℕ
width_limit = 256

-- window is the document's term: "The window is 32 × W signed 32-bit words"
abbrev pub window_words : ℕ → ℕ
window_words w = 32 * w

-- 16: "that event has 1,000,000 lines already"
abbrev pub line_limit : ℕ
line_limit = 1000000

-- 14: "a report buffer under 166 bytes"
abbrev pub report_least : ℕ
report_least = 166

-- the board: "W at most 32"
abbrev pub board_width_limit : ℕ
board_width_limit = 32

-- the board: "at most 16 frames"
abbrev pub board_frame_limit : ℕ
board_frame_limit = 16
