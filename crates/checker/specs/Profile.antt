-- Desk or board: which limits of W and of frames a checker keeps to. From document 02, point 9, "The board inside the plotter".
-- Assumes nothing: definitions.
use Rattle.std.specs.Prelude.{ℕ, Bool, ◌&&◌, ◌||◌, ◌==◌, nat_le}
use Rattle.rule.specs.Limits.{frame_limit}
use Rattle.checker.specs.Limits.{width_limit, board_width_limit, board_frame_limit}
use Rattle.checker.specs.declared.Profile.{Profile}
use Rattle.checker.specs.declared.Profile.TheVariants.{Desk, Board}

-- "W at most 32"; "Desk callers keep 256"
abbrev pub width_most : Profile → ℕ
width_most Desk = width_limit
width_most Board = board_width_limit

-- "and at most 16 frames"; "Desk callers keep .. 64"
abbrev pub frames_most : Profile → ℕ
frames_most Desk = frame_limit
frames_most Board = board_frame_limit

-- not "above either figure": a W and a number of frames
abbrev pub within_most : Profile → ℕ → ℕ → Bool
within_most profile w n = nat_le w (width_most profile) && nat_le n (frames_most profile)

-- "The limit is chosen at opening, stays in the state": as a number
abbrev pub profile_number : Profile → ℕ
profile_number Desk = 0
profile_number Board = 1

-- by that number a desk's or a board's, and not "a board state above them"
abbrev pub profile_passes : ℕ → ℕ → ℕ → Bool
profile_passes number w n =
    (number == profile_number Desk && within_most Desk w n) || (number == profile_number Board && within_most Board w n)
