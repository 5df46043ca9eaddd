-- Opening: 9, 10, 7, 8, 11, then 26. From document 01, "What is turned down" and "Feeding, pulling and the window", and
-- document 02, point 9.
-- Assumes nothing: definitions.
use Rattle.std.specs.Prelude.{ℕ, Bool, cond, ◌&&◌, List, length, replicate, ℤ, pos, ◌==◌, nat_le}
use Rattle.rule.specs.Frames.{frame_count}
use Rattle.rule.specs.Check.{checked_of}
use Rattle.rule.specs.CheckTold.{CheckAnswer}
use Rattle.rule.specs.CheckTold as checking
use Rattle.checker.specs.Limits.{width_limit, window_words}
use Rattle.checker.specs.Answer.{Answer, opened, refused, open_told}
use Rattle.checker.specs.Profile.{within_most}
use Rattle.checker.specs.State.{zero_state, fresh_state}
use Rattle.checker.specs.declared.Returned.{Returned}
use Rattle.checker.specs.declared.Profile.{Profile}
use Rattle.checker.specs.declared.State.{State}

-- "the answer, the state and all lent words": those of the window
pub record OpenResult : Type 0 where
  pub answer : Answer
  pub state : State
  pub words : List ℤ

-- not "W outside 1 to 256"
abbrev pub width_fits : ℕ → Bool
width_fits w = nat_le 1 w && nat_le w width_limit

-- not "a window not 32 × W words"
abbrev pub window_fits : ℕ → List ℤ → Bool
window_fits w win = length win == window_words w

-- "A refused opening hands back the state that is zero throughout"; a refusal "changes nothing"
abbrev pub not_opened : List ℤ → ℕ → ℕ → OpenResult
not_opened win number place = record { answer = refused number place; state = zero_state; words = win }

-- "opening sets all to 0"
abbrev pub opened_as : Profile → List ℕ → ℕ → OpenResult
opened_as profile frames w =
    record { answer = opened; state = fresh_state profile frames w; words = replicate (window_words w) (pos 0) }

-- "26, a board opening above either figure, after 11"; the desk's figures are those of 11 and 9
abbrev pub after_window : Profile → List ℕ → ℕ → List ℤ → OpenResult
after_window profile frames w win =
    cond (within_most profile w (frame_count frames)) (opened_as profile frames w) (not_opened win 26 0)

-- 11 after the checks of frames: "W outside 1 to 256, or a window not 32 × W words"
abbrev pub after_frames : Profile → List ℕ → ℕ → List ℤ → CheckAnswer → OpenResult
after_frames profile frames w win (checking.refused number place) = not_opened win number place
after_frames profile frames w win checking.accepted =
    cond (width_fits w && window_fits w win) (after_window profile frames w win) (not_opened win 11 0)

-- "opening refuses exactly where one of its checks holds": for desk and board, every slice of frames, every W and every window
unfoldable pub open_def : Profile → List ℕ → ℕ → List ℤ → OpenResult
open_def profile frames w win = after_frames profile frames w win (checked_of frames)

-- what the code's answer and state and the window after the call are, as such a result
abbrev pub open_outcome : Returned (Unit {0}) → List ℤ → OpenResult
open_outcome r win = record { answer = open_told r.answer; state = r.state; words = win }
