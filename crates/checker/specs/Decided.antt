-- What opening decides before it writes. No contract of open, feed or pull cites it. Assumes nothing: definitions.
use Rattle.std.specs.Prelude.{◌≡◌, ℕ, List, length, ℤ, Result, Ok, Err}
use Rattle.rule.specs.Check.{checked_of}
use Rattle.rule.specs.CheckTold as checking
use Rattle.checker.specs.Limits.{window_words}
use Rattle.checker.specs.Refusals.{refusal_number, refusal_place}
use Rattle.checker.specs.Open.{opened_as, not_opened, open_def}
use Rattle.checker.specs.declared.refusals.Refusal.{Refusal}
use Rattle.checker.specs.declared.Profile.{Profile}

-- opening "refuses" nothing: the frames are accepted, and the window is as long as W asks
pub record Opens (profile : Profile) (frames : List ℕ) (w : ℕ) (win : List ℤ) : Type 0 where
  pub accepted : checked_of frames ≡ checking.accepted
  pub long : length win ≡ window_words w
  pub opens : open_def profile frames w win ≡ opened_as profile frames w

-- "opening refuses exactly where one of its checks holds": with the number and place of the refusal
abbrev pub Decided : Profile → List ℕ → ℕ → List ℤ → Result (Unit {0}) Refusal → Type 0
Decided profile frames w win (Ok done) = Opens profile frames w win
Decided profile frames w win (Err why) =
    open_def profile frames w win ≡ not_opened win (refusal_number why) (refusal_place why)
