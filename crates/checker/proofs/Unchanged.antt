-- A refused call, an ignored line and 'waiting' change nothing. Assumes nothing.
use Rattle.std.proofs.Common.{◌≡◌, ℕ, ◌&&◌, ◌≢◌, List, length, ℤ, refl}
use Rattle.rule.specs.Frames.{frame_count}
use Rattle.rule.specs.Check.{checked_of}
use Rattle.rule.specs.CheckTold.{CheckAnswer}
use Rattle.rule.specs.CheckTold as checking
use Rattle.log_lines.specs.Line.{line_of}
use Rattle.verdict.specs.declared.Verdict.{Verdict}
use Rattle.checker.specs.Answer.{opened, accepted, verdict}
use Rattle.checker.specs.State.{zero_state}
use Rattle.checker.specs.Profile.{within_most}
use Rattle.checker.specs.Open.{OpenResult, width_fits, window_fits, opened_as, not_opened, after_window, after_frames, open_def}
use Rattle.checker.specs.Admission.{Admission, admitted, barred, admission}
use Rattle.checker.specs.Feed.{FeedRead, turned, skipped, taken, FeedResult, fed_by, line_in, fed_if, feed_def}
use Rattle.checker.specs.Pull.{PullRead, short, waits, gave, PullResult, pulled_by, next_in, pulled_if, pull_def}
use Rattle.checker.specs.declared.Profile.{Profile}
use Rattle.checker.specs.declared.State.{State}
use Rattle.checker.proofs.Choices.{cond_case}

-- ---- opening
module _ (profile : Profile) (frames : List ℕ) (w : ℕ) (win : List ℤ) where
  abbrev KeptO : OpenResult → Type 0
  KeptO x = x.answer ≢ opened → (x.state ≡ zero_state) × (x.words ≡ win)

  open_by : (c : CheckAnswer) → KeptO (after_frames profile frames w win c)
  open_by (checking.refused number place) = λ h. (refl, refl)
  open_by checking.accepted =
      cond_case KeptO (width_fits w && window_fits w win) (after_window profile frames w win) (not_opened win 11 0)
      (λ _. cond_case KeptO (within_most profile w (frame_count frames)) (opened_as profile frames w) (not_opened win 26 0) (λ _ h. absurd (h refl)) (λ _ h. (refl, refl)))
      (λ _ h. (refl, refl))

  pub open_unchanged : KeptO (open_def profile frames w win)
  unfolding open_def
  open_unchanged = open_by (checked_of frames)

-- ---- feeding
module _ (s : State) (win : List ℤ) (line : List ℕ) where
  abbrev KeptF : FeedResult → Type 0
  KeptF x = x.answer ≢ accepted → (x.state ≡ s) × (x.words ≡ win)

  fed_by_lem : (f : FeedRead) → KeptF (fed_by s win f)
  fed_by_lem (turned number place) h = (refl, refl)
  fed_by_lem skipped h = (refl, refl)
  fed_by_lem (taken e notes) h = absurd (h refl)

  pub feed_unchanged : KeptF (feed_def s win line)
  unfolding feed_def
  feed_unchanged = go (admission s win)
    where
      go : (a : Admission) → KeptF (fed_if s win line a)
      go admitted = fed_by_lem (line_in s (line_of line))
      go (barred number) = λ h. (refl, refl)

-- ---- pulling
module _ (s : State) (win : List ℤ) (buffer : List ℕ) where
  abbrev KeptP : PullResult → Type 0
  KeptP x = ((v : Verdict) → x.answer ≢ verdict v) → (x.state ≡ s) × (x.report ≡ buffer)

  pulled-by : (x : PullRead) → KeptP (pulled_by s win buffer x)
  pulled-by short h = (refl, refl)
  pulled-by waits h = (refl, refl)
  pulled-by (gave v) h = absurd (h v refl)

  pub pull_unchanged : KeptP (pull_def s win buffer)
  unfolding pull_def
  pull_unchanged = go (admission s win)
    where
      go : (a : Admission) → KeptP (pulled_if s win buffer a)
      go admitted = pulled-by (next_in s win (length buffer))
      go (barred number) = λ h. (refl, refl)
