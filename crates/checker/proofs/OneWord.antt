-- A window that differs in one word is refused with 27. Assumes nothing.
use Rattle.std.proofs.Common.{◌≡◌, ℕ, true, List, length, ℤ, sym, refl, ap, ◌∙◌, subst, eq-eqb, ne_eqb, eqb-true}
use Rattle.rule.specs.Frames.{Bytes}
use Rattle.checker.specs.Limits.{window_words}
use Rattle.checker.specs.State.{state_frames}
use Rattle.checker.specs.Answer.{Answer, refused}
use Rattle.checker.specs.Sum.{sum_of, sum_fits}
use Rattle.checker.specs.Open.{window_fits}
use Rattle.checker.specs.StateTest.{state_passes}
use Rattle.checker.specs.Admission.{Admission, admitted, barred, admission}
use Rattle.checker.specs.Feed.{fed_if, feed_def}
use Rattle.checker.specs.Pull.{pulled_if, pull_def}
use Rattle.checker.specs.Calls.{Call, feed, pull, checker}
use Rattle.checker.specs.Demand.{Unrefused, answer_of, checker_after, machine_after}
use Rattle.checker.specs.OneWord.{Words, OneWordApart, LetThrough}
use Rattle.checker.specs.declared.Profile.{Profile}
use Rattle.checker.specs.declared.State.{State}
use Rattle.checker.proofs.SumLaws.{sums-differ}
use Rattle.checker.proofs.Admissions.{tested, let_in, barred_27, in_good, in_long, in_sum}
use Rattle.checker.proofs.Simulation.{in_step_stays}
use Rattle.checker.proofs.Fresh.{opened-fine}
use Rattle.checker.proofs.Lists.{in_step}
use Rattle.checker.proofs.Stays.{fed-stays, pulled-stays}

-- what a call answers, by what 12, 13 and 27 say
abbrev answer_by : State → List ℤ → Call → Admission → Answer
answer_by s win (feed line) a = (fed_if s win line a).answer
answer_by s win (pull buffer) a = (pulled_if s win buffer a).answer

answer-by : (s : State) (win : List ℤ) (c : Call) → answer_of (checker (record { state = s; words = win }) c).out ≡ answer_by s win c (admission s win)
unfolding feed_def pull_def
answer-by s win (feed line) = refl
answer-by s win (pull buffer) = refl

bars : (s : State) (win : List ℤ) (c : Call) (n : ℕ) → answer_by s win c (barred n) ≡ refused n 0
bars s win (feed line) n = refl
bars s win (pull buffer) n = refl

-- a call that is not refused with 12, 13 or 27 lets state and window through
passed : (s : State) (win : List ℤ) (c : Call) → LetThrough (answer_by s win c (admission s win))
    → (state_passes s ≡ true) × ((window_fits s.width win ≡ true) × (sum_fits s win ≡ true))
passed s win c =
    tested s win (λ (a : Admission). LetThrough (answer_by s win c a) → (state_passes s ≡ true) × ((window_fits s.width win ≡ true) × (sum_fits s win ≡ true)))
    (λ _ h. absurd (h.not_12 (bars s win c 12)))
    (λ _ _ h. absurd (h.not_13 (bars s win c 13)))
    (λ _ _ _ h. absurd (h.not_27 (bars s win c 27)))
    (λ g l m _. (g, (l, m)))

module _ (s : State) (win win' : List ℤ) (f : Words win) (f' : Words win') (a : OneWordApart win win') where
  shows : state_passes s ≡ true → length win ≡ window_words s.width → s.sum ≡ sum_of win
      → (c : Call) → answer_of (checker (record { state = s; words = win' }) c).out ≡ refused 27 0
  shows g l m c =
      let b = barred_27 s win' g (eq-eqb _ _ (a.long ∙ l)) (ne_eqb _ _ (λ q. sums-differ win win' f f' a (sym m ∙ q))) in
      answer-by s win' c ∙ ap (answer_by s win' c) b ∙ bars s win' c 27

  pub one-word-shows : (c : Call) → LetThrough (answer_of (checker (record { state = s; words = win }) c).out)
      → (c' : Call) → answer_of (checker (record { state = s; words = win' }) c').out ≡ refused 27 0
  one-word-shows c h =
      let t = passed s win c (subst LetThrough (answer-by s win c) h) in
      shows t.0 (eqb-true _ _ t.1.0) (eqb-true _ _ t.1.1)

-- what a call leaves is let through again
left_in : (s : State) (win : List ℤ) → admission s win ≡ admitted → Bytes (state_frames s) → (c : Call)
    → admission (checker (record { state = s; words = win }) c).next.state (checker (record { state = s; words = win }) c).next.words ≡ admitted
left_in s win a b (feed line) = fed-stays s win a line
left_in s win a b (pull buffer) = pulled-stays s win a b buffer

pub one-word-shows-next : (s : State) (win : List ℤ) → Bytes (state_frames s) → (c : Call) → LetThrough (answer_of (checker (record { state = s; words = win }) c).out)
    → Words (checker (record { state = s; words = win }) c).next.words
    → (win' : List ℤ) → Words win' → OneWordApart (checker (record { state = s; words = win }) c).next.words win'
    → (c' : Call) → answer_of (checker (record { state = (checker (record { state = s; words = win }) c).next.state; words = win' }) c').out ≡ refused 27 0
one-word-shows-next s win b c h f win' f' a =
    let t = passed s win c (subst LetThrough (answer-by s win c) h) in
    let k = (checker (record { state = s; words = win }) c).next in
    let e = left_in s win (let_in s win t.0 t.1.0 t.1.1) b c in
    shows k.state k.words win' f f' a (in_good _ _ e) (in_long _ _ e) (in_sum _ _ e)

module _ {profile : Profile} {frames : List ℕ} {w : ℕ} {win : List ℤ} (o : Unrefused profile frames w win) (cs : List Call) where
  -- what stands after a list of calls
  pub sum-stays : (checker_after profile frames w win cs).state.sum ≡ sum_of (checker_after profile frames w win cs).words
  sum-stays = (in_step o cs).sim.sum

  pub one-word-shows-after : Words (checker_after profile frames w win cs).words → (win' : List ℤ) → Words win' → OneWordApart (checker_after profile frames w win cs).words win'
      → (c : Call) → answer_of (checker (record { state = (checker_after profile frames w win cs).state; words = win' }) c).out ≡ refused 27 0
  one-word-shows-after f win' f' a =
      let k = checker_after profile frames w win cs in
      let e = in_step_stays frames w (opened-fine o) (machine_after frames w cs) k (in_step o cs) in
      shows k.state k.words win' f f' a (in_good _ _ e) (in_long _ _ e) (in_sum _ _ e)
