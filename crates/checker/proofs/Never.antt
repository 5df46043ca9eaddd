-- 12, 13 and 27 do not come in a list of calls from a fresh checker. Assumes nothing.
use Rattle.std.proofs.Common.{◌≡◌, ℕ, ◌+◌, Bool, false, ◌||◌, eqb, leb, ◌≢◌, List, [], ◌∷◌, ℤ, sym, refl, ap, ◌∙◌, subst, ⊎_elim}
use mathlib.Core.List.Memᴰ
use mathlib.Core.List.{Memᴰ}
use Rattle.numbers.proofs.Bools.{true-false}
use Rattle.rule.specs.Tree.{Reference, references}
use Rattle.rule.specs.Build.{tree_of}
use Rattle.log_lines.specs.Line.{LineAnswer, is_line, line_of, bad_place, byte_at, note_at}
use Rattle.log_lines.specs.Line as log
use Rattle.checker.specs.Limits.{line_limit}
use Rattle.checker.specs.Answer.{Answer, opened, accepted, ignored, waiting, verdict, refused}
use Rattle.checker.specs.Base.{referenced, base}
use Rattle.checker.specs.State.{Tally, count_of}
use Rattle.checker.specs.Feed.{FeedRead, feed_event, feed_read, feed_answer}
use Rattle.checker.specs.Pull.{PullRead, short, waits, gave, pull_answer}
use Rattle.checker.specs.Calls.{Call, feed, pull, Out, outs, checker}
use Rattle.checker.specs.Machine.{Machine, at_first, tally_of, machine_pull, machine_for}
use Rattle.checker.specs.Demand.{Unrefused, fresh, answer_of}
use Rattle.checker.specs.declared.Profile.{Profile}
use Rattle.checker.proofs.Choices.{cond_case}
use Rattle.checker.proofs.Lists as lists

-- the number of a refusal, 0 for another answer
abbrev pub number_in : Answer → ℕ
number_in opened = 0
number_in accepted = 0
number_in ignored = 0
number_in waiting = 0
number_in (verdict v) = 0
number_in (refused number place) = number

-- an answer other than 12, 13 and 27
abbrev pub Late : Answer → Type 0
Late a = (number_in a ≢ 12) × ((number_in a ≢ 13) × (number_in a ≢ 27))

-- the numbers that come first
abbrev early : ℕ → Bool
early n = eqb n 12 || (eqb n 13 || eqb n 27)

late_by : (a : Answer) → early (number_in a) ≡ false → Late a
late_by a e = (λ q. true-false (sym (ap early q) ∙ e), (λ q. true-false (sym (ap early q) ∙ e), λ q. true-false (sym (ap early q) ∙ e)))

pub line-number : (s : List ℕ) (refs : List Reference) (w : ℕ) (t : Tally) → Late (feed_answer (feed_read refs w t (line_of s)))
unfolding line_of feed_event
line-number s refs w t =
    cond_case (λ (l : LineAnswer). Late (feed_answer (feed_read refs w t l))) (is_line s) (log.line (byte_at s 0) (note_at s 0) (note_at s 1) (note_at s 2) (note_at s 3)) (log.refused 15 (bad_place s))
    (λ _. cond_case (λ (f : FeedRead). Late (feed_answer f)) (referenced refs (byte_at s 0)) _ _
    (λ _. cond_case (λ (f : FeedRead). Late (feed_answer f)) (leb line_limit (count_of t (byte_at s 0))) _ _
    (λ _. late_by (refused 16 0) refl)
    (λ _. cond_case (λ (f : FeedRead). Late (feed_answer f)) (leb (base refs (byte_at s 0) t.next + w) (count_of t (byte_at s 0))) _ _
    (λ _. late_by (refused 17 0) refl)
    (λ _. late_by accepted refl)))
    (λ _. late_by ignored refl))
    (λ _. late_by (refused 15 (bad_place s)) refl)

pub pull-number : (x : PullRead) → Late (pull_answer x)
pull-number short = late_by (refused 14 0) refl
pull-number waits = late_by waiting refl
pull-number (gave v) = late_by (verdict v) refl

module _ (frames : List ℕ) (w : ℕ) where
  late-step : (m : Machine) (c : Call) → Late (answer_of (machine_for frames w m c).out)
  late-step m (feed line) = line-number line (references (tree_of frames)) w (tally_of m)
  late-step m (pull buffer) = pull-number (machine_pull (tree_of frames) w m buffer)

  late-all : (cs : List Call) (m : Machine) (x : Out) → Memᴰ x (outs (machine_for frames w) cs m) → Late (answer_of x)
  unfolding outs
  late-all [] m x h = elim h [ ]
  late-all (c ∷ cs) m x h =
      ⊎_elim
      (λ (q : x ≡ (machine_for frames w m c).out). subst (λ (y : Out). Late (answer_of y)) (sym q) (late-step m c))
      (λ (n : Memᴰ x (outs (machine_for frames w) cs (machine_for frames w m c).next)). late-all cs (machine_for frames w m c).next x n)
      (Memᴰ.cases_cons h)

module _ {profile : Profile} {frames : List ℕ} {w : ℕ} {win : List ℤ} (o : Unrefused profile frames w win) (cs : List Call) where
  pub never : (x : Out) → Memᴰ x (outs checker cs (fresh profile frames w win)) → (place : ℕ) → (answer_of x ≢ refused 12 place) × ((answer_of x ≢ refused 13 place) × (answer_of x ≢ refused 27 place))
  never x h place =
      let l = late-all frames w cs (at_first frames) x (subst (λ (os : List Out). Memᴰ x os) (lists.answers o cs) h) in
      (λ q. l.0 (ap number_in q), (λ q. l.1.0 (ap number_in q), λ q. l.1.1 (ap number_in q)))
