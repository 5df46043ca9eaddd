-- Feeding: 12, 13, 27, 15, ignored, 16, 17. From document 01, "Feeding, pulling and the window" and "What is turned down", and
-- document 02, point 11.
-- Assumes nothing: definitions.
use Rattle.std.specs.Prelude.{ℕ, ◌+◌, cond, List, [], ◌∷◌, ℤ, nat_le}
use Rattle.rule.specs.Tree.{Reference}
use Rattle.log_lines.specs.Line.{LineAnswer, line_of}
use Rattle.log_lines.specs.Line as log
use Rattle.checker.specs.Limits.{line_limit}
use Rattle.checker.specs.Answer.{Answer, accepted, ignored, refused, feed_told}
use Rattle.checker.specs.Base.{referenced, base}
use Rattle.checker.specs.State.{Tally, count_of, tally_in, refs_in, with_line, with_tally, with_sum}
use Rattle.checker.specs.Ring.{kept}
use Rattle.checker.specs.Sum.{sum_of}
use Rattle.checker.specs.Admission.{Admission, admitted, barred, admission}
use Rattle.checker.specs.declared.Returned.{Returned}
use Rattle.checker.specs.declared.Taken.{Taken}
use Rattle.checker.specs.declared.State.{State}

-- ---- the decision, which the plain machine and the checker share
-- "A refused line" with its number and place, "an ignored line", or an accepted one with its event and "four notes"
pub data FeedRead : Type 0 where
  turned : (number place : ℕ) → FeedRead
  skipped : FeedRead
  taken : (event : ℕ) (notes : List ℤ) → FeedRead

-- "An event that isn't referenced is 'ignored'. A count of 1,000,000 is refused with 16, one that has reached base plus W with
-- 17. Any other line is accepted"
unfoldable pub feed_event : List Reference → ℕ → Tally → ℕ → List ℤ → FeedRead
feed_event refs w t e notes =
    cond (referenced refs e)
    (cond (nat_le line_limit (count_of t e)) (turned 16 0)
    (cond (nat_le (base refs e t.next + w) (count_of t e)) (turned 17 0) (taken e notes)))
    skipped

-- "a line that 15 names is refused with 15 and its place"
abbrev pub feed_read : List Reference → ℕ → Tally → LineAnswer → FeedRead
feed_read refs w t (log.refused number place) = turned number place
feed_read refs w t (log.line e a b c d) = feed_event refs w t e (a ∷ b ∷ c ∷ d ∷ [])

-- "is refused with 15 and its place .. is 'ignored' .. is accepted"
abbrev pub feed_answer : FeedRead → Answer
feed_answer (turned number place) = refused number place
feed_answer skipped = ignored
feed_answer (taken e notes) = accepted

-- ---- the checker
-- "the answer, the state and all lent words": those of the window
pub record FeedResult : Type 0 where
  pub answer : Answer
  pub state : State
  pub words : List ℤ

-- "A refused line .., an ignored line .. change nothing"
abbrev pub not_fed : State → List ℤ → Answer → FeedResult
not_fed s win a = record { answer = a; state = s; words = win }

-- "Each accepted occurrence from base on is found there .. One that arrives below base is counted and not stored": the words then
abbrev pub words_with : State → List ℤ → ℕ → List ℤ → List ℤ
words_with s win e notes = kept win s.width e (base (refs_in s) e s.next.0) (count_of (tally_in s) e) notes

-- "A refused line .., an ignored line .. change nothing"; of an accepted one "The state keeps the .. sum of the window's words"
abbrev pub fed_by : State → List ℤ → FeedRead → FeedResult
fed_by s win (turned number place) = not_fed s win (refused number place)
fed_by s win skipped = not_fed s win ignored
fed_by s win (taken e notes) =
    record {
      answer = accepted;
      state = with_sum (with_tally s (with_line (tally_in s) e)) (sum_of (words_with s win e notes));
      words = words_with s win e notes;
    }

-- what a line does to a state that is let through
abbrev pub line_in : State → LineAnswer → FeedRead
line_in s l = feed_read (refs_in s) s.width (tally_in s) l

-- and a line that could be read
abbrev pub event_in : State → ℕ → List ℤ → FeedRead
event_in s e notes = feed_event (refs_in s) s.width (tally_in s) e notes

-- "A refusal .. changes nothing"; what is let through is fed the line
abbrev pub fed_if : State → List ℤ → List ℕ → Admission → FeedResult
fed_if s win line admitted = fed_by s win (line_in s (line_of line))
fed_if s win line (barred number) = not_fed s win (refused number 0)

-- "for .. every argument": 12, 13, 27, then the line
unfoldable pub feed_def : State → List ℤ → List ℕ → FeedResult
feed_def s win line = fed_if s win line (admission s win)

-- what the code's answer and state and the window after the call are, as such a result
abbrev pub feed_outcome : Returned Taken → List ℤ → FeedResult
feed_outcome r win = record { answer = feed_told r.answer; state = r.state; words = win }
