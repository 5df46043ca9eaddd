-- The numbers that the library's calls answer with. From document 01, "What is turned down" and "Feeding, pulling and the window";
-- the numbers of the answers are this library's own. Assumes nothing: definitions.
use Rattle.std.specs.Prelude.{List, ℕ, ℤ, Result, Ok, Err}
use Rattle.rule.specs.ReadTold.{ReadAnswer}
use Rattle.rule.specs.ReadTold as reading
use Rattle.log_lines.specs.Earlier as log
use Rattle.verdict.specs.declared.Verdict.TheVariants.{True, False, Unknown}
use Rattle.checker.specs.Answer.{Answer, opened, accepted, ignored, waiting, verdict, refused}
use Rattle.checker.specs.Open.{OpenResult}
use Rattle.checker.specs.Feed.{FeedResult}
use Rattle.checker.specs.Pull.{PullResult}
use Rattle.checker.specs.Tariff.{Charge, cents, turned}
use Rattle.checker.specs.declared.State.{State}
use Rattle.dillplatter.specs.declared.CallResult.{CallResult}
use Rattle.dillplatter.specs.declared.told.AnswerNumbers.{AnswerNumbers}

-- an answer of any call: a text was read into so many frames, or an answer of the checker
pub data AnyAnswer : Type 0 where
  read : (frames : ℕ) → AnyAnswer
  checked : Answer → AnyAnswer

-- what `read` answers, a refusal as the checker tells it
abbrev pub of_reading : ReadAnswer → AnyAnswer
of_reading (reading.frames n) = read n
of_reading (reading.refused number place) = checked (refused number place)

-- which answer
abbrev pub answer_number : AnyAnswer → ℕ
answer_number (checked (refused number place)) = 0
answer_number (read n) = 1
answer_number (checked opened) = 2
answer_number (checked accepted) = 3
answer_number (checked ignored) = 4
answer_number (checked waiting) = 5
answer_number (checked (verdict True)) = 6
answer_number (checked (verdict False)) = 7
answer_number (checked (verdict Unknown)) = 8

-- "A refusal returns its number and place"; 0 where nothing is refused
abbrev pub number_of : AnyAnswer → ℕ
number_of (read n) = 0
number_of (checked (refused number place)) = number
number_of (checked opened) = 0
number_of (checked accepted) = 0
number_of (checked ignored) = 0
number_of (checked waiting) = 0
number_of (checked (verdict v)) = 0

-- the refusal's place, 0 where nothing is refused
abbrev pub place_of : AnyAnswer → ℕ
place_of (read n) = 0
place_of (checked (refused number place)) = place
place_of (checked opened) = 0
place_of (checked accepted) = 0
place_of (checked ignored) = 0
place_of (checked waiting) = 0
place_of (checked (verdict v)) = 0

-- an answer of the checker in numbers
abbrev pub numbers_of : Answer → AnswerNumbers
numbers_of a = record { answer = answer_number (checked a); number = number_of (checked a); place = place_of (checked a) }

-- "answers the number of frames", 0 where a text was not read
abbrev pub frames_of : AnyAnswer → ℕ
frames_of (read n) = n
frames_of (checked a) = 0

-- ---- a call of the checker: "the answer, the state and all lent words"
-- which answer, the refusal's number and place, the state, and what was lent
pub record CallNumbers (A : Type 0) : Type 0 where
  pub answer : ℕ
  pub number : ℕ
  pub place : ℕ
  pub state : State
  pub lent : A

module _ {A : Type 0} where
  -- what the code gave
  abbrev pub call_outcome : CallResult → A → CallNumbers A
  call_outcome r lent = record { answer = r.answer; number = r.number; place = r.place; state = r.state; lent = lent }

  -- what an answer of the checker is in numbers
  abbrev pub in_numbers : Answer → State → A → CallNumbers A
  in_numbers a s lent =
      record {
        answer = answer_number (checked a);
        number = number_of (checked a);
        place = place_of (checked a);
        state = s;
        lent = lent;
      }

-- of opening
abbrev pub open_numbers : OpenResult → CallNumbers (List ℤ)
open_numbers d = in_numbers d.answer d.state d.words

-- of feeding
abbrev pub feed_numbers : FeedResult → CallNumbers (List ℤ)
feed_numbers d = in_numbers d.answer d.state d.words

-- of pulling
abbrev pub pull_numbers : PullResult → CallNumbers (List ℕ)
pull_numbers d = in_numbers d.answer d.state d.report

-- ---- the other calls
-- what a conversion answers, without the line
abbrev pub unlined : {E : Type 0} → Result (List ℕ) E → Result (Unit {0}) E
unlined (Ok s) = Ok tt
unlined (Err why) = Err why

-- of a conversion, which is done or refused: the refusal's number, 0 where it is done
abbrev pub conversion_number : log.ConversionAnswer → ℕ
conversion_number log.done = 0
conversion_number (log.turned number place) = number

-- the refusal's place, 0 where it is done
abbrev pub conversion_place : log.ConversionAnswer → ℕ
conversion_place log.done = 0
conversion_place (log.turned number place) = place

-- of a charge, which is cents or refused: the refusal's number, 0 where it is cents
abbrev pub charge_number : Charge → ℕ
charge_number (cents c) = 0
charge_number (turned number place) = number

-- the refusal's place, 0 where it is cents
abbrev pub charge_place : Charge → ℕ
charge_place (cents c) = 0
charge_place (turned number place) = place

-- the cents, 0 where it is refused
abbrev pub charge_cents : Charge → ℕ
charge_cents (cents c) = c
charge_cents (turned number place) = 0
