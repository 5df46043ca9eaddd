-- What the program does with a rule and a log, in document 01's words, "Bench program". Assumes nothing: definitions.
use Rattle.std.specs.Prelude.{◌≡◌, ℕ, zero, suc, ◌+◌, ◌%◌, ◌^◌, Bool, true, false, cond, List, [], ◌∷◌}
use Rattle.std.specs.Prelude.{◌++◌, replicate, ℤ, ◌==◌}
use Rattle.verdict.specs.declared.Verdict.{Verdict}
use Rattle.verdict.specs.declared.Verdict.TheVariants.{True, False, Unknown}
use Rattle.checker.specs.Limits.{report_least}
use Rattle.checker.specs.Answer.{Answer, opened, accepted, ignored, waiting, verdict, refused}
use Rattle.checker.specs.Feed.{FeedResult, feed_def}
use Rattle.checker.specs.Pull.{PullResult, pull_def}
use Rattle.checker.specs.declared.State.{State}
use Rattle.bench.specs.Print.{hex_line, report_part}
use Rattle.bench.specs.Kept.{held_with}
use Rattle.bench.specs.declared.run.Counts.{Counts}

-- how far the program has come: the checker's state and window, the counts of lines, and all that it has printed
pub record Progress : Type 0 where
  pub state : State
  pub words : List ℤ
  pub counts : Counts
  pub said : List ℕ

-- ---- pulling
-- the report buffer that each pull is lent
abbrev pub empty_report : List ℕ
empty_report = replicate report_least 0

-- what a pull gives
abbrev pub pull_of : Progress → PullResult
pull_of x = pull_def x.state x.words empty_report

-- "prints reports as hexadecimal lines": what a pull has printed
abbrev pub printed : Answer → List ℕ → List ℕ
printed (verdict False) report = hex_line (report_part report)
printed (verdict True) report = []
printed (verdict Unknown) report = []
printed opened report = []
printed accepted report = []
printed ignored report = []
printed waiting report = []
printed (refused number place) report = []

-- a verdict was given
abbrev pub is_verdict : Answer → Bool
is_verdict (verdict v) = true
is_verdict opened = false
is_verdict accepted = false
is_verdict ignored = false
is_verdict waiting = false
is_verdict (refused number place) = false

-- one pull
unfoldable pub pulled_once : Progress → Progress
pulled_once x =
    record {
      state = (pull_of x).state;
      words = x.words;
      counts = x.counts;
      said = x.said ++ printed (pull_of x).answer (pull_of x).report;
    }

-- "pulls until waiting": each pull gives a verdict, but the last, which answers 'waiting'
pub data UntilWaiting : Progress → Progress → Type 0 where
  last : (x : Progress) → (pull_of x).answer ≡ waiting → UntilWaiting x (pulled_once x)
  more : (x y : Progress) (v : Verdict) → (pull_of x).answer ≡ verdict v → UntilWaiting (pulled_once x) y → UntilWaiting x y

-- the same, in at most so many pulls; `pulls_wait` (proofs/Headlines) says that pull_limit of them are enough
unfoldable pub pulls : ℕ → Progress → Progress
pulls zero x = x
pulls (suc k) x = cond (is_verdict (pull_of x).answer) (pulls k (pulled_once x)) (pulled_once x)

-- more pulls than a checker can give verdicts: each raises p by 1, and 12 lets p be at most 1,009,999
abbrev pub pull_limit : ℕ
pull_limit = 1010001

-- ---- feeding
-- "(modulo 2^32)"
abbrev pub one_more_line : ℕ → ℕ
one_more_line n = (n + 1) % 2 ^ 32

-- "accepted, ignored, refused": the counts after a line's answer
abbrev pub counted_by : Answer → Counts → Counts
counted_by accepted c = record { accepted = one_more_line c.accepted; ignored = c.ignored; refused = c.refused }
counted_by ignored c = record { accepted = c.accepted; ignored = one_more_line c.ignored; refused = c.refused }
counted_by (refused number place) c = record { accepted = c.accepted; ignored = c.ignored; refused = one_more_line c.refused }
counted_by opened c = c
counted_by waiting c = c
counted_by (verdict v) c = c

-- what feeding a line gives
abbrev pub feed_of : Progress → List ℕ → FeedResult
feed_of x line = feed_def x.state x.words line

-- a line is fed, and its answer counted
unfoldable pub fed_line : Progress → List ℕ → Progress
fed_line x line =
    record {
      state = (feed_of x line).state;
      words = (feed_of x line).words;
      counts = counted_by (feed_of x line).answer x.counts;
      said = x.said;
    }

-- a line: it is fed, and then "pulls until waiting .. after each"
abbrev pub after_line : Progress → List ℕ → Progress
after_line x line = pulls pull_limit (fed_line x line)

-- the lines of a log, one after the other
unfoldable pub after_lines : Progress → List (List ℕ) → Progress
after_lines x [] = x
after_lines x (l ∷ ls) = after_lines (after_line x l) ls

-- ---- the log in chunks
-- progress, and what is kept of a line whose end has not come yet
pub record Chunked : Type 0 where
  pub progress : Progress
  pub held : List ℕ

-- the bytes of a chunk, one after the other
unfoldable pub after_bytes : Chunked → List ℕ → Chunked
after_bytes o [] = o
after_bytes o (b ∷ s) =
    after_bytes
    (cond (b == 10) (record {
      progress = after_line o.progress o.held;
      held = [];
    }) (record {
      progress = o.progress;
      held = held_with o.held (b ∷ []);
    }))
    s

-- what is held, if anything is
abbrev pub last_line : Progress → List ℕ → Progress
last_line x [] = x
last_line x (b ∷ bs) = after_line x (b ∷ bs)

-- "the last may lack it": at the log's end, what is held is a line
abbrev pub at_end : Chunked → Progress
at_end o = last_line o.progress o.held
