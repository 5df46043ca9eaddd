-- All that the program prints for a rule and a log. From document 01, "Bench program". No contract can say what is read or
-- written; the functions that main calls meet the parts of this definition. Assumes nothing: definitions.
use Rattle.std.specs.Prelude.{ℕ, ◌*◌, List, [], ◌++◌, take, replicate, pos}
use Rattle.rule.specs.Limits.{frame_limit, frame_bytes}
use Rattle.rule.specs.Reading.{read_of}
use Rattle.rule.specs.ReadTold.{ReadAnswer}
use Rattle.rule.specs.ReadTold as reading
use Rattle.log_lines.specs.Walk.{lines_of}
use Rattle.checker.specs.Limits.{window_words}
use Rattle.checker.specs.Answer.{Answer, opened, accepted, ignored, waiting, verdict, refused}
use Rattle.checker.specs.Open.{OpenResult, open_def}
use Rattle.bench.specs.Print.{totals_line, refused_line}
use Rattle.bench.specs.Progress.{Progress, pulls, pull_limit, after_lines}
use Rattle.checker.specs.declared.Profile.TheVariants.{Desk}

-- "W 64"
abbrev pub bench_width : ℕ
bench_width = 64

-- nothing printed yet, no line counted
abbrev pub before_log : OpenResult → Progress
before_log o = record { state = o.state; words = o.words; counts = record { accepted = 0; ignored = 0; refused = 0 }; said = [] }

-- reports, "then true, false, unknown, accepted, ignored, refused .. on one line"
abbrev pub with_totals : Progress → List ℕ
with_totals x = x.said ++ totals_line x.state.totals x.counts

-- "pulls until waiting before the first line"
abbrev pub begun : OpenResult → Progress
begun o = pulls pull_limit (before_log o)

-- ".. and after each"
abbrev pub whole_run : OpenResult → List ℕ → List ℕ
whole_run o log = with_totals (after_lines (begun o) (lines_of log))

-- opening is never refused here, since `read` gives only frames that it takes; it is said all the same
abbrev pub after_opening : List ℕ → OpenResult → Answer → List ℕ
after_opening log o (refused number place) = refused_line number place
after_opening log o opened = whole_run o log
after_opening log o accepted = []
after_opening log o ignored = []
after_opening log o waiting = []
after_opening log o (verdict v) = []

-- the checker that frames open, at the desk
abbrev pub opened_for : List ℕ → OpenResult
opened_for frames = open_def Desk frames bench_width (replicate (window_words bench_width) (pos 0))

-- "A refused rule prints .. the only line"
abbrev pub after_reading : List ℕ → List ℕ → ReadAnswer → List ℕ
after_reading log buffer (reading.refused number place) = refused_line number place
after_reading log buffer (reading.frames n) =
    after_opening log (opened_for (take (n * frame_bytes) buffer)) (opened_for (take (n * frame_bytes) buffer)).answer

-- for a rule's text and a log
abbrev pub output_of : List ℕ → List ℕ → List ℕ
output_of text log =
    after_reading log (read_of text (replicate (frame_limit * frame_bytes) 0)).1
    (read_of text (replicate (frame_limit * frame_bytes) 0)).0
