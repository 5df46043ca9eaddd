-- The headline statements of this crate, each proved where it is cited. Assumes nothing.
use Rattle.std.proofs.Common.{◌≡◌, ℕ, ◌*◌, ◌/◌, ◌%◌, ◌<◌, true, List, [], ◌++◌, map, take, replicate, ℤ}
use Rattle.rule.specs.Limits.{frame_limit, frame_bytes}
use Rattle.rule.specs.Frames.{Bytes}
use Rattle.rule.specs.Reading.{read_of}
use Rattle.rule.specs.ReadTold as reading
use Rattle.log_lines.specs.Digit.{hex_digit}
use Rattle.log_lines.specs.Pair.{pair_of}
use Rattle.log_lines.specs.Walk.{lines_of}
use Rattle.std.specs.Prelude.{Some}
use Rattle.verdict.specs.declared.Verdict.TheVariants.{False}
use Rattle.checker.specs.Answer.{opened, verdict}
use Rattle.checker.specs.State.{state_frames, refs_in}
use Rattle.checker.specs.Open.{window_fits, OpenResult}
use Rattle.checker.specs.StateTest.{state_passes}
use Rattle.checker.specs.Sum.{sum_fits}
use Rattle.checker.specs.Report.{report_bytes}
use Rattle.checker.specs.Pull.{found_here, pull_def}
use Rattle.checker.specs.Parts.{state_of}
use Rattle.checker.specs.declared.State.{State}
use Rattle.checker.specs.declared.parts.Fields.{Fields}
use Rattle.checker.proofs.Laws.{let_in}
use Rattle.bench.specs.Print.{refused_line, report_part}
use Rattle.bench.specs.Kept.{kept_limit}
use Rattle.bench.specs.Progress.{Progress, empty_report, UntilWaiting, pulls, pull_limit, fed_line, after_line, after_lines, Chunked, after_bytes, at_end}
use Rattle.bench.specs.Carried.{opened_with}
use Rattle.bench.specs.Output.{before_log, with_totals, begun, whole_run, opened_for, output_of}
use Rattle.bench.proofs.ChunkLaws
use Rattle.bench.proofs.Whole
use Rattle.bench.proofs.Waiting

-- "pulls until waiting": for a state that 12 lets through, its frames bytes as an array of them is, and a window that 13 and 27 do,
-- pull_limit pulls are enough
pub pulls_wait : (x : Progress) → state_passes x.state ≡ true → Bytes (state_frames x.state)
    → window_fits x.state.width x.words ≡ true → sum_fits x.state x.words ≡ true → UntilWaiting x (pulls pull_limit x)
pulls_wait x g b f m = Waiting.pulls_wait x (record { admits = let_in x.state x.words g f m; bytes = b })

-- ".. before the first line and after each": for every rule that is read, and after whatever lines
module _ (text : List ℕ) (n : ℕ) (s : List ℕ) (r : read_of text (replicate (frame_limit * frame_bytes) 0) ≡ (reading.frames n, s)) where
  pub first-waits : UntilWaiting (before_log (opened_for (take (n * frame_bytes) s))) (begun (opened_for (take (n * frame_bytes) s)))
  first-waits = Waiting.first-waits text _ n s r

  pub line-waits : (ls : List (List ℕ)) (line : List ℕ)
      → UntilWaiting (fed_line (after_lines (begun (opened_for (take (n * frame_bytes) s))) ls) line)
      (after_line (after_lines (begun (opened_for (take (n * frame_bytes) s))) ls) line)
  line-waits = Waiting.line-waits text _ n s r

-- what `begin` begins from is what `open_rule` gave: the frames of the state, the fields that with them are the state, and the window
pub opened-handed-on : (o : OpenResult) (fields : Fields) → o.answer ≡ opened → state_of o.state.frames fields ≡ o.state
    → opened_with o.state.frames fields o.words ≡ o
opened-handed-on = Whole.opened-handed-on

-- "a line cut by the buffer's end is one line": chunks one after the other do what all their bytes at once do
pub chunks_join : (o : Chunked) (s t : List ℕ) → after_bytes o (s ++ t) ≡ after_bytes (after_bytes o s) t
chunks_join = Whole.bytes_cut

-- the bytes of a log, with what is held at its end as a line, are the log's lines, each fed whole
pub log_lines : (x : Progress) (log : List ℕ) → at_end (after_bytes (record { progress = x; held = [] }) log) ≡ after_lines x (lines_of log)
log_lines = Whole.log_whole

-- so what the code's contracts give one after the other (pulls, chunks, what is held at the end, totals) is the whole run
pub run-whole : (o : OpenResult) (log : List ℕ)
    → with_totals (at_end (after_bytes (record { progress = begun o; held = [] }) log)) ≡ whole_run o log
run-whole = Whole.run-whole

-- all that is printed where the rule is read, and where it is refused
module _ (text log : List ℕ) where
  pub output_run : (n : ℕ) (s : List ℕ) → read_of text (replicate (frame_limit * frame_bytes) 0) ≡ (reading.frames n, s)
      → output_of text log ≡ whole_run (opened_for (take (n * frame_bytes) s)) log
  output_run = Whole.output_run text log

  pub output_refused : (number place : ℕ) (s : List ℕ) → read_of text (replicate (frame_limit * frame_bytes) 0) ≡ (reading.refused number place, s)
      → output_of text log ≡ refused_line number place
  output_refused = Whole.output_refused text log

-- the first 35 bytes of a line decide it
pub kept_decides : (x : Progress) (line : List ℕ) → after_line x (take kept_limit line) ≡ after_line x line
kept_decides = ChunkLaws.after_kept

-- what is printed of a false verdict is its report, whole and nothing else
pub report-whole : (s : State) (win : List ℤ) → (pull_def s win empty_report).answer ≡ verdict False
    → report_part (pull_def s win empty_report).report ≡ report_bytes s.next.0 (map (found_here s win) (refs_in s))
report-whole = Whole.report-printed

-- two printed digits are the byte, as a log line's digits are read
pub digits-back : (b : ℕ) → b < 256 → pair_of (hex_digit (b / 16)) (hex_digit (b % 16)) ≡ Some b
digits-back = Whole.hex_back
