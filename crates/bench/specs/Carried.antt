-- What the code carries from line to line, as progress. What is printed waits in a buffer and is written out when that is nearly
-- full, so a contract says what waits. Assumes nothing: definitions.
use Rattle.std.specs.Prelude.{◌≡◌, ℕ, ◌≤◌, List, [], ◌++◌, length, ℤ}
use Rattle.rule.specs.Frames.{Bytes}
use Rattle.checker.specs.Answer.{opened}
use Rattle.checker.specs.State.{state_frames}
use Rattle.checker.specs.Admission.{admitted, admission}
use Rattle.checker.specs.Open.{OpenResult}
use Rattle.checker.specs.Parts.{state_of}
use Rattle.checker.specs.declared.parts.Fields.{Fields}
use Rattle.bench.specs.Progress.{Progress, Chunked}
use Rattle.bench.specs.declared.run.Counts.{Counts}

-- the bytes of the buffer that output waits in
abbrev pub out_bytes : ℕ
out_bytes = 65536

-- what an unrefused opening gave, from the frames and the other fields of its state and its window
abbrev pub opened_with : List ℕ → Fields → List ℤ → OpenResult
opened_with frames fields win = record { answer = opened; state = state_of frames fields; words = win }

-- with at most so many bytes waiting there is room for every line, and nothing is written out
abbrev pub roomy : ℕ
roomy = 65200

-- how far a run has come, by its checker's frames, the other fields and the window, its counts, and what waits to be printed, as
-- all that was printed
abbrev pub progress_of : List ℕ → Fields → List ℤ → Counts → List ℕ → Progress
progress_of frames fields win counts said =
    record { state = state_of frames fields; words = win; counts = counts; said = said }

-- what a run keeps: 12, 13 and 27 let its checker through, and its frames are bytes, as an array of them is
pub record LetIn (x : Progress) : Type 0 where
  pub admits : admission x.state x.words ≡ admitted
  pub bytes : Bytes (state_frames x.state)

-- what waits is the end of what is to be printed: the rest was written out before, and nothing where all that has room
pub record Ends (got want : List ℕ) : Type 0 where
  pub written : List ℕ
  pub same : want ≡ written ++ got
  pub whole : length want ≤ roomy → written ≡ []

-- the same progress with more printed before
abbrev pub before : List ℕ → Progress → Progress
before w x = record { state = x.state; words = x.words; counts = x.counts; said = w ++ x.said }

-- what is got is what is wanted, but for what was written out before: nothing, where all that is to be printed has room
pub record After (want got : Progress) : Type 0 where
  pub written : List ℕ
  pub same : want ≡ before written got
  pub whole : length want.said ≤ roomy → written ≡ []

-- the same with a cut line
pub record AfterChunked (want got : Chunked) : Type 0 where
  pub progress : After want.progress got.progress
  pub held : got.held ≡ want.held
