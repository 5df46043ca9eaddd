-- The log's lines whatever its chunks, and the reports that are printed. Assumes nothing.
use Rattle.std.proofs.Common.{◌≡◌, ℕ, ◌+◌, ◌-◌, ◌*◌, ◌/◌, ◌%◌, ◌<◌, ◌≤◌, Bool, true, false, cond, eqb, List, [], ◌∷◌, ◌++◌, map, length, take, drop, replicate, ℤ, sym, refl, ap, ◌∙◌, ap₂, arith, length-append, take_at, lt-ltb, le-leb}
use Rattle.rule.specs.Limits.{frame_limit, frame_bytes, buffer_bytes}
use Rattle.rule.specs.Frames.{frame_count}
use Rattle.rule.specs.Tree.{postfix, bytes_of}
use Rattle.rule.specs.Check.{checked_of}
use Rattle.rule.specs.CheckTold as checking
use Rattle.rule.specs.Meaning.{meaning}
use Rattle.rule.specs.Reading.{read_of}
use Rattle.rule.specs.ReadTold.{ReadAnswer, read_told}
use Rattle.rule.specs.declared.Refusal.{Refusal}
use Rattle.std.specs.Prelude.{Some, Result, Ok}
use Rattle.rule.specs.ReadTold as reading
use Rattle.rule.proofs.Main.{read-opens, reads_exactly}
use Rattle.rule.proofs.Laws.{passed, bytes-length}
use Rattle.log_lines.specs.Digit.{hex_digit}
use Rattle.log_lines.specs.Pair.{pair_of}
use Rattle.log_lines.specs.Walk.{onto, lines_of}
use Rattle.log_lines.proofs.Main.{digit-back}
use Rattle.verdict.specs.Found.{Found}
use Rattle.verdict.specs.declared.Verdict.TheVariants.{True, False, Unknown}
use Rattle.checker.specs.Answer.{Answer, opened, verdict}
use Rattle.checker.specs.State.{refs_in}
use Rattle.checker.specs.Open.{OpenResult, open_def}
use Rattle.checker.specs.Report.{entries, report_bytes, written}
use Rattle.checker.specs.Admission.{Admission, admitted, barred, admission}
use Rattle.checker.specs.Pull.{next_in, pulled_if, PullRead, short, waits, gave, found_here, pulled_by, pull_def}
use Rattle.checker.specs.Parts.{state_of}
use Rattle.checker.specs.declared.State.{State}
use Rattle.checker.specs.declared.parts.Fields.{Fields}
use Rattle.bench.specs.Carried.{opened_with}
use Rattle.bench.specs.Print.{refused_line, report_part}
use Rattle.bench.specs.Kept.{kept_limit, held_with}
use Rattle.bench.specs.Progress.{Progress, empty_report, Chunked, after_line, after_lines, after_bytes, at_end}
use Rattle.bench.specs.Output.{with_totals, begun, whole_run, after_opening, opened_for, after_reading, output_of}
use Rattle.bench.proofs.ChunkLaws.{after_kept, kept_on}

-- ---- chunks
abbrev stepped : Chunked → ℕ → Chunked
stepped o b = cond (eqb b 10) (record { progress = after_line o.progress o.held; held = [] }) (record { progress = o.progress; held = held_with o.held (b ∷ []) })

pub bytes_cut : (o : Chunked) (s t : List ℕ) → after_bytes o (s ++ t) ≡ after_bytes (after_bytes o s) t
unfolding after_bytes
bytes_cut o [] t = refl
bytes_cut o (b ∷ s) t = bytes_cut (stepped o b) s t

-- ---- lines, the first of which has begun before
abbrev from : List ℕ → List (List ℕ) → List (List ℕ)
from [] ls = ls
from (b ∷ p) ls = onto b (from p ls)

from-ended : (p : List ℕ) (ls : List (List ℕ)) → from p ([] ∷ ls) ≡ p ∷ ls
from-ended [] ls = refl
from-ended (b ∷ p) ls = ap (onto b) (from-ended p ls)

from_more : (p : List ℕ) (b : ℕ) (ls : List (List ℕ)) → from (p ++ (b ∷ [])) ls ≡ from p (onto b ls)
from_more [] b ls = refl
from_more (c ∷ p) b ls = ap (onto c) (from_more p b ls)

from_last : (b : ℕ) (p : List ℕ) → from (b ∷ p) [] ≡ (b ∷ p) ∷ []
from_last b [] = refl
from_last b (c ∷ p) = ap (onto b) (from_last c p)

abbrev after : Progress → List ℕ → List ℕ → Progress
after x h s = at_end (after_bytes (record { progress = x; held = h }) s)

whole_from : (x : Progress) (p s : List ℕ) → after x (take kept_limit p) s ≡ after_lines x (from p (lines_of s))
unfolding after_bytes after_lines lines_of
whole_from x [] [] = refl
whole_from x (b ∷ p) [] = after_kept x (b ∷ p) ∙ ap (after_lines x) (sym (from_last b p))
whole_from x p (c ∷ s) = go (eqb c 10) (λ y q. whole_from y q s)
  where
    go : (t : Bool) → ((y : Progress) (q : List ℕ) → after y (take kept_limit q) s ≡ after_lines y (from q (lines_of s)))
        → at_end (after_bytes (cond t (record { progress = after_line x (take kept_limit p); held = [] }) (record { progress = x; held = held_with (take kept_limit p) (c ∷ []) })) s)
        ≡ after_lines x (from p (cond t ([] ∷ lines_of s) (onto c (lines_of s))))
    go true i =
        i (after_line x (take kept_limit p)) []
        ∙ ap (λ (y : Progress). after_lines y (lines_of s)) (after_kept x p)
        ∙ ap (after_lines x) (sym (from-ended p (lines_of s)))
    go false i =
        ap (λ (h : List ℕ). after x h s) (kept_on p (c ∷ []))
        ∙ i x (p ++ (c ∷ []))
        ∙ ap (after_lines x) (from_more p c (lines_of s))

pub log_whole : (x : Progress) (log : List ℕ) → at_end (after_bytes (record { progress = x; held = [] }) log) ≡ after_lines x (lines_of log)
log_whole x log = whole_from x [] log

-- ---- all that is printed
pub run-whole : (o : OpenResult) (log : List ℕ)
    → with_totals (at_end (after_bytes (record { progress = begun o; held = [] }) log)) ≡ whole_run o log
run-whole o log = ap with_totals (log_whole (begun o) log)

pub read_opened : (text b : List ℕ) (n : ℕ) (s : List ℕ) → read_of text b ≡ (reading.frames n, s) → (opened_for (take (n * frame_bytes) s)).answer ≡ opened
unfolding open_def
read_opened text b n s e =
    let f : List ℕ = take (n * frame_bytes) s in
    let c : checked_of f ≡ checking.accepted = read-opens text b n s e in
    rw (c, le-leb (frame_count f) frame_limit (omega (arith, (passed f c).whole.most)))

-- what an unrefused opening gave, put together again from its parts
pub opened-handed-on : (o : OpenResult) (fields : Fields) → o.answer ≡ opened → state_of o.state.frames fields ≡ o.state
    → opened_with o.state.frames fields o.words ≡ o
opened-handed-on o fields e f = ap₂ (λ (a : Answer) (s : State). record { answer = a; state = s; words = o.words }) (sym e) f

-- there is room for the frames that were read
pub read-room : (text b : List ℕ) (r : Result ℕ Refusal) (n : ℕ) (s : List ℕ) → read_told r ≡ (read_of text b).0 → s ≡ (read_of text b).1 → r ≡ Ok n → n * frame_bytes ≤ length s
read-room text b r n s p w q =
    let e : read_of text b ≡ (reading.frames n, s) = ap₂ (λ (x : ReadAnswer) (y : List ℕ). (x, y)) (sym p ∙ ap read_told q) (sym w) in
    let x = ((reads_exactly text b n s).0 e).1 in
    let fs = postfix (meaning text x.tree) in
    let l : length s ≡ length (bytes_of fs) + length {A = ℕ} (replicate (buffer_bytes - n * frame_bytes) 0) = ap length x.bytes ∙ length-append (bytes_of fs) _ in
    omega (arith, l, bytes-length fs, x.count)

pub output_run : (text log : List ℕ) (n : ℕ) (s : List ℕ) → read_of text (replicate (frame_limit * frame_bytes) 0) ≡ (reading.frames n, s)
    → output_of text log ≡ whole_run (opened_for (take (n * frame_bytes) s)) log
output_run text log n s e =
    ap (λ (x : ReadAnswer × List ℕ). after_reading log x.1 x.0) e
    ∙ ap (after_opening log (opened_for (take (n * frame_bytes) s))) (read_opened text (replicate (frame_limit * frame_bytes) 0) n s e)

pub output_refused : (text log : List ℕ) (number place : ℕ) (s : List ℕ) → read_of text (replicate (frame_limit * frame_bytes) 0) ≡ (reading.refused number place, s)
    → output_of text log ≡ refused_line number place
output_refused text log number place s e = ap (λ (x : ReadAnswer × List ℕ). after_reading log x.1 x.0) e

-- ---- reports
entries-length : (xs : List Found) → length (entries xs) ≡ 5 * length xs
entries-length [] = refl
entries-length (x ∷ xs) = omega (arith, entries-length xs)

report-back : (p : ℕ) (xs : List Found) (buffer : List ℕ) → report_part (written (report_bytes p xs) buffer) ≡ report_bytes p xs
unfolding report_bytes
report-back p xs buffer = take_at (report_bytes p xs) (drop (length (report_bytes p xs)) buffer) (6 + 5 * length xs) (omega (arith, entries-length xs))

module _ (s : State) (win : List ℤ) where
  by_read : (x : PullRead) → (pulled_by s win empty_report x).answer ≡ verdict False
      → report_part (pulled_by s win empty_report x).report ≡ report_bytes s.next.0 (map (found_here s win) (refs_in s))
  by_read short e = absurd (let z : ◌≡◌ {A = ℕ} 0 1 = cc in omega arith)
  by_read waits e = absurd (let z : ◌≡◌ {A = ℕ} 0 1 = cc in omega arith)
  by_read (gave True) e = absurd (let z : ◌≡◌ {A = ℕ} 0 1 = cc in omega arith)
  by_read (gave Unknown) e = absurd (let z : ◌≡◌ {A = ℕ} 0 1 = cc in omega arith)
  by_read (gave False) e = report-back s.next.0 (map (found_here s win) (refs_in s)) empty_report

  pub report-printed : (pull_def s win empty_report).answer ≡ verdict False
      → report_part (pull_def s win empty_report).report ≡ report_bytes s.next.0 (map (found_here s win) (refs_in s))
  unfolding pull_def
  report-printed = go (admission s win)
    where
      go : (a : Admission) → (pulled_if s win empty_report a).answer ≡ verdict False
          → report_part (pulled_if s win empty_report a).report ≡ report_bytes s.next.0 (map (found_here s win) (refs_in s))
      go admitted e = by_read (next_in s win (length empty_report)) e
      go (barred number) e = absurd (let z : ◌≡◌ {A = ℕ} 0 1 = cc in omega arith)

-- ---- digits
pub hex_back : (b : ℕ) → b < 256 → pair_of (hex_digit (b / 16)) (hex_digit (b % 16)) ≡ Some b
unfolding pair_of
hex_back b h =
    let i : b / 16 < 16 = omega arith in
    let j : b % 16 < 16 = omega arith in
    let k : 16 * (b / 16) + b % 16 ≡ b = omega arith in
    rw (digit-back (b / 16) i, digit-back (b % 16) j, lt-ltb (b / 16) 16 i, lt-ltb (b % 16) 16 j, k)
