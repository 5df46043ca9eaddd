-- What the program prints for document 01's own example, and for a rule that has a false verdict before the first line, computed from
-- the definition step by step. Assumes nothing.
use Rattle.std.proofs.Common.{◌≡◌, ℕ, suc, true, false, List, [], ◌∷◌, ◌++◌, take, replicate, ℤ, pos, negsuc, refl, ap, ◌∙◌}
use Prim.Native.String.{String}
use Rattle.rule.specs.Limits.{buffer_bytes}
use Rattle.rule.specs.Class.{class_of, span}
use Rattle.rule.specs.Token.{same, word_kind, longest_mark, mark_width, fraction, token_kind, width_of, token_here, token_at, clause_at, tokens_in, tokens_from}
use Rattle.rule.specs.Name.{code, name_code}
use Rattle.rule.specs.Number.{number_value}
use Rattle.rule.specs.Spelling.{decimal_from, decimal, decimals}
use Rattle.rule.specs.Machine.{deeper, start_factor, step, finish, run}
use Rattle.rule.specs.Memory.{position, negated, put, acts}
use Rattle.rule.specs.Frames.{kind_of}
use Rattle.rule.specs.Tree.{postfix, bytes_of}
use Rattle.rule.specs.References.{reference_count}
use Rattle.rule.specs.Order.{order_of}
use Rattle.rule.specs.Sizes.{sizes_fit}
use Rattle.rule.specs.Build.{tree_of}
use Rattle.rule.specs.Check.{checked_of}
use Rattle.rule.specs.ReadTold as reading
use Rattle.rule.specs.Reading.{judged, read_of}
use Rattle.rule.proofs.Laws.{latency, latency_text, bytes}
use Rattle.log_lines.specs.Digit.{digit_value}
use Rattle.log_lines.specs.Line.{digits_at_front, bad_place, line_of}
use Rattle.log_lines.specs.Walk.{lines_of}
use Rattle.checker.specs.Base.{of_event, referenced, smallest, base, some_not_void, first_from, first_instance}
use Rattle.checker.specs.State.{state_with, fresh_state, with_tally, with_sum}
use Rattle.checker.specs.Ring.{stored, kept}
use Rattle.checker.specs.Sum.{added_up, sum_of}
use Rattle.checker.specs.Open.{open_def}
use Rattle.checker.specs.StateTest.{rule_passes, count_passes, all_to, tally_passes, state_passes}
use Rattle.checker.specs.Admission.{admission}
use Rattle.checker.specs.Feed.{feed_event, feed_def}
use Rattle.checker.specs.Report.{report_bytes}
use Rattle.checker.specs.Pull.{pull_read, pull_def}
use Rattle.bench.specs.Print.{hex_of}
use Rattle.bench.specs.Progress.{Progress, pull_of, is_verdict, pulled_once, pulls, fed_line, after_lines}
use Rattle.bench.specs.Output.{bench_width, before_log, with_totals, begun, opened_for, output_of}
use Rattle.bench.proofs.Whole.{output_run, output_refused}

-- lines, each with its LF
abbrev lines : List String → List ℕ
lines [] = []
lines (l ∷ ls) = bytes l ++ (10 ∷ lines ls)

-- ---- pulls, one by one
-- nothing is settled, and nothing changes
pub record Waits (x : Progress) : Type 0 where
  pub none : is_verdict (pull_of x).answer ≡ false
  pub same : pulled_once x ≡ x

-- a verdict, after which the run has come to y
pub record Pulls (x y : Progress) : Type 0 where
  pub some : is_verdict (pull_of x).answer ≡ true
  pub then : pulled_once x ≡ y

waits : (k : ℕ) {x : Progress} → Waits x → pulls (suc k) x ≡ x
unfolding pulls
waits k w = rw w.none w.same

one-verdict : (k : ℕ) {x y : Progress} → Pulls x y → Waits y → pulls (suc (suc k)) x ≡ y
unfolding pulls
one-verdict k p w = rw (p.some, p.then) (waits k w)

-- ---- document 01's example
-- its five frames, and the buffer that `read` fills
abbrev frames_of5 : List ℕ
frames_of5 = bytes_of (postfix latency)

abbrev filled : List ℕ
filled = frames_of5 ++ replicate 472 0

read-latency : read_of (bytes latency_text) (replicate buffer_bytes 0) ≡ (reading.frames 5, filled)
unfolding class_of span same word_kind longest_mark mark_width fraction token_kind width_of token_here token_at clause_at tokens_in tokens_from code name_code decimal_from decimal decimals number_value start_factor step finish run deeper position negated put acts judged read_of kind_of reference_count order_of sizes_fit checked_of
read-latency = refl

-- how far the program has come with so many frames: lines of events 0 and 1, p and the totals, the window's words and their sum, what
-- is printed, lines accepted
abbrev come : List ℕ → ℕ → ℕ → ℕ → ℕ → ℕ → ℕ → List ℤ → ℕ → List ℕ → ℕ → Progress
come frames len ins outs p held failed words sum said n =
    record {
      state = state_with frames len bench_width 0 (record {
        counts = ins ∷ (outs ∷ replicate 6 0);
        next = p;
        totals = record { held = held; failed = failed; unknown = 0 };
      }) sum;
      words = words;
      counts = record { accepted = n; ignored = 0; refused = 0 };
      said = said;
    }

-- the words of an event's first two lines
abbrev two_lines : ℤ → ℤ → List ℤ
two_lines a b = a ∷ (pos 0 ∷ (pos 0 ∷ (pos 0 ∷ (b ∷ replicate 251 (pos 0)))))

-- the window: `in` 10 and 50, `out` 40 and 75, as they come
abbrev window : ℤ → ℤ → ℤ → ℤ → List ℤ
window a b c d = two_lines a b ++ (two_lines c d ++ replicate 1536 (pos 0))

abbrev report : List ℕ
report = lines ("0000000000020000000028000000000A" ∷ [])

-- ---- before the first line and after each: what was fed, and then each pull
abbrev start : Progress
start = come filled 5 0 0 0 0 0 (window (pos 0) (pos 0) (pos 0) (pos 0)) 0 [] 0

abbrev after1 : Progress
after1 = come filled 5 1 0 0 0 0 (window (pos 10) (pos 0) (pos 0) (pos 0)) 10 [] 1

abbrev fed2 : Progress
fed2 = come filled 5 1 1 0 0 0 (window (pos 10) (pos 0) (pos 40) (pos 0)) 50 [] 2

abbrev after2 : Progress
after2 = come filled 5 1 1 1 0 1 (window (pos 10) (pos 0) (pos 40) (pos 0)) 50 report 2

abbrev after3 : Progress
after3 = come filled 5 2 1 1 0 1 (window (pos 10) (pos 50) (pos 40) (pos 0)) 100 report 3

abbrev fed4 : Progress
fed4 = come filled 5 2 2 1 0 1 (window (pos 10) (pos 50) (pos 40) (pos 75)) 175 report 4

abbrev after4 : Progress
after4 = come filled 5 2 2 2 1 1 (window (pos 10) (pos 50) (pos 40) (pos 75)) 175 report 4

abbrev line1 : List ℕ
line1 = bytes "000000000A000000000000000000000000"

abbrev line2 : List ℕ
line2 = bytes "0100000028000000000000000000000000"

abbrev line3 : List ℕ
line3 = bytes "0000000032000000000000000000000000"

abbrev line4 : List ℕ
line4 = bytes "010000004B000000000000000000000000"

record Feeds : Type 0 where
  first : fed_line start line1 ≡ after1
  second : fed_line after1 line2 ≡ fed2
  third : fed_line after2 line3 ≡ after3
  fourth : fed_line after3 line4 ≡ fed4

feeds : Feeds
unfolding kind_of reference_count order_of sizes_fit tree_of checked_of digit_value digits_at_front bad_place line_of of_event referenced smallest base some_not_void first_from first_instance rule_passes count_passes all_to tally_passes state_passes admission with_tally with_sum stored kept added_up sum_of feed_event feed_def report_bytes pull_read pull_def hex_of pulled_once fed_line
feeds = record { first = refl; second = refl; third = refl; fourth = refl }

record Rests : Type 0 where
  its_start : Waits start
  first : Waits after1
  second : Waits after2
  third : Waits after3
  fourth : Waits after4

rests : Rests
unfolding kind_of reference_count order_of sizes_fit tree_of checked_of digit_value digits_at_front bad_place line_of of_event referenced smallest base some_not_void first_from first_instance rule_passes count_passes all_to tally_passes state_passes admission with_tally with_sum stored kept added_up sum_of feed_event feed_def report_bytes pull_read pull_def hex_of pulled_once fed_line
rests =
    record {
      its_start = record { none = refl; same = refl };
      first = record { none = refl; same = refl };
      second = record { none = refl; same = refl };
      third = record { none = refl; same = refl };
      fourth = record { none = refl; same = refl };
    }

-- instance 0 is false, with its report; instance 1 is true
false_0 : Pulls fed2 after2
unfolding kind_of reference_count order_of sizes_fit tree_of checked_of digit_value digits_at_front bad_place line_of of_event referenced smallest base some_not_void first_from first_instance rule_passes count_passes all_to tally_passes state_passes admission with_tally with_sum stored kept added_up sum_of feed_event feed_def report_bytes pull_read pull_def hex_of pulled_once fed_line
false_0 = record { some = refl; then = refl }

true_1 : Pulls fed4 after4
unfolding kind_of reference_count order_of sizes_fit tree_of checked_of digit_value digits_at_front bad_place line_of of_event referenced smallest base some_not_void first_from first_instance rule_passes count_passes all_to tally_passes state_passes admission with_tally with_sum stored kept added_up sum_of feed_event feed_def report_bytes pull_read pull_def hex_of pulled_once fed_line
true_1 = record { some = refl; then = refl }

-- opening, and the whole run
opens : before_log (opened_for frames_of5) ≡ start
unfolding open_def fresh_state some_not_void first_from first_instance checked_of kind_of order_of reference_count sizes_fit tree_of
opens = refl

abbrev four : List (List ℕ)
four = line1 ∷ (line2 ∷ (line3 ∷ (line4 ∷ [])))

run-four : after_lines (begun (opened_for frames_of5)) four ≡ after4
unfolding after_lines
run-four =
    rw (opens, waits 1010000 rests.its_start, feeds.first, waits 1010000 rests.first, feeds.second, one-verdict 1009999 false_0 rests.second, feeds.third, waits 1010000 rests.third, feeds.fourth, one-verdict 1009999 true_1 rests.fourth)

-- ---- all that is printed
abbrev log_four : List String
log_four =
    "000000000A000000000000000000000000" ∷ "0100000028000000000000000000000000" ∷ "0000000032000000000000000000000000"
    ∷ "010000004B000000000000000000000000" ∷ []

abbrev printed_four : List ℕ
printed_four = lines ("0000000000020000000028000000000A" ∷ "000000010000000100000000000000040000000000000000" ∷ [])

totals-four : with_totals after4 ≡ printed_four
unfolding hex_of
totals-four = refl

for_four : (log : List ℕ) → lines_of log ≡ four → output_of (bytes latency_text) log ≡ printed_four
for_four log e =
    output_run (bytes latency_text) log 5 filled read-latency
    ∙ (ap (λ (ls : List (List ℕ)). with_totals (after_lines (begun (opened_for frames_of5)) ls)) e ∙ (ap with_totals run-four ∙ totals-four))

-- the document's example, with the log's last LF and without
pub document_example : output_of (bytes latency_text) (lines log_four) ≡ printed_four
unfolding lines_of
document_example = for_four (lines log_four) refl

pub without_last_LF : output_of (bytes latency_text) (take 139 (lines log_four)) ≡ printed_four
unfolding lines_of
without_last_LF = for_four (take 139 (lines log_four)) refl

-- ---- a rule that starts at 1 (document 02, point 2): no verdict of an empty log, and instance 1 false after one line
abbrev one_before : String
one_before = "events a; notes t; t(a[i-1]) > 0"

abbrev frames_of3 : List ℕ
frames_of3 =
    0x03 ∷ 0 ∷ 0 ∷ 1 ∷ 255 ∷ 255 ∷ 255 ∷ 255 ∷ 0x01 ∷ 0 ∷ 0 ∷ 0 ∷ 0 ∷ 0 ∷ 0 ∷ 0 ∷ 0x25 ∷ 0 ∷ 0 ∷ 0 ∷ 0 ∷ 0 ∷ 0 ∷ 0 ∷ []

abbrev filled3 : List ℕ
filled3 = frames_of3 ++ replicate 488 0

read-before : read_of (bytes one_before) (replicate buffer_bytes 0) ≡ (reading.frames 3, filled3)
unfolding class_of span same word_kind longest_mark mark_width fraction token_kind width_of token_here token_at clause_at tokens_in tokens_from code name_code decimal_from decimal decimals number_value start_factor step finish run deeper position negated put acts judged read_of kind_of reference_count order_of sizes_fit checked_of
read-before = refl

abbrev minus_one : List ℤ
minus_one = negsuc 0 ∷ replicate 2047 (pos 0)

abbrev none3 : Progress
none3 = come filled3 3 0 0 1 0 0 (replicate 2048 (pos 0)) 0 [] 0

abbrev fed3 : Progress
fed3 = come filled3 3 1 0 1 0 0 minus_one 4294967295 [] 1

abbrev one3 : Progress
one3 = come filled3 3 1 0 2 0 1 minus_one 4294967295 (lines ("00000001000100FFFFFFFF" ∷ [])) 1

opens_3 : before_log (opened_for frames_of3) ≡ none3
unfolding open_def fresh_state some_not_void first_from first_instance checked_of kind_of order_of reference_count sizes_fit tree_of
opens_3 = refl

none-waits : Waits none3
unfolding kind_of reference_count order_of sizes_fit tree_of checked_of digit_value digits_at_front bad_place line_of of_event referenced smallest base some_not_void first_from first_instance rule_passes count_passes all_to tally_passes state_passes admission with_tally with_sum stored kept added_up sum_of feed_event feed_def report_bytes pull_read pull_def hex_of pulled_once fed_line
none-waits = record { none = refl; same = refl }

feeds_3 : fed_line none3 (bytes "00FFFFFFFF000000000000000000000000") ≡ fed3
unfolding kind_of reference_count order_of sizes_fit tree_of checked_of digit_value digits_at_front bad_place line_of of_event referenced smallest base some_not_void first_from first_instance rule_passes count_passes all_to tally_passes state_passes admission with_tally with_sum stored kept added_up sum_of feed_event feed_def report_bytes pull_read pull_def hex_of pulled_once fed_line
feeds_3 = refl

false_3 : Pulls fed3 one3
unfolding kind_of reference_count order_of sizes_fit tree_of checked_of digit_value digits_at_front bad_place line_of of_event referenced smallest base some_not_void first_from first_instance rule_passes count_passes all_to tally_passes state_passes admission with_tally with_sum stored kept added_up sum_of feed_event feed_def report_bytes pull_read pull_def hex_of pulled_once fed_line
false_3 = record { some = refl; then = refl }

one-waits : Waits one3
unfolding kind_of reference_count order_of sizes_fit tree_of checked_of digit_value digits_at_front bad_place line_of of_event referenced smallest base some_not_void first_from first_instance rule_passes count_passes all_to tally_passes state_passes admission with_tally with_sum stored kept added_up sum_of feed_event feed_def report_bytes pull_read pull_def hex_of pulled_once fed_line
one-waits = record { none = refl; same = refl }

begun_3 : begun (opened_for frames_of3) ≡ none3
begun_3 = rw (opens_3, waits 1010000 none-waits)

pub none-at-once : output_of (bytes one_before) [] ≡ lines ("000000000000000000000000000000000000000000000000" ∷ [])
unfolding lines_of after_lines hex_of
none-at-once = output_run (bytes one_before) [] 3 filled3 read-before ∙ ap with_totals begun_3

run_3 : after_lines (begun (opened_for frames_of3)) (bytes "00FFFFFFFF000000000000000000000000" ∷ []) ≡ one3
unfolding after_lines
run_3 = rw (begun_3, feeds_3, one-verdict 1009999 false_3 one-waits)

pub starts_at_1 : output_of (bytes one_before) (lines ("00FFFFFFFF000000000000000000000000" ∷ []))
    ≡ lines ("00000001000100FFFFFFFF" ∷ "000000000000000100000000000000010000000000000000" ∷ [])
unfolding lines_of hex_of
starts_at_1 =
    output_run (bytes one_before) (lines ("00FFFFFFFF000000000000000000000000" ∷ [])) 3 filled3 read-before ∙ ap with_totals run_3

-- ---- refused rules, whatever the log: "`EE`, number (1 byte), place (2 bytes) as the only line"
pub empty-rule : (log : List ℕ) → output_of [] log ≡ lines ("EE020000" ∷ [])
unfolding read_of hex_of
empty-rule log = output_refused [] log 2 0 (replicate buffer_bytes 0) refl

pub undeclared_name : (log : List ℕ) → output_of (bytes "events a; notes t; t(b[i]) > 0") log ≡ lines ("EE040015" ∷ [])
unfolding class_of span same word_kind longest_mark mark_width fraction token_kind width_of token_here token_at clause_at tokens_in tokens_from code name_code decimal_from decimal decimals number_value start_factor step finish run deeper position negated put acts judged read_of kind_of reference_count order_of sizes_fit checked_of hex_of
undeclared_name log = output_refused (bytes "events a; notes t; t(b[i]) > 0") log 4 21 (replicate buffer_bytes 0) refl
