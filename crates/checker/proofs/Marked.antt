-- All thirteen marked examples (M) of document 01 in one table, M8 as point 2 of document 02 has it, computed: what reading gives, and
-- the answers of opening, of the plain machine and of the checker's definitions. Assumes nothing.
use Rattle.std.proofs.Common.{◌≡◌, ℕ, zero, suc, ◌+◌, ◌-◌, ◌/◌, ◌%◌, cond, ltb, List, [], ◌∷◌, ◌++◌, map, length, replicate, ℤ, pos, negsuc, refl}
use Prim.Native.String.{String}
use Rattle.rule.specs.Class.{class_of, span}
use Rattle.rule.specs.Token.{same, word_kind, longest_mark, mark_width, fraction, width_of, token_here, token_at, clause_at, tokens_in, tokens_from}
use Rattle.rule.specs.Token.{token_kind}
use Rattle.rule.specs.Name.{code, name_code}
use Rattle.rule.specs.Number.{number_value}
use Rattle.rule.specs.Spelling.{decimal_from, decimal, decimals}
use Rattle.rule.specs.Machine.{deeper, start_factor, step, finish, run}
use Rattle.rule.specs.Memory.{position, negated, put, acts}
use Rattle.rule.specs.Frames.{add, multiply, equal, less, more, or, kind_of}
use Rattle.rule.specs.Tree.{Sum, literal, reference, arithmetic, abs, relation, connective, RuleTree, postfix, bytes_of}
use Rattle.rule.specs.References.{reference_count}
use Rattle.rule.specs.Order.{order_of}
use Rattle.rule.specs.Sizes.{sizes_fit}
use Rattle.rule.specs.Build.{tree_of}
use Rattle.rule.specs.Check.{checked_of}
use Rattle.rule.specs.Limits.{buffer_bytes}
use Rattle.rule.specs.Reading.{judged, read_of}
use Rattle.rule.specs.ReadTold.{ReadAnswer}
use Rattle.rule.specs.ReadTold as reading
use Rattle.rule.proofs.Laws.{unscaled, latency, latency_text, bytes}
use Rattle.log_lines.specs.Digit.{digit_value}
use Rattle.log_lines.specs.Line.{digits_at_front, bad_place, line_of}
use Rattle.verdict.specs.declared.Verdict.TheVariants.{True, False, Unknown}
use Rattle.checker.specs.Limits.{window_words, report_least}
use Rattle.checker.specs.Answer.{Answer, opened, accepted, waiting, verdict, refused}
use Rattle.checker.specs.Base.{of_event, referenced, smallest, base, some_not_void, first_from, first_instance}
use Rattle.checker.specs.State.{fresh_state, with_tally, with_sum}
use Rattle.checker.specs.Ring.{stored, kept}
use Rattle.checker.specs.Sum.{added_up, sum_of}
use Rattle.checker.specs.Open.{open_def}
use Rattle.checker.specs.StateTest.{rule_passes, count_passes, all_to, tally_passes, state_passes}
use Rattle.checker.specs.Admission.{admission}
use Rattle.checker.specs.Feed.{feed_event, feed_def}
use Rattle.checker.specs.Report.{report_bytes}
use Rattle.checker.specs.Pull.{pull_read, pull_def}
use Rattle.checker.specs.Calls.{Call, feed, pull, Out, fed, pulled, outs, checker}
use Rattle.checker.specs.Demand.{answer_of, fresh}
use Rattle.checker.specs.Machine.{at_first, tabulated, joined, moved, machine_for}
use Rattle.checker.specs.declared.Profile.TheVariants.{Desk}

-- ---- rules, as texts and as trees; t is note 0
abbrev t : ℕ → ℤ → Sum
t e o = reference (record { event = e; note = 0; factor = 1; offset = o })

-- "With `events a b; notes t;` from here on", "(after 003)"
abbrev after003_text : String
after003_text = "events a b; notes t; t(a[i+10]) > 100 || t(b[i-5]) < 300"

abbrev after003 : RuleTree
after003 = unscaled (connective or (relation more (t 0 (pos 10)) (literal 0 100)) (relation less (t 1 (negsuc 4)) (literal 0 300)))

-- M8
abbrev two_before_text : String
two_before_text = "events a b; notes t; t(a[i-2]) > 0"

abbrev two_before : RuleTree
two_before = unscaled (relation more (t 0 (negsuc 1)) (literal 0 0))

-- M9
abbrev or_true_text : String
or_true_text = "events a b; notes t; t(a[i]) > 0 || 0 = 0"

abbrev or_true : RuleTree
or_true = unscaled (connective or (relation more (t 0 (pos 0)) (literal 0 0)) (relation equal (literal 0 0) (literal 0 0)))

-- M10
abbrev greatest_text : String
greatest_text = "events a b; notes t; abs(t(a[i])) > 2147483647"

abbrev greatest : RuleTree
greatest = unscaled (relation more (abs (t 0 (pos 0))) (literal 0 2147483647))

-- M11: "a product of two notes", in a relation with 0, and the same plus 1
abbrev product_text : String
product_text = "events a b; notes t; t(a[i]) * t(b[i]) > 0"

abbrev plus_one_text : String
plus_one_text = "events a b; notes t; t(a[i]) * t(b[i]) + 1 > 0"

abbrev product : Sum
product = arithmetic multiply (t 0 (pos 0)) (t 1 (pos 0))

-- ---- lines
abbrev digit : ℕ → ℕ
digit d = cond (ltb d 10) (48 + d) (55 + d)

-- the last n digits of a number, before others
abbrev pub digits : ℕ → ℕ → List ℕ → List ℕ
digits zero x rest = rest
digits (suc n) x rest = digits n (x / 16) (digit (x % 16) ∷ rest)

-- a line of event e whose first note has these bits, the others 0
abbrev pub line : ℕ → ℕ → Call
line e bits = feed (digits 2 e (digits 8 bits (replicate 24 48)))

abbrev pub next : Call
next = pull (replicate report_least 7)

-- ---- the table
pub record Example : Type 0 where
  pub text : String
  pub reading : ReadAnswer
  pub rule : RuleTree
  pub width : ℕ
  pub calls : List Call
  pub opening : Answer
  pub answers : List Answer

abbrev table : List Example
table =
    -- M1
    record {
      text = latency_text;
      reading = reading.frames 5;
      rule = latency;
      width = 4;
      opening = opened;
      calls = line 0 10 ∷ line 1 35 ∷ next ∷ [];
      answers = accepted ∷ accepted ∷ verdict True ∷ [];
    }
    -- M2
    ∷ record {
      text = latency_text;
      reading = reading.frames 5;
      rule = latency;
      width = 4;
      opening = opened;
      calls = line 0 10 ∷ line 1 36 ∷ next ∷ [];
      answers = accepted ∷ accepted ∷ verdict False ∷ [];
    }
    -- M3
    ∷ record {
      text = latency_text;
      reading = reading.frames 5;
      rule = latency;
      width = 4;
      opening = opened;
      calls = line 0 10 ∷ next ∷ [];
      answers = accepted ∷ waiting ∷ [];
    }
    -- M4: a[10] to a[19] settle instances 0 to 9
    ∷ record {
      text = after003_text;
      reading = reading.frames 7;
      rule = after003;
      width = 16;
      opening = opened;
      calls = replicate 10 (line 0 0) ++ (replicate 10 (line 0 200) ++ (replicate 10 next ++ (line 0 200 ∷ next ∷ [])));
      answers = replicate 20 accepted ++ (replicate 10 (verdict True) ++ (accepted ∷ verdict True ∷ []));
    }
    -- M5: a[10] to a[13] settle instances 0 to 3
    ∷ record {
      text = after003_text;
      reading = reading.frames 7;
      rule = after003;
      width = 16;
      opening = opened;
      calls = replicate 10 (line 0 0) ++ (replicate 4 (line 0 200) ++ (replicate 4 next ++ (line 0 200 ∷ next ∷ [])));
      answers = replicate 14 accepted ++ (replicate 4 (verdict True) ++ (accepted ∷ verdict True ∷ []));
    }
    -- M6
    ∷ record {
      text = after003_text;
      reading = reading.frames 7;
      rule = after003;
      width = 16;
      opening = opened;
      calls = replicate 10 (line 0 0) ++ (replicate 4 (line 0 200) ++ (replicate 4 next ++ (line 0 100 ∷ next ∷ [])));
      answers = replicate 14 accepted ++ (replicate 4 (verdict True) ++ (accepted ∷ verdict Unknown ∷ []));
    }
    -- M7
    ∷ record {
      text = after003_text;
      reading = reading.frames 7;
      rule = after003;
      width = 16;
      opening = opened;
      calls = replicate 10 (line 0 0) ++ (replicate 4 (line 0 200) ++ (replicate 4 next ++ (next ∷ [])));
      answers = replicate 14 accepted ++ (replicate 4 (verdict True) ++ (waiting ∷ []));
    }
    -- M8, by document 02, point 2: "M8 becomes: waiting"
    ∷ record {
      text = two_before_text;
      reading = reading.frames 3;
      rule = two_before;
      width = 4;
      opening = opened;
      calls = next ∷ [];
      answers = waiting ∷ [];
    }
    -- M9
    ∷ record {
      text = or_true_text;
      reading = reading.frames 7;
      rule = or_true;
      width = 4;
      opening = opened;
      calls = next ∷ [];
      answers = waiting ∷ [];
    }
    -- M10: −2,147,483,648
    ∷ record {
      text = greatest_text;
      reading = reading.frames 4;
      rule = greatest;
      width = 4;
      opening = opened;
      calls = line 0 0x80000000 ∷ next ∷ [];
      answers = accepted ∷ verdict True ∷ [];
    }
    -- M11
    ∷ record {
      text = product_text;
      reading = reading.frames 5;
      rule = unscaled (relation more product (literal 0 0));
      width = 4;
      opening = opened;
      calls = [];
      answers = [];
    }
    ∷ record {
      text = plus_one_text;
      reading = reading.refused 8 0;
      rule = unscaled (relation more (arithmetic add product (literal 0 1)) (literal 0 0));
      width = 4;
      opening = refused 8 0;
      calls = [];
      answers = [];
    }
    -- M12 and M13: W 1
    ∷ record {
      text = latency_text;
      reading = reading.frames 5;
      rule = latency;
      width = 1;
      opening = opened;
      calls = line 0 10 ∷ line 0 20 ∷ line 1 30 ∷ next ∷ line 0 20 ∷ [];
      answers = accepted ∷ refused 17 0 ∷ accepted ∷ verdict True ∷ accepted ∷ [];
    }
    ∷ []

-- ---- what the definitions answer
-- the frame buffer that reading is lent holds 7 throughout
abbrev lent : List ℕ
lent = replicate buffer_bytes 7

abbrev frames_of : Example → List ℕ
frames_of x = bytes_of (postfix x.rule)

-- what the buffer holds then: the frames of the tree and zero after the last, or what it held
abbrev filled : Example → ReadAnswer → List ℕ
filled x (reading.frames n) = frames_of x ++ replicate (buffer_bytes - length (frames_of x)) 0
filled x (reading.refused number place) = lent

-- the window that opening is given holds 7 throughout
abbrev window_of : Example → List ℤ
window_of x = replicate (window_words x.width) (pos 7)

abbrev by_machine : Example → List Answer
by_machine x = map answer_of (outs (machine_for (frames_of x) x.width) x.calls (at_first (frames_of x)))

abbrev by_checker : Example → List Answer
by_checker x = map answer_of (outs checker x.calls (fresh Desk (frames_of x) x.width (window_of x)))

-- reading, opening, the plain machine and the checker, example by example
pub record Shown (xs : List Example) : Type 0 where
  pub reading : map (λ x. read_of (bytes x.text) lent) xs ≡ map (λ x. (x.reading, filled x x.reading)) xs
  pub opening : map (λ x. (open_def Desk (frames_of x) x.width (window_of x)).answer) xs ≡ map (λ x. x.opening) xs
  pub machine : map by_machine xs ≡ map (λ x. x.answers) xs
  pub checker : map by_checker xs ≡ map (λ x. x.answers) xs

pub marked : Shown table
unfolding class_of span same word_kind longest_mark mark_width fraction token_kind width_of token_here token_at clause_at tokens_in tokens_from code name_code decimal_from decimal decimals number_value start_factor step finish run deeper position negated put acts judged read_of kind_of reference_count order_of sizes_fit tree_of checked_of digit_value digits_at_front bad_place line_of of_event referenced smallest base some_not_void first_from first_instance fresh_state with_tally with_sum stored kept added_up sum_of open_def rule_passes count_passes all_to tally_passes state_passes admission feed_event feed_def report_bytes pull_read pull_def outs tabulated joined moved
marked = record { reading = refl; opening = refl; machine = refl; checker = refl }

-- ---- the report of the bench program's example: instance 0 false, two references, 40 and 10; later bytes keep
abbrev bench : List Call
bench = line 0 10 ∷ line 1 40 ∷ next ∷ []

abbrev bench_outs : List Out
bench_outs =
    fed accepted ∷ fed accepted
    ∷ pulled (verdict False) (0 ∷ 0 ∷ 0 ∷ 0 ∷ 0 ∷ 2 ∷ 0 ∷ 0 ∷ 0 ∷ 0 ∷ 0x28 ∷ 0 ∷ 0 ∷ 0 ∷ 0 ∷ 0x0A ∷ replicate 150 7)
    ∷ []

pub bench-report : (outs (machine_for (bytes_of (postfix latency)) 4) bench (at_first (bytes_of (postfix latency))) ≡ bench_outs)
    × (outs checker bench (fresh Desk (bytes_of (postfix latency)) 4 (replicate (window_words 4) (pos 7))) ≡ bench_outs)
unfolding kind_of reference_count order_of sizes_fit tree_of checked_of digit_value digits_at_front bad_place line_of of_event referenced smallest base some_not_void first_from first_instance fresh_state with_tally with_sum stored kept added_up sum_of open_def rule_passes count_passes all_to tally_passes state_passes admission feed_event feed_def report_bytes pull_read pull_def outs tabulated joined moved
bench-report = (refl, refl)
