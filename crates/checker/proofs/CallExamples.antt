-- Lists of calls with all that they give, in one table, computed: the answers and report buffers of the plain machine and of the
-- checker, the counts, p and totals of both, and all words of the window. Assumes nothing.
use Rattle.std.proofs.Common.{◌≡◌, ℕ, List, [], ◌∷◌, ◌++◌, map, replicate, ℤ, pos, negsuc, refl}
use Rattle.rule.specs.Frames.{subtract, unequal, less, more, and, kind_of}
use Rattle.rule.proofs.Laws.{unscaled}
use Rattle.rule.specs.Tree.{Sum, literal, reference, arithmetic, relation, connective, RuleTree, postfix, bytes_of}
use Rattle.rule.specs.References.{reference_count}
use Rattle.rule.specs.Order.{order_of}
use Rattle.rule.specs.Sizes.{sizes_fit}
use Rattle.rule.specs.Build.{tree_of}
use Rattle.rule.specs.Check.{checked_of}
use Rattle.log_lines.specs.Digit.{digit_value}
use Rattle.log_lines.specs.Line.{digits_at_front, bad_place, line_of}
use Rattle.verdict.specs.declared.Verdict.{Verdict}
use Rattle.verdict.specs.declared.Verdict.TheVariants.{True, False, Unknown}
use Rattle.checker.specs.Limits.{window_words}
use Rattle.checker.specs.Answer.{opened, accepted, waiting, verdict, refused}
use Rattle.checker.specs.Base.{of_event, referenced, smallest, base, some_not_void, first_from, first_instance}
use Rattle.checker.specs.State.{Tally, tally_in, fresh_state, with_tally, with_sum}
use Rattle.checker.specs.Ring.{stored, kept}
use Rattle.checker.specs.Sum.{added_up, sum_of}
use Rattle.checker.specs.Open.{open_def}
use Rattle.checker.specs.StateTest.{rule_passes, count_passes, all_to, tally_passes, state_passes}
use Rattle.checker.specs.Admission.{admission}
use Rattle.checker.specs.Feed.{feed_event, feed_def}
use Rattle.checker.specs.Report.{report_bytes}
use Rattle.checker.specs.Pull.{pull_read, pull_def}
use Rattle.checker.specs.Calls.{Call, feed, pull, Out, fed, pulled, outs, end, checker}
use Rattle.checker.specs.Machine.{at_first, tally_of, tabulated, joined, moved, machine_for}
use Rattle.checker.specs.Demand.{fresh, checker_after, machine_after}
use Rattle.checker.specs.declared.Profile.TheVariants.{Desk}
use Rattle.checker.proofs.Marked.{digits, line, next}

-- ---- rules; a is event 0 and b event 1, t is note 0 and u note 1
-- note n of event e at factor × i + offset
abbrev pub note : ℕ → ℕ → ℕ → ℤ → Sum
note n e factor offset = reference (record { event = e; note = n; factor = factor; offset = offset })

-- t(a[2*i+1]) - t(a[2*i]) < 9: base 2 × p
abbrev neighbours : RuleTree
neighbours = unscaled (relation less (arithmetic subtract (note 0 0 2 (pos 1)) (note 0 0 2 (pos 0))) (literal 0 9))

-- t(a[2*i]) - t(a[i]) < 9: base p, and the two references are i apart
abbrev growing : RuleTree
growing = unscaled (relation less (arithmetic subtract (note 0 0 2 (pos 0)) (note 0 0 1 (pos 0))) (literal 0 9))

-- t(b[i-2]) > 0 && { t(a[i]) > 5 && t(a[i+1]) != 0 }
abbrev three : RuleTree
three =
    unscaled (connective and (relation more (note 0 1 1 (negsuc 1)) (literal 0 0))
    (connective and (relation more (note 0 0 1 (pos 0)) (literal 0 5)) (relation unequal (note 0 0 1 (pos 1)) (literal 0 0))))

-- t(a[2*i-3]) > 0: verdicts begin at instance 2 (document 02, point 2), and base is 2 × p - 3
abbrev late : RuleTree
late = unscaled (relation more (note 0 0 2 (negsuc 2)) (literal 0 0))

-- u(b[2*i+1]) < 9: base 2 × p + 1
abbrev odd : RuleTree
odd = unscaled (relation less (note 1 1 2 (pos 1)) (literal 0 9))

-- ---- calls and what they give
-- a line of event b whose notes have these bits
abbrev line_b : ℕ → ℕ → ℕ → ℕ → Call
line_b j k m n = feed (digits 2 1 (digits 8 j (digits 8 k (digits 8 m (digits 8 n [])))))

-- 'window full'
abbrev full : Out
full = fed (refused 17 0)

-- a verdict that leaves the report buffer of `next` as it was
abbrev left : Verdict → Out
left v = pulled (verdict v) (replicate 166 7)

-- a false verdict that fills it with these bytes; so many later bytes keep
abbrev with_report : List ℕ → ℕ → Out
with_report bytes n = pulled (verdict False) (bytes ++ replicate n 7)

-- counts of a and b, p, and the totals true, false, unknown
abbrev tallied : ℕ → ℕ → ℕ → ℕ → ℕ → ℕ → Tally
tallied a b p held failed unknown =
    record {
      counts = a ∷ b ∷ replicate 6 0;
      next = p;
      totals = record { held = held; failed = failed; unknown = unknown };
    }

-- so many words that are 0
abbrev zeros : ℕ → List ℤ
zeros n = replicate n (pos 0)

-- the four words of a line whose first note is z and the others 0, before others
abbrev four : ℤ → List ℤ → List ℤ
four z rest = z ∷ pos 0 ∷ pos 0 ∷ pos 0 ∷ rest

-- ---- lines of b with four notes, by their occurrence, and the words of those that are stored
abbrev b0 : Call
b0 = line_b 0x01 0x02 0x03 0x04

abbrev b1 : Call
b1 = line_b 0x11 0xFFFFFFEE 0x13 0x80000000

abbrev words1 : List ℤ
words1 = pos 0x11 ∷ negsuc 17 ∷ pos 0x13 ∷ negsuc 2147483647 ∷ []

abbrev b2 : Call
b2 = line_b 0x21 0x22 0x23 0x24

abbrev b3 : Call
b3 = line_b 0x31 9 0x33 0x34

abbrev words3 : List ℤ
words3 = pos 0x31 ∷ pos 9 ∷ pos 0x33 ∷ pos 0x34 ∷ []

abbrev b4 : Call
b4 = line_b 0x41 0x42 0x43 0x44

abbrev words4 : List ℤ
words4 = pos 0x41 ∷ pos 0x42 ∷ pos 0x43 ∷ pos 0x44 ∷ []

-- ---- the table
pub record CallExample : Type 0 where
  pub rule : RuleTree
  pub width : ℕ
  pub calls : List Call
  -- what the calls give
  pub given : List Out
  -- what stands after the last
  pub tally : Tally
  pub words : List ℤ

abbrev table : List CallExample
table =
    -- factor 2, two references to one event, W 3: room for a[0] to a[2], and after the first verdict for a[3] and a[4]
    record {
      rule = neighbours;
      width = 3;
      calls = line 0 10 ∷ line 0 18 ∷ line 0 20 ∷ line 0 99 ∷ next ∷ line 0 29 ∷ line 0 40 ∷ line 0 99 ∷ next ∷ [];
      given =
          fed accepted ∷ fed accepted ∷ fed accepted ∷ full ∷ left True ∷ fed accepted ∷ fed accepted ∷ full
          ∷ with_report (0 ∷ 0 ∷ 0 ∷ 1 ∷ 0 ∷ 2 ∷ 0 ∷ 0 ∷ 0 ∷ 0 ∷ 29 ∷ 0 ∷ 0 ∷ 0 ∷ 0 ∷ 20 ∷ []) 150
          ∷ [];
      tally = tallied 5 0 2 1 1 0;
      words = four (pos 29) (four (pos 40) (four (pos 20) (zeros 84)));
    }
    -- the distance grows, W 2: each verdict makes room for one line, and instance 2 waits for a[4], for which there is none
    ∷ record {
      rule = growing;
      width = 2;
      calls = line 0 1 ∷ line 0 3 ∷ line 0 99 ∷ next ∷ line 0 12 ∷ line 0 99 ∷ next ∷ line 0 20 ∷ line 0 99 ∷ next ∷ [];
      given =
          fed accepted ∷ fed accepted ∷ full ∷ left True ∷ fed accepted ∷ full
          ∷ with_report (0 ∷ 0 ∷ 0 ∷ 1 ∷ 0 ∷ 2 ∷ 0 ∷ 0 ∷ 0 ∷ 0 ∷ 12 ∷ 0 ∷ 0 ∷ 0 ∷ 0 ∷ 3 ∷ []) 150
          ∷ fed accepted ∷ full ∷ pulled waiting (replicate 166 7) ∷ [];
      tally = tallied 4 0 2 1 1 0;
      words = four (pos 12) (four (pos 20) (zeros 56));
    }
    -- a report with the marks 02, 00 and 01, in frame order, at instance 1; before it a buffer of 165 bytes, 'waiting' and an
    -- unknown verdict, which leave the buffer
    ∷ record {
      rule = three;
      width = 2;
      calls =
          line 0 9 ∷ pull (replicate 165 7) ∷ next ∷ line 0 0x81020304 ∷ next ∷ pull (replicate 100 7 ++ replicate 70 8) ∷ [];
      given =
          fed accepted ∷ pulled (refused 14 0) (replicate 165 7) ∷ pulled waiting (replicate 166 7) ∷ fed accepted ∷ left Unknown
          ∷ pulled (verdict False)
          (0 ∷ 0 ∷ 0 ∷ 1 ∷ 0 ∷ 3 ∷ 2 ∷ 0 ∷ 0 ∷ 0 ∷ 0 ∷ 0 ∷ 0x81 ∷ 2 ∷ 3 ∷ 4 ∷ 1 ∷ 0 ∷ 0 ∷ 0 ∷ 0 ∷ (replicate 79 7 ++ replicate 70 8))
          ∷ [];
      tally = tallied 2 0 2 0 1 1;
      words = four (pos 9) (four (negsuc 2130574587) (zeros 56));
    }
    -- instance 2 is the first: it waits for a[1], and its report has its number
    ∷ record {
      rule = late;
      width = 2;
      calls = next ∷ line 0 9 ∷ next ∷ line 0 0 ∷ next ∷ next ∷ line 0 7 ∷ line 0 5 ∷ next ∷ [];
      given =
          pulled waiting (replicate 166 7) ∷ fed accepted ∷ pulled waiting (replicate 166 7) ∷ fed accepted
          ∷ with_report (0 ∷ 0 ∷ 0 ∷ 2 ∷ 0 ∷ 1 ∷ 0 ∷ 0 ∷ 0 ∷ 0 ∷ 0 ∷ []) 155
          ∷ pulled waiting (replicate 166 7) ∷ fed accepted ∷ fed accepted ∷ left True ∷ [];
      tally = tallied 4 0 4 1 1 0;
      words = zeros 4 ++ four (pos 5) (zeros 56);
    }
    -- b[0] is below base 1: counted and not stored
    ∷ record {
      rule = odd;
      width = 2;
      calls = b0 ∷ [];
      given = fed accepted ∷ [];
      tally = tallied 0 1 0 0 0 0;
      words = zeros 64;
    }
    -- b[1] is stored from word (1 × 2 + 1 mod 2) × 4 on
    ∷ record {
      rule = odd;
      width = 2;
      calls = b0 ∷ b1 ∷ [];
      given = fed accepted ∷ fed accepted ∷ [];
      tally = tallied 0 2 0 0 0 0;
      words = zeros 12 ++ (words1 ++ zeros 48);
    }
    -- b[2] is below base 3: counted and not stored
    ∷ record {
      rule = odd;
      width = 2;
      calls = b0 ∷ b1 ∷ next ∷ b2 ∷ [];
      given = fed accepted ∷ fed accepted ∷ left True ∷ fed accepted ∷ [];
      tally = tallied 0 3 1 1 0 0;
      words = zeros 12 ++ (words1 ++ zeros 48);
    }
    -- b[3] is stored where b[1] was, which is below base, and b[4] from word (1 × 2 + 4 mod 2) × 4 on; then the window is full
    ∷ record {
      rule = odd;
      width = 2;
      calls = b0 ∷ b1 ∷ next ∷ b2 ∷ b3 ∷ b4 ∷ b2 ∷ next ∷ [];
      given =
          fed accepted ∷ fed accepted ∷ left True ∷ fed accepted ∷ fed accepted ∷ fed accepted ∷ full
          ∷ with_report (0 ∷ 0 ∷ 0 ∷ 1 ∷ 0 ∷ 1 ∷ 0 ∷ 0 ∷ 0 ∷ 0 ∷ 9 ∷ []) 155
          ∷ [];
      tally = tallied 0 5 2 1 1 0;
      words = zeros 8 ++ (words4 ++ (words3 ++ zeros 48));
    }
    ∷ []

-- ---- what the definitions give
abbrev frames_of : CallExample → List ℕ
frames_of x = bytes_of (postfix x.rule)

-- the window that opening is given holds 7 throughout
abbrev window_of : CallExample → List ℤ
window_of x = replicate (window_words x.width) (pos 7)

-- opening, the plain machine and the checker, example by example
pub record CallsShown (xs : List CallExample) : Type 0 where
  pub opening : map (λ x. (open_def Desk (frames_of x) x.width (window_of x)).answer) xs ≡ map (λ x. opened) xs
  pub machine : map (λ x. outs (machine_for (frames_of x) x.width) x.calls (at_first (frames_of x))) xs ≡ map (λ x. x.given) xs
  pub checker : map (λ x. outs checker x.calls (fresh Desk (frames_of x) x.width (window_of x))) xs ≡ map (λ x. x.given) xs
  pub machine-tally : map (λ x. tally_of (machine_after (frames_of x) x.width x.calls)) xs ≡ map (λ x. x.tally) xs
  pub checker-tally : map (λ x. tally_in (checker_after Desk (frames_of x) x.width (window_of x) x.calls).state) xs
      ≡ map (λ x. x.tally) xs
  pub words : map (λ x. (checker_after Desk (frames_of x) x.width (window_of x) x.calls).words) xs ≡ map (λ x. x.words) xs

pub calls-shown : CallsShown table
unfolding kind_of reference_count order_of sizes_fit tree_of checked_of digit_value digits_at_front bad_place line_of of_event referenced smallest base some_not_void first_from first_instance fresh_state with_tally with_sum stored kept added_up sum_of open_def rule_passes count_passes all_to tally_passes state_passes admission feed_event feed_def report_bytes pull_read pull_def outs end tabulated joined moved
calls-shown =
    record { opening = refl; machine = refl; checker = refl; machine-tally = refl; checker-tally = refl; words = refl }
