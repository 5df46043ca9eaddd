-- The sum of the window's words and 27 (document 02, point 11), computed: sums from both sides of 2^32, what calls leave, and what they
-- answer to another sum and to words that somebody changed. Assumes nothing.
use Rattle.std.proofs.Common.{◌≡◌, ℕ, ◌-◌, ◌*◌, Bool, true, false, List, [], ◌∷◌, ◌++◌, map, replicate, ℤ, pos, negsuc, refl}
use Rattle.rule.specs.Limits.{frame_limit, frame_bytes}
use Rattle.rule.specs.Frames.{more, kind_of}
use Rattle.rule.proofs.Laws.{unscaled}
use Rattle.rule.specs.Tree.{literal, relation, postfix, bytes_of}
use Rattle.rule.specs.References.{reference_count}
use Rattle.rule.specs.Order.{order_of}
use Rattle.rule.specs.Sizes.{sizes_fit}
use Rattle.rule.specs.Build.{tree_of}
use Rattle.rule.specs.Check.{checked_of}
use Rattle.log_lines.specs.Digit.{digit_value}
use Rattle.log_lines.specs.Line.{digits_at_front, bad_place, line_of}
use Rattle.verdict.specs.declared.Verdict.TheVariants.{True, False}
use Rattle.checker.specs.Answer.{Answer, ignored, verdict, refused}
use Rattle.checker.specs.Base.{of_event, referenced, smallest, base, some_not_void, first_from, first_instance}
use Rattle.checker.specs.State.{no_totals, state_with, fresh_state, with_tally, with_sum}
use Rattle.checker.specs.Ring.{stored, kept}
use Rattle.checker.specs.Sum.{added_up, sum_of, sum_fits}
use Rattle.checker.specs.Open.{open_def}
use Rattle.checker.specs.StateTest.{rule_passes, count_passes, all_to, tally_passes, state_passes}
use Rattle.checker.specs.Admission.{admission}
use Rattle.checker.specs.Feed.{feed_event, feed_def}
use Rattle.checker.specs.Report.{report_bytes}
use Rattle.checker.specs.Pull.{pull_read, pull_def}
use Rattle.checker.specs.Calls.{Call, feed, pull, end, Checker, checker}
use Rattle.checker.specs.Demand.{answer_of, checker_after}
use Rattle.checker.specs.declared.Profile.TheVariants.{Desk}
use Rattle.checker.proofs.Marked.{digits, line, next}
use Rattle.checker.proofs.CallExamples.{note}

-- ---- sums
record SumExample : Type 0 where
  pub words : List ℤ
  pub sum : ℕ

abbrev sums : List SumExample
sums =
    record { words = []; sum = 0 }
    ∷ record { words = replicate 32 (pos 0); sum = 0 }
    ∷ record { words = pos 1 ∷ []; sum = 1 }
    -- the greatest and the least word
    ∷ record { words = pos 2147483647 ∷ []; sum = 2147483647 }
    ∷ record { words = negsuc 2147483647 ∷ []; sum = 2147483648 }
    ∷ record { words = negsuc 0 ∷ []; sum = 4294967295 }
    -- 2^32 and its neighbours
    ∷ record { words = pos 2147483647 ∷ pos 2147483647 ∷ pos 1 ∷ []; sum = 4294967295 }
    ∷ record { words = pos 2147483647 ∷ pos 2147483647 ∷ pos 2 ∷ []; sum = 0 }
    ∷ record { words = negsuc 0 ∷ pos 1 ∷ []; sum = 0 }
    ∷ record { words = negsuc 0 ∷ pos 2 ∷ []; sum = 1 }
    ∷ record { words = negsuc 2147483647 ∷ negsuc 2147483647 ∷ []; sum = 0 }
    ∷ record { words = negsuc 2147483647 ∷ pos 2147483647 ∷ []; sum = 4294967295 }
    -- past it twice
    ∷ record { words = negsuc 0 ∷ negsuc 0 ∷ negsuc 0 ∷ []; sum = 4294967293 }
    -- whatever the order
    ∷ record { words = pos 5 ∷ negsuc 6 ∷ pos 9 ∷ []; sum = 7 }
    ∷ record { words = pos 9 ∷ pos 5 ∷ negsuc 6 ∷ []; sum = 7 }
    ∷ []

sums-shown : map (λ x. sum_of x.words) sums ≡ map (λ x. x.sum) sums
unfolding added_up sum_of
sums-shown = refl

-- ---- a checker of the rule t(a[i]) > 5 with W 1
abbrev frames : List ℕ
frames = bytes_of (postfix (unscaled (relation more (note 0 0 1 (pos 0)) (literal 0 5))))

-- with so many lines of a, this sum and these words
abbrev holding : ℕ → ℕ → List ℤ → Checker
holding count sum words =
    record {
      state = state_with (frames ++ replicate (frame_limit * frame_bytes - 24) 0) 3 1 0 (record {
        counts = count ∷ replicate 7 0;
        next = 0;
        totals = no_totals;
      }) sum;
      words = words;
    }

-- the window, by its first two words
abbrev window : ℤ → ℤ → List ℤ
window a b = a ∷ b ∷ replicate 30 (pos 0)

-- ---- what calls leave: a line with notes 10, -1, 0, 0 is stored, one that is ignored or refused is not
abbrev stores : Call
stores = feed (digits 2 0 (digits 8 10 (digits 8 0xFFFFFFFF (digits 8 0 (digits 8 0 [])))))

opened-sum : checker_after Desk frames 1 (replicate 32 (pos 7)) [] ≡ holding 0 0 (window (pos 0) (pos 0))
unfolding kind_of reference_count order_of sizes_fit tree_of checked_of some_not_void first_from first_instance fresh_state open_def end
opened-sum = refl

left-sum : checker_after Desk frames 1 (replicate 32 (pos 7)) (stores ∷ line 1 99 ∷ line 0 99 ∷ feed [] ∷ pull [] ∷ []) ≡ holding 1 9 (window (pos 10) (negsuc 0))
unfolding kind_of reference_count order_of sizes_fit tree_of checked_of digit_value digits_at_front bad_place line_of of_event referenced smallest base some_not_void first_from first_instance fresh_state with_tally with_sum stored kept added_up sum_of open_def rule_passes count_passes all_to tally_passes state_passes admission feed_event feed_def report_bytes pull_read pull_def end
left-sum = refl

-- ---- another sum, and words that somebody changed
record Stray : Type 0 where
  pub count : ℕ
  pub sum : ℕ
  pub words : List ℤ
  -- whether the sum is the window's
  pub fits : Bool
  pub call : Call
  pub answer : Answer

-- one line of a that was stored
abbrev stray : ℕ → List ℤ → Bool → Call → Answer → Stray
stray sum words fits call answer = record { count = 1; sum = sum; words = words; fits = fits; call = call; answer = answer }

abbrev strays : List Stray
strays =
    -- as the calls left it
    stray 9 (window (pos 10) (negsuc 0)) true next (verdict True)
    ∷ stray 9 (window (pos 10) (negsuc 0)) true (pull (replicate 165 7)) (refused 14 0)
    ∷ stray 9 (window (pos 10) (negsuc 0)) true (line 1 99) ignored
    ∷ stray 9 (window (pos 10) (negsuc 0)) true (feed []) (refused 15 0)
    ∷ stray 9 (window (pos 10) (negsuc 0)) true (line 0 99) (refused 17 0)
    -- one word changed, whatever the call
    ∷ stray 9 (window (pos 11) (negsuc 0)) false next (refused 27 0)
    ∷ stray 9 (window (pos 11) (negsuc 0)) false (pull (replicate 165 7)) (refused 27 0)
    ∷ stray 9 (window (pos 11) (negsuc 0)) false (line 1 99) (refused 27 0)
    ∷ stray 9 (window (pos 11) (negsuc 0)) false (feed []) (refused 27 0)
    ∷ stray 9 (window (pos 11) (negsuc 0)) false (line 0 99) (refused 27 0)
    ∷ stray 9 (window (pos 9) (negsuc 0)) false next (refused 27 0)
    ∷ stray 9 (window (negsuc 2147483637) (negsuc 0)) false next (refused 27 0)
    ∷ stray 9 (window (pos 10) (pos 0)) false next (refused 27 0)
    ∷ stray 9 (pos 10 ∷ negsuc 0 ∷ replicate 29 (pos 0) ++ (pos 1 ∷ [])) false next (refused 27 0)
    -- two words changed so that the sum stays: they pass, with what they now say
    ∷ stray 9 (window (pos 11) (negsuc 1)) true next (verdict True)
    ∷ stray 9 (window (pos 3) (pos 6)) true next (verdict False)
    -- another sum, an untouched window
    ∷ stray 8 (window (pos 10) (negsuc 0)) false next (refused 27 0)
    ∷ stray 10 (window (pos 10) (negsuc 0)) false (feed []) (refused 27 0)
    ∷ stray 0 (window (pos 10) (negsuc 0)) false next (refused 27 0)
    ∷ stray 4294967295 (window (pos 10) (negsuc 0)) false next (refused 27 0)
    -- 13 comes before 27, and 12 before both
    ∷ stray 8 (pos 10 ∷ negsuc 0 ∷ replicate 29 (pos 0)) false next (refused 13 0)
    ∷ stray 9 (pos 10 ∷ negsuc 0 ∷ replicate 31 (pos 0)) true (feed []) (refused 13 0)
    ∷ record { count = 2; sum = 8; words = window (pos 10) (negsuc 0); fits = false; call = next; answer = refused 12 0 }
    ∷ record { count = 2; sum = 8; words = []; fits = false; call = feed []; answer = refused 12 0 }
    ∷ []

strays-compared : map (λ x. sum_fits (holding x.count x.sum x.words).state x.words) strays ≡ map (λ x. x.fits) strays
unfolding added_up sum_of
strays-compared = refl

strays-shown : map (λ x. answer_of (checker (holding x.count x.sum x.words) x.call).out) strays ≡ map (λ x. x.answer) strays
unfolding kind_of reference_count order_of sizes_fit tree_of checked_of digit_value digits_at_front bad_place line_of of_event referenced smallest base some_not_void first_from first_instance with_tally with_sum stored kept added_up sum_of rule_passes count_passes all_to tally_passes state_passes admission feed_event feed_def report_bytes pull_read pull_def
strays-shown = refl
