-- Where verdicts begin (document 02, point 2), computed, from both sides of each limit: the first instance of rules by their texts,
-- and what 12 says of p and the totals. Assumes nothing.
use Rattle.std.proofs.Common.{◌≡◌, ℕ, ◌-◌, ◌*◌, Bool, true, false, List, [], ◌∷◌, ◌++◌, map, length, replicate, ℤ, pos, negsuc, refl}
use Prim.Native.String.{String}
use Rattle.rule.specs.Class.{class_of, span}
use Rattle.rule.specs.Token.{same, word_kind, longest_mark, mark_width, fraction, width_of, token_here, token_at, clause_at, tokens_in, tokens_from}
use Rattle.rule.specs.Token.{token_kind}
use Rattle.rule.specs.Name.{code, name_code}
use Rattle.rule.specs.Number.{number_value}
use Rattle.rule.specs.Spelling.{decimal_from, decimal, decimals}
use Rattle.rule.specs.Machine.{deeper, start_factor, step, finish, run}
use Rattle.rule.specs.Memory.{position, negated, put, acts}
use Rattle.rule.specs.Frames.{more, or, kind_of}
use Rattle.rule.specs.Tree.{literal, Cond, relation, connective, RuleTree, postfix, bytes_of}
use Rattle.rule.specs.References.{reference_count}
use Rattle.rule.specs.Order.{order_of}
use Rattle.rule.specs.Sizes.{sizes_fit}
use Rattle.rule.specs.Build.{tree_of}
use Rattle.rule.specs.Check.{checked_of}
use Rattle.rule.specs.Limits.{buffer_bytes, frame_limit, frame_bytes}
use Rattle.rule.specs.Reading.{judged, read_of}
use Rattle.rule.specs.ReadTold as reading
use Rattle.rule.proofs.Laws.{unscaled, bytes}
use Rattle.checker.specs.Limits.{window_words}
use Rattle.checker.specs.Base.{of_event, referenced, smallest, base, some_not_void, first_from, first_instance, first_for}
use Rattle.checker.specs.State.{state_with, fresh_state}
use Rattle.checker.specs.Open.{open_def}
use Rattle.checker.specs.StateTest.{rule_passes, count_passes, all_to, tally_passes, state_passes}
use Rattle.checker.specs.Machine.{at_first}
use Rattle.checker.specs.declared.Profile.TheVariants.{Desk}
use Rattle.checker.specs.declared.State.{State}
use Rattle.checker.proofs.CallExamples.{note}

-- t(a[..]) > 0 or t(b[..]) > 0, by the event's number, the factor and the offset
abbrev above : ℕ → ℕ → ℤ → Cond
above e factor offset = relation more (note 0 e factor offset) (literal 0 0)

-- ---- the first instance
record StartExample : Type 0 where
  -- the condition after `events a b; notes t;`
  pub text : String
  pub rule : RuleTree
  pub start : ℕ

abbrev starts : List StartExample
starts =
    -- offsets from 0 on
    record { text = "t(a[i]) > 0"; rule = unscaled (above 0 1 (pos 0)); start = 0 }
    ∷ record { text = "t(a[i+1]) > 0"; rule = unscaled (above 0 1 (pos 1)); start = 0 }
    -- one below 0, two
    ∷ record { text = "t(a[i-1]) > 0"; rule = unscaled (above 0 1 (negsuc 0)); start = 1 }
    ∷ record { text = "t(a[i-2]) > 0"; rule = unscaled (above 0 1 (negsuc 1)); start = 2 }
    -- rounded up
    ∷ record { text = "t(a[2*i-2]) > 0"; rule = unscaled (above 0 2 (negsuc 1)); start = 1 }
    ∷ record { text = "t(a[2*i-3]) > 0"; rule = unscaled (above 0 2 (negsuc 2)); start = 2 }
    ∷ record { text = "t(a[2*i-4]) > 0"; rule = unscaled (above 0 2 (negsuc 3)); start = 2 }
    ∷ record { text = "t(a[9*i-1]) > 0"; rule = unscaled (above 0 9 (negsuc 0)); start = 1 }
    ∷ record { text = "t(a[9*i-9]) > 0"; rule = unscaled (above 0 9 (negsuc 8)); start = 1 }
    ∷ record { text = "t(a[9*i-10]) > 0"; rule = unscaled (above 0 9 (negsuc 9)); start = 2 }
    -- the smallest, whichever comes first
    ∷ record { text = "t(a[i-5]) > 0 || t(b[i-2]) > 0"; rule = unscaled (connective or (above 0 1 (negsuc 4)) (above 1 1 (negsuc 1))); start = 2 }
    ∷ record { text = "t(b[i-2]) > 0 || t(a[i-5]) > 0"; rule = unscaled (connective or (above 1 1 (negsuc 1)) (above 0 1 (negsuc 4))); start = 2 }
    ∷ record { text = "t(a[i-5]) > 0 || t(b[i]) > 0"; rule = unscaled (connective or (above 0 1 (negsuc 4)) (above 1 1 (pos 0))); start = 0 }
    ∷ []

-- the greatest
abbrev latest : List StartExample
latest =
    record { text = "t(a[i-9998]) > 0"; rule = unscaled (above 0 1 (negsuc 9997)); start = 9998 }
    ∷ record { text = "t(a[i-9999]) > 0"; rule = unscaled (above 0 1 (negsuc 9998)); start = 9999 }
    ∷ record { text = "t(a[9*i-9999]) > 0"; rule = unscaled (above 0 9 (negsuc 9998)); start = 1111 }
    ∷ []

abbrev frames_of : StartExample → List ℕ
frames_of x = bytes_of (postfix x.rule)

abbrev text_of : StartExample → List ℕ
text_of x = bytes "events a b; notes t; " ++ bytes x.text

-- of the rule's frames, which reading the text gives
record FirstShown (xs : List StartExample) : Type 0 where
  pub frames : map (λ x. read_of (text_of x) (replicate buffer_bytes 7)) xs
      ≡ map (λ x. (reading.frames (length (postfix x.rule)), frames_of x ++ replicate (buffer_bytes - length (frames_of x)) 0)) xs
  pub first : map (λ x. first_for (frames_of x)) xs ≡ map (λ x. x.start) xs

starts-shown : FirstShown starts
unfolding class_of span same word_kind longest_mark mark_width fraction token_kind width_of token_here token_at clause_at tokens_in tokens_from code name_code decimal_from decimal decimals number_value start_factor step finish run deeper position negated put acts judged read_of kind_of reference_count order_of sizes_fit tree_of checked_of some_not_void first_from first_instance
starts-shown = record { frames = refl; first = refl }

latest-shown : FirstShown latest
unfolding class_of span same word_kind longest_mark mark_width fraction token_kind width_of token_here token_at clause_at tokens_in tokens_from code name_code decimal_from decimal decimals number_value start_factor step finish run deeper position negated put acts judged read_of kind_of reference_count order_of sizes_fit tree_of checked_of some_not_void first_from first_instance
latest-shown = record { frames = refl; first = refl }

-- of the plain machine at first, and in the state that opening gives
p_shown : (map (λ x. (at_first (frames_of x)).next) starts ≡ map (λ x. x.start) starts)
    × (map (λ x. (open_def Desk (frames_of x) 1 (replicate (window_words 1) (pos 7))).state.next.0) starts ≡ map (λ x. x.start) starts)
unfolding kind_of reference_count order_of sizes_fit tree_of checked_of some_not_void first_from first_instance fresh_state open_def
p_shown = (refl, refl)

-- ---- 12, with W 1 and no line
record TallyExample : Type 0 where
  pub next : ℕ
  pub held : ℕ
  pub failed : ℕ
  pub unknown : ℕ
  pub passes : Bool

-- a state of the rule t(a[i-2]) > 0, which starts at 2
abbrev state_of : TallyExample → State
state_of x =
    state_with (bytes_of (postfix (unscaled (above 0 1 (negsuc 1)))) ++ replicate (frame_limit * frame_bytes - 24) 0) 3 1 0
    (record {
      counts = replicate 8 0;
      next = x.next;
      totals = record { held = x.held; failed = x.failed; unknown = x.unknown };
    })
    0

abbrev tallies : List TallyExample
tallies =
    -- at the start
    record { next = 2; held = 0; failed = 0; unknown = 0; passes = true }
    ∷ record { next = 2; held = 1; failed = 0; unknown = 0; passes = false }
    ∷ record { next = 2; held = 0; failed = 0; unknown = 2; passes = false }
    -- below it
    ∷ record { next = 1; held = 0; failed = 0; unknown = 0; passes = false }
    ∷ record { next = 1; held = 0; failed = 0; unknown = 1; passes = false }
    ∷ record { next = 0; held = 0; failed = 0; unknown = 0; passes = false }
    -- after three verdicts
    ∷ record { next = 5; held = 1; failed = 1; unknown = 1; passes = true }
    ∷ record { next = 5; held = 1; failed = 1; unknown = 0; passes = false }
    ∷ record { next = 5; held = 2; failed = 1; unknown = 1; passes = false }
    ∷ record { next = 5; held = 2; failed = 1; unknown = 2; passes = false }
    -- the greatest p
    ∷ record { next = 1009999; held = 1009997; failed = 0; unknown = 0; passes = true }
    ∷ record { next = 1009999; held = 1009999; failed = 0; unknown = 0; passes = false }
    ∷ record { next = 1010000; held = 1009998; failed = 0; unknown = 0; passes = false }
    ∷ []

tallies-tested : map (λ x. state_passes (state_of x)) tallies ≡ map (λ x. x.passes) tallies
unfolding kind_of reference_count order_of sizes_fit tree_of checked_of of_event referenced smallest base some_not_void first_from first_instance rule_passes count_passes all_to tally_passes state_passes
tallies-tested = refl
