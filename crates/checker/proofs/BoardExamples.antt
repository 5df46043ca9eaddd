-- Desk and board (document 02, point 9), computed, from both sides of each limit: what opening answers, with the profile in the state
-- that it gives, and what 12 says of a profile, W and frames. Assumes nothing.
use Rattle.std.proofs.Common.{◌≡◌, ℕ, zero, suc, ◌-◌, ◌*◌, Bool, true, false, List, [], ◌∷◌, ◌++◌, map, length, replicate, pos, refl}
use Rattle.rule.specs.Frames.{more, kind_of}
use Rattle.rule.proofs.Laws.{unscaled}
use Rattle.rule.specs.Tree.{literal, Cond, relation, not, postfix, bytes_of}
use Rattle.rule.specs.References.{reference_count}
use Rattle.rule.specs.Order.{order_of}
use Rattle.rule.specs.Sizes.{sizes_fit}
use Rattle.rule.specs.Build.{tree_of}
use Rattle.rule.specs.Check.{checked_of}
use Rattle.rule.specs.Limits.{frame_limit, frame_bytes}
use Rattle.checker.specs.Answer.{Answer, opened, refused}
use Rattle.checker.specs.Base.{of_event, referenced, smallest, base, some_not_void, first_from, first_instance}
use Rattle.checker.specs.State.{tally_from, state_with, fresh_state}
use Rattle.checker.specs.Open.{open_def}
use Rattle.checker.specs.StateTest.{rule_passes, count_passes, all_to, tally_passes, state_passes}
use Rattle.checker.specs.declared.Profile.{Profile}
use Rattle.checker.specs.declared.Profile.TheVariants.{Desk, Board}
use Rattle.checker.specs.declared.State.{State}
use Rattle.checker.proofs.CallExamples.{note}

-- ---- rules by their number of frames
-- n times ! before a condition
unfoldable nots : ℕ → Cond → Cond
nots zero c = c
nots (suc n) c = not (nots n c)

-- the frames of `! .. ! t(a[i]) > 0`, 3 at the least
abbrev frames : ℕ → List ℕ
frames n = bytes_of (postfix (unscaled (nots (n - 3) (relation more (note 0 0 1 (pos 0)) (literal 0 0)))))

-- of `! .. ! 0 > 0`, which has no reference
abbrev unnamed : ℕ → List ℕ
unnamed n = bytes_of (postfix (unscaled (nots (n - 3) (relation more (literal 0 0) (literal 0 0)))))

-- ---- opening
record Opening : Type 0 where
  pub profile : Profile
  pub frames : List ℕ
  pub width : ℕ
  -- words of the window, which holds 7 throughout
  pub words : ℕ
  pub answer : Answer
  -- the profile in the state
  pub number : ℕ

abbrev openings : List Opening
openings =
    -- the board's limits
    record { profile = Board; frames = frames 16; width = 32; words = 1024; answer = opened; number = 1 }
    ∷ record { profile = Board; frames = frames 17; width = 32; words = 1024; answer = refused 26 0; number = 0 }
    ∷ record { profile = Board; frames = frames 16; width = 33; words = 1056; answer = refused 26 0; number = 0 }
    ∷ record { profile = Board; frames = frames 3; width = 1; words = 32; answer = opened; number = 1 }
    -- 11 comes before 26
    ∷ record { profile = Board; frames = frames 17; width = 0; words = 0; answer = refused 11 0; number = 0 }
    ∷ record { profile = Board; frames = frames 17; width = 33; words = 1055; answer = refused 11 0; number = 0 }
    ∷ record { profile = Board; frames = frames 3; width = 257; words = 8224; answer = refused 11 0; number = 0 }
    ∷ record { profile = Board; frames = frames 3; width = 256; words = 8192; answer = refused 26 0; number = 0 }
    -- so do the checks of frames
    ∷ record { profile = Board; frames = []; width = 33; words = 1056; answer = refused 9 0; number = 0 }
    ∷ record { profile = Board; frames = replicate 136 255; width = 33; words = 1056; answer = refused 10 0; number = 0 }
    ∷ record { profile = Board; frames = unnamed 17; width = 33; words = 1056; answer = refused 7 0; number = 0 }
    -- the desk keeps 256 and 64
    ∷ record { profile = Desk; frames = frames 17; width = 33; words = 1056; answer = opened; number = 0 }
    ∷ record { profile = Desk; frames = frames 64; width = 256; words = 8192; answer = opened; number = 0 }
    ∷ record { profile = Desk; frames = frames 64; width = 257; words = 8224; answer = refused 11 0; number = 0 }
    ∷ record { profile = Desk; frames = frames 65; width = 256; words = 8192; answer = refused 9 0; number = 0 }
    ∷ []

openings-shown : (map (λ x. (open_def x.profile x.frames x.width (replicate x.words (pos 7))).answer) openings ≡ map (λ x. x.answer) openings)
    × (map (λ x. (open_def x.profile x.frames x.width (replicate x.words (pos 7))).state.profile) openings ≡ map (λ x. x.number) openings)
unfolding nots kind_of reference_count order_of sizes_fit tree_of checked_of some_not_void first_from first_instance fresh_state open_def
openings-shown = (refl, refl)

-- ---- 12, with no line and no verdict
record Tested : Type 0 where
  -- the state's profile, W and number of frames
  pub number : ℕ
  pub width : ℕ
  pub len : ℕ
  pub passes : Bool

abbrev state_of : Tested → State
state_of x =
    state_with (frames x.len ++ replicate (frame_limit * frame_bytes - length (frames x.len)) 0) x.len x.width x.number
    (tally_from 0) 0

abbrev states : List Tested
states =
    -- the board's limits
    record { number = 1; width = 32; len = 16; passes = true }
    ∷ record { number = 1; width = 33; len = 16; passes = false }
    ∷ record { number = 1; width = 32; len = 17; passes = false }
    ∷ record { number = 1; width = 1; len = 3; passes = true }
    ∷ record { number = 1; width = 0; len = 3; passes = false }
    -- the desk's
    ∷ record { number = 0; width = 33; len = 17; passes = true }
    ∷ record { number = 0; width = 256; len = 64; passes = true }
    ∷ record { number = 0; width = 257; len = 64; passes = false }
    ∷ record { number = 0; width = 256; len = 65; passes = false }
    -- no other number
    ∷ record { number = 2; width = 1; len = 3; passes = false }
    ∷ record { number = 4294967295; width = 1; len = 3; passes = false }
    ∷ []

states-tested : map (λ x. state_passes (state_of x)) states ≡ map (λ x. x.passes) states
unfolding nots kind_of reference_count order_of sizes_fit tree_of checked_of of_event referenced smallest base some_not_void first_from first_instance rule_passes count_passes all_to tally_passes state_passes
states-tested = refl
