-- Opening past the checks of frames, by 11 and 26, as the code goes. Assumes nothing.
use Rattle.std.proofs.Common.{◌≡◌, ℕ, ◌≤◌, Bool, true, false, cond, ◌&&◌, eqb, List, length, ℤ, sym, refl, ap, ◌∙◌, subst, arith, eqb-true}
use Rattle.std.specs.Prelude.{Result, Ok, Err}
use Rattle.numbers.proofs.Bools.{and-true}
use Rattle.rule.specs.Frames.{frame_count}
use Rattle.rule.specs.Scale.{note_decimals, literal_decimals, head_frames, scale_of, head_fine, body}
use Rattle.rule.specs.Order.{order_of}
use Rattle.rule.specs.Sizes.{sizes_fit}
use Rattle.rule.specs.Check.{whole_frames, after_order, checked_of}
use Rattle.rule.specs.CheckTold.{CheckAnswer}
use Rattle.rule.specs.CheckTold as checking
use Rattle.checker.specs.Limits.{window_words}
use Rattle.checker.specs.Profile.{within_most}
use Rattle.checker.specs.Open.{width_fits, window_fits, opened_as, not_opened, after_window, after_frames, open_def}
use Rattle.checker.specs.Decided.{Decided}
use Rattle.checker.specs.declared.refusals.Refusal.{Refusal}
use Rattle.checker.specs.declared.refusals.Refusal.TheVariants as refusals
use Rattle.checker.specs.declared.Profile.{Profile}
use Rattle.checker.proofs.Choices.{cond_case}

module _ (profile : Profile) (frames : List ℕ) (w : ℕ) (win : List ℤ) (e : checked_of frames ≡ checking.accepted) where
  abbrev fits : Bool
  fits = width_fits w && window_fits w win

  abbrev within : Bool
  within = within_most profile w (frame_count frames)

  -- past the checks of frames
  pub past-frames : (a b : Bool) → fits ≡ a → within ≡ b
      → open_def profile frames w win ≡ cond a (cond b (opened_as profile frames w) (not_opened win 26 0)) (not_opened win 11 0)
  unfolding open_def
  past-frames a b p q =
      ap (after_frames profile frames w win) e
      ∙ ap (λ (t : Bool). cond t (after_window profile frames w win) (not_opened win 11 0)) p
      ∙ ap (λ (t : Bool). cond a (cond t (opened_as profile frames w) (not_opened win 26 0)) (not_opened win 11 0)) q

  -- so what the code finds of 11 and 26 decides
  pub decided_by : (d : Result (Unit {0}) Refusal) → d ≡ cond fits (cond within (Ok tt) (Err refusals.Board)) (Err refusals.Opening) → Decided profile frames w win d
  decided_by d h = subst (Decided profile frames w win) (sym h) (go fits within refl refl)
    where
      go : (a b : Bool) → fits ≡ a → within ≡ b → Decided profile frames w win (cond a (cond b (Ok tt) (Err refusals.Board)) (Err refusals.Opening))
      go true true p q =
          record {
            accepted = e;
            long = eqb-true (length win) (window_words w) (and-true (width_fits w) (window_fits w win) p).1;
            opens = past-frames true true p q;
          }
      go true false p q = past-frames true false p q
      go false b p q = past-frames false b p q

-- ---- the numbers of the check of frames
abbrev pub FrameNumber : CheckAnswer → Type 0
FrameNumber checking.accepted = Unit {0}
FrameNumber (checking.refused number place) = (7 ≤ number) × (number ≤ 10)

order-number : (h scale : ℕ) (s : List ℕ) (x : Result ℕ ℕ) → FrameNumber (after_order h scale s x)
order-number h scale s (Err p) = (omega arith, omega arith)
order-number h scale s (Ok m) =
    cond_case FrameNumber (eqb m 0) _ _ (λ _. (omega arith, omega arith))
    (λ _. cond_case FrameNumber (sizes_fit scale s) _ _ (λ _. tt) (λ _. (omega arith, omega arith)))

pub check_number : (s : List ℕ) → FrameNumber (checked_of s)
unfolding checked_of
check_number s =
    cond_case FrameNumber (whole_frames (length s)) _ _
    (λ _. cond_case FrameNumber (head_fine s) _ _
    (λ _. order-number (head_frames (scale_of s)) (note_decimals (scale_of s)) (body s) (order_of (literal_decimals (scale_of s)) (body s))) (λ _. (omega arith, omega arith)))
    (λ _. (omega arith, omega arith))

-- so where it refuses, opening does
pub decided_frames : (profile : Profile) (frames : List ℕ) (w : ℕ) (win : List ℤ) (number place : ℕ) → checked_of frames ≡ checking.refused number place
    → open_def profile frames w win ≡ not_opened win number place
unfolding open_def
decided_frames profile frames w win number place e = ap (after_frames profile frames w win) e
