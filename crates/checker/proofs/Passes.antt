-- The states that 12 lets through are those of which none of the document's conditions holds; feeding and pulling refuse the others
-- with 12, and with 27 exactly where neither 12 nor 13 comes and the sums differ. Assumes nothing.
use Rattle.std.proofs.Common.{◌≡◌, ℕ, ◌*◌, ◌≤◌, true, leb, ◌≢◌, ◌↔◌, List, length, replicate, ℤ, pos, sym, refl, ap, ◌∙◌, arith, length-take, eq-eqb, ne_eqb, eqb-true, le-leb}
use borrow.Author.Tests.{eqb-false}
use lib.ListN.{length-replicate}
use Rattle.numbers.proofs.Bools.{true-false, true-and}
use Rattle.rule.specs.Limits.{frame_bytes}
use Rattle.rule.specs.Frames.{frame_count}
use Rattle.log_lines.specs.Line.{line_of}
use Rattle.checker.specs.Limits.{width_limit, window_words}
use Rattle.checker.specs.Answer.{Answer, opened, refused}
use Rattle.checker.specs.Profile.{width_most, frames_most, profile_passes}
use Rattle.checker.specs.Base.{referenced}
use Rattle.checker.specs.State.{tally_in, state_frames, refs_in}
use Rattle.checker.specs.Open.{OpenResult, width_fits, window_fits, open_def}
use Rattle.checker.specs.StateTest.{is_accepted, rule_passes, state_passes, Passing}
use Rattle.checker.specs.Sum.{sum_of}
use Rattle.checker.specs.Admission.{Admission, admitted, barred, admission}
use Rattle.checker.specs.Feed.{FeedRead, turned, skipped, taken, feed_answer, fed_by, line_in, fed_if, feed_def}
use Rattle.checker.specs.Pull.{pull_answer, next_in, pulled_if, pull_def}
use Rattle.checker.specs.declared.Profile.{Profile}
use Rattle.checker.specs.declared.State.{State}
use Rattle.checker.proofs.Choices.{never_true}
use Rattle.checker.proofs.Admissions.{barred_12, barred_27, by_12, by_27}
use Rattle.checker.proofs.Bases.{referenced_exactly}
use Rattle.checker.proofs.ProfileLaws.{within_facts, within_by, number-passes}
use Rattle.checker.proofs.Tallies.{Sound, tally-good}
use Rattle.checker.proofs.Fresh.{passed}
use Rattle.checker.proofs.CodeOpen.{past-frames}
use Rattle.checker.proofs.Stays.{sound_in}
use Rattle.checker.proofs.CodeStateTest.{good_facts}
use Rattle.checker.proofs.Never.{number_in, Late, line-number, pull-number}

-- ---- what passes
module _ (s : State) (g : state_passes s ≡ true) where
  width_fits_lem : width_fits s.width ≡ true
  width_fits_lem =
      true-and (leb 1 s.width) (leb s.width width_limit)
      (le-leb 1 s.width (good_facts s g).some)
      (le-leb s.width width_limit (good_facts s g).most)

  abbrev whose : Profile
  whose = (good_facts s g).known.profile

  most : (s.width ≤ width_most whose) × (s.len ≤ frames_most whose)
  most = within_facts whose s.width s.len (good_facts s g).known.within

  passes-opens : (win : List ℤ) → length win ≡ window_words s.width → (open_def whose (state_frames s) s.width win).answer ≡ opened
  passes-opens win l =
      ap (λ (x : OpenResult). x.answer)
      (past-frames whose (state_frames s) s.width win (good_facts s g).accepted true true
      (true-and (width_fits s.width) (window_fits s.width win) width_fits_lem (eq-eqb (length win) (window_words s.width) l))
      (within_by whose s.width (frame_count (state_frames s)) most.0 (omega (arith, most.1, length-take (s.len * frame_bytes) s.frames))))

  passing_by : Passing s
  passing_by =
      let t = sound_in s g in
      record {
        profile = whose;
        number = (good_facts s g).known.number_of;
        room = most.1;
        opens = passes-opens;
        few_lines = λ e l. (t.counts e l).few;
        few_verdicts = t.low;
        begun = omega (arith, t.begun);
        sum = t.sum;
        none = λ e l h. (t.counts e l).none (never_true (referenced (refs_in s) e) (λ q. h ((referenced_exactly (refs_in s) e).0 q)));
        within = λ e l h. (t.counts e l).room ((referenced_exactly (refs_in s) e).1 h);
      }

-- ---- what is passing
module _ (s : State) (h : Passing s) where
  passing_sound : Sound (refs_in s) s.width (tally_in s)
  passing_sound =
      record {
        counts = λ e l. record {
          few = h.few_lines e l;
          room = λ q. h.within e l ((referenced_exactly (refs_in s) e).0 q);
          none = λ q. h.none e l (λ r. true-false (sym ((referenced_exactly (refs_in s) e).1 r) ∙ q));
        };
        low = h.few_verdicts;
        begun = omega (arith, h.begun, h.sum);
        sum = h.sum;
      }

  by_passing : state_passes s ≡ true
  unfolding state_passes rule_passes
  by_passing =
      let win : List ℤ = replicate (window_words s.width) (pos 0) in
      let p = passed h.profile (state_frames s) s.width win (h.opens win (length-replicate (window_words s.width) (pos 0))) in
      let m = within_by h.profile s.width s.len (within_facts h.profile s.width (frame_count (state_frames s)) p.within).0 h.room in
      let n = ap (λ (x : ℕ). profile_passes x s.width s.len) h.number ∙ number-passes h.profile s.width s.len m in
      true-and _ _
      (true-and _ _ (true-and _ _ n (ap is_accepted p.accepted)) p.width)
      (tally-good (refs_in s) s.width (tally_in s) passing_sound)

pub passes_exactly : (s : State) → (state_passes s ≡ true) ↔ Passing s
passes_exactly s = (passing_by s, by_passing s)

-- ---- what is answered
module _ (s : State) (win : List ℤ) where
  fed-answer : (f : FeedRead) → (fed_by s win f).answer ≡ feed_answer f
  fed-answer (turned number place) = refl
  fed-answer skipped = refl
  fed-answer (taken e notes) = refl

  -- a number that comes of 12, 13 and 27 only bars the state and the window
  feed-bars : (line : List ℕ) (n : ℕ) → ((a : Answer) → Late a → number_in a ≢ n) → number_in (feed_def s win line).answer ≡ n → admission s win ≡ barred n
  unfolding feed_def
  feed-bars line n late = go (admission s win)
    where
      go : (a : Admission) → number_in (fed_if s win line a).answer ≡ n → a ≡ barred n
      go admitted q = absurd (late (feed_answer (line_in s (line_of line))) (line-number line (refs_in s) s.width (tally_in s)) (ap number_in (sym (fed-answer (line_in s (line_of line)))) ∙ q))
      go (barred number) q = ap barred q

  pull-bars : (buffer : List ℕ) (n : ℕ) → ((a : Answer) → Late a → number_in a ≢ n) → number_in (pull_def s win buffer).answer ≡ n → admission s win ≡ barred n
  unfolding pull_def
  pull-bars buffer n late = go (admission s win)
    where
      go : (a : Admission) → number_in (pulled_if s win buffer a).answer ≡ n → a ≡ barred n
      go admitted q = absurd (late (pull_answer (next_in s win (length buffer))) (pull-number (next_in s win (length buffer))) q)
      go (barred number) q = ap barred q

  -- ---- 12
  bars_12 : (admission s win ≡ barred 12) ↔ (Passing s → ⊥)
  bars_12 = (
    λ q h. true-false (sym (by_passing s h) ∙ by_12 s win q),
    λ h. barred_12 s win (never_true (state_passes s) (λ g. h (passing_by s g))),
  )

  pub feed_12_exactly : (line : List ℕ) → ((feed_def s win line).answer ≡ refused 12 0) ↔ (Passing s → ⊥)
  unfolding feed_def
  feed_12_exactly line = (
    λ q. bars_12.0 (feed-bars line 12 (λ a l. l.0) (ap number_in q)),
    λ h. ap (λ (a : Admission). (fed_if s win line a).answer) (bars_12.1 h),
  )

  pub pull_12_exactly : (buffer : List ℕ) → ((pull_def s win buffer).answer ≡ refused 12 0) ↔ (Passing s → ⊥)
  unfolding pull_def
  pull_12_exactly buffer = (
    λ q. bars_12.0 (pull-bars buffer 12 (λ a l. l.0) (ap number_in q)),
    λ h. ap (λ (a : Admission). (pulled_if s win buffer a).answer) (bars_12.1 h),
  )

  -- ---- 27
  bars_27 : (admission s win ≡ barred 27) ↔ (Passing s × ((length win ≡ window_words s.width) × (s.sum ≢ sum_of win)))
  bars_27 = (
    λ q. let t = by_27 s win q in (passing_by s t.0, (eqb-true (length win) (window_words s.width) t.1.0, eqb-false s.sum (sum_of win) t.1.1)),
    λ h. barred_27 s win (by_passing s h.0) (eq-eqb (length win) (window_words s.width) h.1.0) (ne_eqb s.sum (sum_of win) h.1.1),
  )

  pub feed_27_exactly : (line : List ℕ) → ((feed_def s win line).answer ≡ refused 27 0) ↔ (Passing s × ((length win ≡ window_words s.width) × (s.sum ≢ sum_of win)))
  unfolding feed_def
  feed_27_exactly line = (
    λ q. bars_27.0 (feed-bars line 27 (λ a l. l.1.1) (ap number_in q)),
    λ h. ap (λ (a : Admission). (fed_if s win line a).answer) (bars_27.1 h),
  )

  pub pull_27_exactly : (buffer : List ℕ) → ((pull_def s win buffer).answer ≡ refused 27 0) ↔ (Passing s × ((length win ≡ window_words s.width) × (s.sum ≢ sum_of win)))
  unfolding pull_def
  pull_27_exactly buffer = (
    λ q. bars_27.0 (pull-bars buffer 27 (λ a l. l.1.1) (ap number_in q)),
    λ h. ap (λ (a : Admission). (pulled_if s win buffer a).answer) (bars_27.1 h),
  )
