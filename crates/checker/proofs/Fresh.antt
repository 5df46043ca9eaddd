-- What an unrefused opening gives back is in step with the plain machine at first. Assumes nothing.
use Rattle.std.proofs.Common.{◌≡◌, ℕ, ◌-◌, ◌*◌, ◌/◌, ◌≤◌, Bool, true, false, cond, ◌&&◌, ◌↔◌, List, map, length, replicate, ℤ, pos, sym, refl, ap, ◌∙◌, subst, arith, take_at}
use lib.ListN.{length-replicate}
use Rattle.rule.specs.Limits.{offset_limit, frame_limit, frame_bytes}
use Rattle.rule.specs.Frames.{Bytes, frame_count}
use Rattle.rule.specs.Tree.{references, postfix}
use Rattle.rule.specs.Build.{tree_of}
use Rattle.rule.specs.Check.{checked_of}
use Rattle.rule.specs.Opening.{Proper}
use Rattle.rule.specs.CheckTold.{CheckAnswer}
use Rattle.rule.specs.CheckTold as checking
use Rattle.rule.proofs.Main.{frames_exactly, tree-of}
use Rattle.rule.proofs.Laws.{proper-rule, rule-length, references-within}
use Rattle.numbers.proofs.Bools.{true-false, and-true}
use Rattle.checker.specs.Limits.{window_words}
use Rattle.checker.specs.Answer.{Answer, opened, accepted, ignored, waiting, verdict, refused}
use Rattle.checker.specs.Profile.{within_most}
use Rattle.checker.specs.Base.{smallest, first_for, SomeNotVoid, FirstInstance}
use Rattle.checker.specs.BasePass.{first_of}
use Rattle.checker.specs.State.{count_of, fresh_state}
use Rattle.checker.specs.Open.{OpenResult, width_fits, window_fits, opened_as, not_opened, after_window, after_frames, open_def}
use Rattle.checker.specs.Calls.{Checker}
use Rattle.checker.specs.Demand.{Unrefused, fresh}
use Rattle.checker.specs.Machine.{tabulated, at_first, tally_of}
use Rattle.checker.specs.declared.Profile.{Profile}
use Rattle.checker.proofs.ProfileLaws.{number-passes}
use Rattle.checker.proofs.SumLaws.{sum_zeros}
use Rattle.checker.proofs.Bases as bases
pub use Rattle.checker.proofs.Bases.{within_member}
use Rattle.checker.proofs.Simulation.{Fine, Both, count-of}

-- ---- an opening that is not refused
abbrev is_opened : Answer → Bool
is_opened opened = true
is_opened accepted = false
is_opened ignored = false
is_opened waiting = false
is_opened (verdict v) = false
is_opened (refused number place) = false

not_opened_lem : (number place : ℕ) → refused number place ≡ opened → ⊥
not_opened_lem number place q = true-false (sym (ap is_opened q))

pub record Passed (profile : Profile) (frames : List ℕ) (w : ℕ) (win : List ℤ) : Type 0 where
  pub accepted : checked_of frames ≡ checking.accepted
  pub width : width_fits w ≡ true
  pub long : window_fits w win ≡ true
  pub within : within_most profile w (frame_count frames) ≡ true
  pub result : open_def profile frames w win ≡ opened_as profile frames w

module _ (profile : Profile) (frames : List ℕ) (w : ℕ) (win : List ℤ) where
  by_most : (t : Bool) → within_most profile w (frame_count frames) ≡ t → (cond t (opened_as profile frames w) (not_opened win 26 0)).answer ≡ opened
      → (within_most profile w (frame_count frames) ≡ true) × (cond t (opened_as profile frames w) (not_opened win 26 0) ≡ opened_as profile frames w)
  by_most true e h = (e, refl)
  by_most false e h = absurd (not_opened_lem 26 0 h)

  by_width : (t : Bool) → (width_fits w && window_fits w win) ≡ t → (cond t (after_window profile frames w win) (not_opened win 11 0)).answer ≡ opened
      → ((width_fits w && window_fits w win) ≡ true)
      × ((within_most profile w (frame_count frames) ≡ true) × (cond t (after_window profile frames w win) (not_opened win 11 0) ≡ opened_as profile frames w))
  by_width true e h = (e, by_most (within_most profile w (frame_count frames)) refl h)
  by_width false e h = absurd (not_opened_lem 11 0 h)

  by_check : (c : CheckAnswer) → checked_of frames ≡ c → (after_frames profile frames w win c).answer ≡ opened
      → after_frames profile frames w win c ≡ open_def profile frames w win → Passed profile frames w win
  by_check (checking.refused number place) e h q = absurd (not_opened_lem number place h)
  by_check checking.accepted e h q =
      let f = by_width (width_fits w && window_fits w win) refl h in
      let g = and-true (width_fits w) (window_fits w win) f.0 in
      record { accepted = e; width = g.0; long = g.1; within = f.1.0; result = sym q ∙ f.1.1 }

  pub passed : (open_def profile frames w win).answer ≡ opened → Passed profile frames w win
  unfolding open_def
  passed h = by_check (checked_of frames) refl h refl

-- ---- accepted frames
fine : {profile : Profile} {frames : List ℕ} {w : ℕ} {win : List ℤ} → Bytes frames → Passed profile frames w win → Fine frames w
fine {profile} {frames} {w} {win} b o =
    let p : Proper frames = (frames_exactly b).0 o.accepted in
    let t : tree_of frames ≡ p.tree = tree-of (proper-rule p) in
    record {
      accepted = o.accepted;
      width = o.width;
      some = λ e. p.named (ap references (sym t) ∙ e);
      limits = rw t (within_member (references p.tree) (references-within p.tree p.limits));
    }

-- as many bytes as frames have
whole_length : (frames : List ℕ) → Bytes frames → checked_of frames ≡ checking.accepted → length frames ≡ length frames / frame_bytes * frame_bytes
whole_length frames b e =
    let p : Proper frames = (frames_exactly b).0 e in
    let l : length frames ≡ length (postfix p.tree) * 8 = rule-length (proper-rule p) in
    omega arith

abbrev holding : OpenResult → Checker
holding x = record { state = x.state; words = x.words }

both-fresh : (profile : Profile) (frames : List ℕ) (w : ℕ) → Bytes frames → checked_of frames ≡ checking.accepted → within_most profile w (frame_count frames) ≡ true
    → first_for frames ≤ offset_limit
    → Both frames w (at_first frames) (holding (opened_as profile frames w))
unfolding fresh_state tabulated
both-fresh profile frames w b e m f =
    record {
      sound =
          record {
            counts = λ e h. let z : count_of (tally_of (at_first frames)) e ≡ 0 = count-of (at_first frames) e h in record { few = omega (arith, z); room = λ _. omega (arith, z); none = λ _. z };
            low = omega (arith, f);
            begun = omega arith;
            sum = omega arith;
          };
      sim =
          record {
            rule = take_at frames (replicate (frame_limit * frame_bytes - length frames) 0) (length frames / frame_bytes * frame_bytes) (whole_length frames b e);
            len = number-passes profile w (frame_count frames) m;
            width = refl;
            tally = refl;
            long = length-replicate (window_words w) (pos 0);
            sum = sum_zeros (window_words w);
            live = λ e k n he hb hk hn. absurd (omega arith);
          };
    }

module _ {profile : Profile} {frames : List ℕ} {w : ℕ} {win : List ℤ} (o : Unrefused profile frames w win) where
  pub opened-fine : Fine frames w
  opened-fine = fine o.bytes (passed profile frames w win o.answer)

  -- where verdicts begin: at an instance with a reference that isn't void, as are all from there on and none before
  pub first_on : (i : ℕ) → SomeNotVoid (references (tree_of frames)) i ↔ (first_for frames ≤ i)
  first_on = bases.first_on (references (tree_of frames)) opened-fine.some opened-fine.limits

  pub first_exactly : (n : ℕ) → (first_for frames ≡ n) ↔ FirstInstance (references (tree_of frames)) n
  first_exactly = bases.first_exactly (references (tree_of frames)) opened-fine.some opened-fine.limits

  pub first-smallest : first_for frames ≡ smallest (map first_of (references (tree_of frames)))
  first-smallest = bases.first-smallest (references (tree_of frames)) opened-fine.some opened-fine.limits

  pub first-most : first_for frames ≤ offset_limit
  first-most = bases.first-most (references (tree_of frames)) opened-fine.some opened-fine.limits

  pub both-opened : Both frames w (at_first frames) (fresh profile frames w win)
  both-opened =
      let p = passed profile frames w win o.answer in
      subst (λ (x : OpenResult). Both frames w (at_first frames) (holding x)) (sym p.result) (both-fresh profile frames w o.bytes p.accepted p.within first-most)
