-- Opening, for desk and board: exactly when it is not refused, and exactly when it is refused with 26. Assumes nothing.
use Rattle.std.proofs.Common.{◌≡◌, ℕ, ◌*◌, ◌≤◌, Bool, true, false, cond, ◌&&◌, leb, ◌↔◌, List, length, ℤ, sym, refl, ap, ◌∙◌, arith, eq-eqb, eqb-true, le-leb, leb-true}
use Rattle.rule.specs.Limits.{frame_limit}
use Rattle.rule.specs.Frames.{Bytes, frame_count}
use Rattle.rule.specs.Tree.{postfix}
use Rattle.rule.specs.Check.{checked_of}
use Rattle.rule.specs.Opening.{Proper}
use Rattle.rule.specs.CheckTold.{CheckAnswer}
use Rattle.rule.specs.CheckTold as checking
use Rattle.rule.proofs.Main.{frames_exactly}
use Rattle.rule.proofs.Laws.{proper-rule, rule-length}
use Rattle.numbers.proofs.Bools.{true-false, and-true, true-and}
use Rattle.checker.specs.Limits.{width_limit, window_words, board_width_limit, board_frame_limit}
use Rattle.checker.specs.Answer.{opened, refused}
use Rattle.checker.specs.Profile.{width_most, frames_most, within_most}
use Rattle.checker.specs.Open.{OpenResult, width_fits, window_fits, opened_as, not_opened, after_window, after_frames, open_def}
use Rattle.checker.specs.declared.Profile.{Profile}
use Rattle.checker.specs.declared.Profile.TheVariants.{Desk, Board}
use Rattle.checker.proofs.Choices.{never_true}
use Rattle.checker.proofs.ProfileLaws.{within_facts, within_by, most_desk}
use Rattle.checker.proofs.Fresh.{passed}
use Rattle.checker.proofs.Never.{number_in}
use Rattle.checker.proofs.CodeOpen.{past-frames, FrameNumber, check_number}

-- a rule has at most 64 frames
proper-count : {frames : List ℕ} → Proper frames → frame_count frames ≤ frame_limit
proper-count {frames} p =
    let l : length frames ≡ length (postfix p.tree) * 8 = rule-length (proper-rule p) in
    omega (arith, l, p.short)

module _ (profile : Profile) {frames : List ℕ} (w : ℕ) (win : List ℤ) (b : Bytes frames) where
  -- what 11 lets through
  window_in : 1 ≤ w → w ≤ width_limit → length win ≡ window_words w → (width_fits w && window_fits w win) ≡ true
  window_in a h l =
      true-and (width_fits w) (window_fits w win)
      (true-and (leb 1 w) (leb w width_limit) (le-leb 1 w a) (le-leb w width_limit h))
      (eq-eqb (length win) (window_words w) l)

  window_facts : (width_fits w && window_fits w win) ≡ true → (1 ≤ w) × (w ≤ width_limit) × (length win ≡ window_words w)
  window_facts e =
      let f = and-true (width_fits w) (window_fits w win) e in
      let g = and-true (leb 1 w) (leb w width_limit) f.0 in
      (leb-true 1 w g.0, leb-true w width_limit g.1, eqb-true (length win) (window_words w) f.1)

  -- past the checks of frames and 11, opening goes by 26
  past_11 : (t : Bool) → Proper frames → (width_fits w && window_fits w win) ≡ true → within_most profile w (frame_count frames) ≡ t
      → open_def profile frames w win ≡ cond t (opened_as profile frames w) (not_opened win 26 0)
  past_11 t p e q = past-frames profile frames w win ((frames_exactly b).1 p) true t e q

  pub opens_exactly : ((open_def profile frames w win).answer ≡ opened)
      ↔ (Proper frames × (1 ≤ w) × (w ≤ width_most profile) × (frame_count frames ≤ frames_most profile) × (length win ≡ window_words w))
  opens_exactly = (
    λ q. (let p = passed profile frames w win q in
        let f = window_facts (true-and (width_fits w) (window_fits w win) p.width p.long) in
        let m = within_facts profile w (frame_count frames) p.within in
        ((frames_exactly b).0 p.accepted, f.0, m.0, m.1, f.2)),
    λ h. ap (λ (x : OpenResult). x.answer)
        (past_11 true h.0 (window_in h.1 (omega (arith, h.2, (most_desk profile).0)) h.4)
        (within_by profile w (frame_count frames) h.2 h.3)),
  )

  -- ---- 26
  most-by : (t : Bool) → (cond t (opened_as profile frames w) (not_opened win 26 0)).answer ≡ refused 26 0 → t ≡ false
  most-by true q = absurd (let z : 0 ≡ 26 = ap number_in q in omega (arith, z))
  most-by false q = refl

  window-by : (t : Bool) → (cond t (after_window profile frames w win) (not_opened win 11 0)).answer ≡ refused 26 0
      → (t ≡ true) × (within_most profile w (frame_count frames) ≡ false)
  window-by true q = (refl, most-by (within_most profile w (frame_count frames)) q)
  window-by false q = absurd (let z : 11 ≡ 26 = ap number_in q in omega (arith, z))

  check_by : (c : CheckAnswer) → FrameNumber c → (after_frames profile frames w win c).answer ≡ refused 26 0
      → (c ≡ checking.accepted) × ((width_fits w && window_fits w win) ≡ true) × (within_most profile w (frame_count frames) ≡ false)
  check_by (checking.refused number place) l q = absurd (let z : number ≡ 26 = ap number_in q in omega (arith, z, l.1))
  check_by checking.accepted l q =
      let f = window-by (width_fits w && window_fits w win) q in
      (refl, f.0, f.1)

  -- only the board's figures are below those of 9 and 11
  only_board : (x : Profile) → w ≤ width_limit → frame_count frames ≤ frame_limit → within_most x w (frame_count frames) ≡ false
      → (x ≡ Board) × ((w ≤ board_width_limit) × (frame_count frames ≤ board_frame_limit) → ⊥)
  only_board Desk h n q = absurd (true-false (sym (within_by Desk w (frame_count frames) h n) ∙ q))
  only_board Board h n q = (refl, λ m. true-false (sym (within_by Board w (frame_count frames) m.0 m.1) ∙ q))

  pub open_26_exactly : ((open_def profile frames w win).answer ≡ refused 26 0)
      ↔ (Proper frames × (1 ≤ w) × (w ≤ width_limit) × (length win ≡ window_words w)
      × (profile ≡ Board) × ((w ≤ board_width_limit) × (frame_count frames ≤ board_frame_limit) → ⊥))
  unfolding open_def
  open_26_exactly = (
    λ q. (let c = check_by (checked_of frames) (check_number frames) q in
        let p = (frames_exactly b).0 c.0 in
        let f = window_facts c.1 in
        let o = only_board profile f.1 (proper-count p) c.2 in
        (p, f.0, f.1, f.2, o.0, o.1)),
    λ h. ap (λ (x : OpenResult). x.answer)
        (past_11 false h.0 (window_in h.1 h.2 h.3)
        (never_true (within_most profile w (frame_count frames)) (λ q. let m = within_facts profile w (frame_count frames) q in
        h.5 (omega (arith, m.0, ap width_most h.4), omega (arith, m.1, ap frames_most h.4))))),
  )
