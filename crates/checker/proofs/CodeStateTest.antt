-- What 12 lets through: the facts that a feed and a pull go by, and 12 field by field. Assumes nothing.
use Rattle.std.proofs.Common.{◌≡◌, ℕ, ◌+◌, ◌-◌, ◌*◌, ◌<◌, ◌≤◌, Bool, true, false, ◌&&◌, eqb, leb, ◌≢◌, List, get_or, take, ℤ, sym, refl, ap, ◌∙◌, ⊎_elim, arith, eq-eqb, ne_eqb, le-leb, leb-true}
use Rattle.std.specs.Prelude.{if◌then◌else◌, Some, None, Result, Ok, Err, is_ok}
use Rattle.std.specs.Option.{ok_or}
use Rattle.std.specs.Prelude.{Option, None}
use borrow.Author.Tests.{lt-leb}
use Rattle.rule.specs.declared.Refusal as rules
use Rattle.numbers.proofs.Bools.{true-false, and-true, true-and}
use Rattle.rule.specs.Limits.{event_limit, frame_limit, frame_bytes}
use Rattle.rule.specs.Check.{checked_of}
use Rattle.rule.specs.CheckTold.{CheckAnswer, check_told}
use Rattle.rule.specs.CheckTold as checking
use Rattle.verdict.specs.Found.{instance_limit}
use Rattle.checker.specs.Limits.{width_limit}
use Rattle.checker.specs.Profile.{profile_passes}
use Rattle.checker.specs.Base.{first_for}
use Rattle.checker.specs.State.{totals_sum, tally_in, state_frames, refs_in}
use Rattle.checker.specs.Open.{width_fits}
use Rattle.checker.specs.StateTest.{is_accepted, all_to, totals_pass, rule_passes, tally_passes, state_passes}
use Rattle.checker.specs.BasePass.{bases_of, count_fits, rule_fits, tally_fits}
use Rattle.checker.specs.Offer.{Countable}
use Rattle.checker.specs.Parts.{state_of}
use Rattle.checker.specs.Ready.{Ready}
use Rattle.checker.specs.declared.refusals.Refusal.{Refusal}
use Rattle.checker.specs.declared.parts.Fields.{Fields}
use Rattle.checker.specs.declared.Totals.{Totals}
use Rattle.checker.specs.declared.State.{State}
use Rattle.checker.proofs.Choices.{same_or, never_true}
use Rattle.checker.proofs.ProfileLaws.{Known, passes-known, passes-room}
use Rattle.checker.proofs.Admissions.{in_good}
use Rattle.checker.proofs.Tallies.{totals_facts, tally_facts}

-- ---- a good state
pub record Facts (s : State) : Type 0 where
  pub known : Known s.profile s.width s.len
  pub few : s.len ≤ frame_limit
  pub accepted : checked_of (state_frames s) ≡ checking.accepted
  pub some : 1 ≤ s.width
  pub most : s.width ≤ width_limit
  pub totals : Countable s.totals s.next.0

accepted-by : (x : CheckAnswer) → is_accepted x ≡ true → x ≡ checking.accepted
accepted-by checking.accepted e = refl
accepted-by (checking.refused number place) e = absurd (true-false (sym e))

pub good_facts : (s : State) → state_passes s ≡ true → Facts s
unfolding state_passes rule_passes tally_passes
good_facts s e =
    let a = and-true (rule_passes s) (tally_passes (refs_in s) s.width (tally_in s)) e in
    let m = profile_passes s.profile s.width s.len in
    let b = and-true (m && is_accepted (checked_of (state_frames s))) (width_fits s.width) a.0 in
    let f = and-true m (is_accepted (checked_of (state_frames s))) b.0 in
    let w = and-true (leb 1 s.width) (leb s.width width_limit) b.1 in
    let t = tally_facts (refs_in s) s.width (tally_in s) a.1 in
    record {
      known = passes-known s.profile s.width s.len f.0;
      few = passes-room s.profile s.width s.len f.0;
      accepted = accepted-by (checked_of (state_frames s)) f.1;
      some = leb-true 1 s.width w.0;
      most = leb-true s.width width_limit w.1;
      totals = record { sum = omega (arith, t.sum); low = t.low };
    }

-- the same of what the inner calls require
pub ready_facts : {frames : List ℕ} {f : Fields} {win : List ℤ} → Ready frames f win → Facts (state_of frames f)
ready_facts {frames} {f} {win} r = good_facts (state_of frames f) (in_good (state_of frames f) win r.let_in)

-- ---- what 12 answers: the bases where the state passes
pub tested-ok : {A : Type 0} (t : Bool) (x y : A) (why : Refusal) → Ok y ≡ ok_or (if t then Some x else None) why → (t ≡ true) × (y ≡ x)
tested-ok true x y why e = (refl, cc)
tested-ok false x y why e = absurd cc

pub tested-err : {A : Type 0} (t : Bool) (x : A) (why why' : Refusal) → Err why' ≡ ok_or (if t then Some x else None) why → (t ≡ false) × (why' ≡ why)
tested-err true x why why' e = absurd cc
tested-err false x why why' e = (refl, cc)

-- what the check of frames takes
pub taken-told : (r : Result (Unit {0}) rules.Refusal) → is_ok r ≡ is_accepted (check_told r)
taken-told (Ok x) = refl
taken-told (Err why) = refl

-- ---- 12, field by field
pub rule_facts : (frames : List ℕ) (n w number : ℕ) → rule_fits frames n w number ≡ true → (n ≤ frame_limit) × (checked_of (take (n * frame_bytes) frames) ≡ checking.accepted)
rule_facts frames n w number e =
    let r = and-true (profile_passes number w n && is_accepted (checked_of (take (n * frame_bytes) frames))) (width_fits w) e in
    let f = and-true (profile_passes number w n) (is_accepted (checked_of (take (n * frame_bytes) frames))) r.0 in
    (passes-room number w n f.0, accepted-by (checked_of (take (n * frame_bytes) frames)) f.1)

pub good-by : (s : State) (r : Bool) → rule_fits s.frames s.len s.width s.profile ≡ true → r ≡ tally_passes (refs_in s) s.width (tally_in s) → r ≡ state_passes s
unfolding state_passes rule_passes
good-by s r q e = e ∙ sym (ap (λ (x : Bool). x && tally_passes (refs_in s) s.width (tally_in s)) q)

pub bad-by : (s : State) → rule_fits s.frames s.len s.width s.profile ≡ false → false ≡ state_passes s
unfolding state_passes rule_passes
bad-by s q = sym (ap (λ (x : Bool). x && tally_passes (refs_in s) s.width (tally_in s)) q)

-- one equation says both that p is not below the first instance and what the totals sum to
pub sum-from : (first p : ℕ) (t : Totals) → eqb (first + totals_sum t) p ≡ totals_pass first p t
sum-from first p t = ⊎_elim same other (same_or (first + totals_sum t) p)
  where
    same : first + totals_sum t ≡ p → eqb (first + totals_sum t) p ≡ totals_pass first p t
    same q =
        eq-eqb (first + totals_sum t) p q
        ∙ sym (true-and (leb first p) (eqb (totals_sum t) (p - first)) (le-leb first p (omega (arith, q))) (eq-eqb (totals_sum t) (p - first) (omega (arith, q))))

    other : first + totals_sum t ≢ p → eqb (first + totals_sum t) p ≡ totals_pass first p t
    other n =
        ne_eqb (first + totals_sum t) p n
        ∙ sym (never_true (totals_pass first p t) (λ h. let f = totals_facts first p t h in n (omega (arith, f.0, f.1))))

abbrev all_fit : ℕ → List (Option ℕ) → List ℕ → Bool
all_fit w bases counts = all_to event_limit (λ e. count_fits w (get_or bases e None) (get_or counts e 0))

pub tally-by : (s : List ℕ) (w : ℕ) (counts : List ℕ) (p : ℕ) (totals : Totals) (bases : List (Option ℕ)) (first : ℕ) (a b : Bool) → p ≤ instance_limit
    → bases ≡ bases_of s p → first ≡ first_for s → a ≡ all_to event_limit (λ e. count_fits w (get_or bases e None) (get_or counts e 0)) → b ≡ totals_pass first p totals
    → (a && b) ≡ tally_fits s w counts p totals
unfolding tally_fits
tally-by s w counts p totals bases first a b h l f ea eb =
    ap (λ (x : Bool). x && b) (ea ∙ ap (λ (x : List (Option ℕ)). all_fit w x counts) l)
    ∙ ap (λ (y : Bool). all_fit w (bases_of s p) counts && y) (eb ∙ ap (λ (x : ℕ). totals_pass x p totals) f)
    ∙ sym (ap (λ (x : Bool). x && (all_fit w (bases_of s p) counts && totals_pass (first_for s) p totals)) (le-leb p instance_limit h))

pub tally_no : (s : List ℕ) (w : ℕ) (counts : List ℕ) (p : ℕ) (totals : Totals) → instance_limit < p → false ≡ tally_fits s w counts p totals
unfolding tally_fits
tally_no s w counts p totals h = sym (ap (λ (x : Bool). x && (all_fit w (bases_of s p) counts && totals_pass (first_for s) p totals)) (lt-leb p instance_limit h))
