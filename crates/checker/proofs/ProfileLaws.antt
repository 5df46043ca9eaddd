-- Desk and board: what the number in a state says of W and of the frames. Assumes nothing.
use Rattle.std.proofs.Common.{◌≡◌, ◌∙◌, ℕ, ◌≤◌, Bool, true, false, ◌&&◌, ◌||◌, eqb, leb, refl, ap, arith, ne_eqb, eqb-true, le-leb, leb-true}
use Rattle.std.specs.Prelude.{Result, Ok, Err, IfOk, IfErr, MatchResult}
use Rattle.numbers.proofs.Bools.{and-true, true-and}
use Rattle.rule.specs.Limits.{frame_limit}
use Rattle.checker.specs.Limits.{width_limit}
use Rattle.checker.specs.Profile.{width_most, frames_most, within_most, profile_number, profile_passes}
use Rattle.checker.specs.declared.Profile.{Profile}
use Rattle.checker.specs.declared.Profile.TheVariants.{Desk, Board}

-- within a profile's limits
pub within_facts : (profile : Profile) (w n : ℕ) → within_most profile w n ≡ true → (w ≤ width_most profile) × (n ≤ frames_most profile)
within_facts profile w n e =
    let f = and-true (leb w (width_most profile)) (leb n (frames_most profile)) e in
    (leb-true w (width_most profile) f.0, leb-true n (frames_most profile) f.1)

pub within_by : (profile : Profile) (w n : ℕ) → w ≤ width_most profile → n ≤ frames_most profile → within_most profile w n ≡ true
within_by profile w n a b =
    true-and (leb w (width_most profile)) (leb n (frames_most profile)) (le-leb w (width_most profile) a) (le-leb n (frames_most profile) b)

-- so they are by its number
pub number-passes : (profile : Profile) (w n : ℕ) → within_most profile w n ≡ true → profile_passes (profile_number profile) w n ≡ true
number-passes Desk w n e = ap (λ (t : Bool). t || (eqb 0 1 && within_most Board w n)) e
number-passes Board w n e = e

-- a profile's number passes where the profile admits W and the frames, another never
pub passes-of : (profile : Profile) (number w n : ℕ) → number ≡ profile_number profile → within_most profile w n ≡ profile_passes number w n
passes-of Desk number w n e = rw e (go (within_most Desk w n))
  where
    go : (t : Bool) → t ≡ (t || (eqb 0 1 && within_most Board w n))
    go true = refl
    go false = refl
passes-of Board number w n e = rw e

pub passes-none : (number w n : ℕ) → ((profile : Profile) → number ≡ profile_number profile → ⊥) → false ≡ profile_passes number w n
passes-none number w n h =
    let d = ne_eqb number 0 (h Desk) in
    let b = ne_eqb number 1 (h Board) in
    rw (d, b)

pub admitted : {E : Type 0} (r : Result Profile E) (number w n : ℕ) (t : Bool)
    → IfOk r (λ profile. number ≡ profile_number profile) × IfErr r (λ _. (profile : Profile) → number ≡ profile_number profile → ⊥)
    → MatchResult r (λ profile. t ≡ within_most profile w n) (λ _. t ≡ false) → t ≡ profile_passes number w n
admitted (Ok profile) number w n t e m = m ∙ passes-of profile number w n e.0
admitted (Err why) number w n t e m = m ∙ passes-none number w n e.1

-- a number that passes is a profile's, with W and frames within its limits
pub record Known (number w n : ℕ) : Type 0 where
  pub profile : Profile
  pub number_of : number ≡ profile_number profile
  pub within : within_most profile w n ≡ true

pub passes-known : (number w n : ℕ) → profile_passes number w n ≡ true → Known number w n
passes-known number w n e = go (eqb number 0 && within_most Desk w n) refl e
  where
    go : (t : Bool) → (eqb number 0 && within_most Desk w n) ≡ t → (t || (eqb number 1 && within_most Board w n)) ≡ true → Known number w n
    go true q h =
        let f = and-true (eqb number 0) (within_most Desk w n) q in
        record { profile = Desk; number_of = eqb-true number 0 f.0; within = f.1 }
    go false q h =
        let f = and-true (eqb number 1) (within_most Board w n) h in
        record { profile = Board; number_of = eqb-true number 1 f.0; within = f.1 }

-- the desk's limits hold of every profile
pub most_desk : (profile : Profile) → (width_most profile ≤ width_limit) × (frames_most profile ≤ frame_limit)
most_desk Desk = (omega arith, omega arith)
most_desk Board = (omega arith, omega arith)

pub passes-room : (number w n : ℕ) → profile_passes number w n ≡ true → n ≤ frame_limit
passes-room number w n e =
    let k = passes-known number w n e in
    let f = within_facts k.profile w n k.within in
    omega (arith, f.1, (most_desk k.profile).1)
