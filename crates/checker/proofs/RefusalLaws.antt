-- The number and the place of a refusal fix it. Assumes nothing.
use Rattle.std.proofs.Common.{◌≡◌, ℕ, cond, eqb, sym, refl, ◌∙◌, ap₂}
use Rattle.rule.specs.declared.Refusal.TheVariants as rules
use Rattle.checker.specs.Refusals.{refusal_number, refusal_place}
use Rattle.checker.specs.declared.refusals.Refusal.{Refusal}
use Rattle.checker.specs.declared.refusals.Refusal.TheVariants.{Rule, Opening, State, Window, Report, Line, Lines, Full, Board, Sum}
use Rattle.checker.specs.declared.refusals.Refusal.TheVariants.{Bands, Prices}

-- the refusal of a number and a place: of a rule's, then of the calls'
abbrev of_rule : ℕ → ℕ → Refusal
of_rule n p =
    cond (eqb n 1) (Rule rules.Buffer)
    (cond (eqb n 2) (Rule rules.TextLength)
    (cond (eqb n 3) (Rule (rules.Token p))
    (cond (eqb n 4) (Rule (rules.Name p))
    (cond (eqb n 5) (Rule (rules.Number p))
    (cond (eqb n 6) (Rule rules.TooLarge)
    (cond (eqb n 7) (Rule rules.NoReference)
    (cond (eqb n 8) (Rule rules.Magnitude)
    (cond (eqb n 9) (Rule rules.FrameBytes)
    (cond (eqb n 10) (Rule (rules.Order p)) (Rule (rules.Decimals p)))))))))))

named : ℕ → ℕ → Refusal
named n p =
    cond (eqb n 11) Opening
    (cond (eqb n 12) State
    (cond (eqb n 13) Window
    (cond (eqb n 14) Report
    (cond (eqb n 15) (Line (record { place = p }))
    (cond (eqb n 16) Lines
    (cond (eqb n 17) Full
    (cond (eqb n 26) Board
    (cond (eqb n 27) Sum
    (cond (eqb n 28) Bands
    (cond (eqb n 29) Prices (of_rule n p)))))))))))

named-back : (r : Refusal) → named (refusal_number r) (refusal_place r) ≡ r
unfolding named
named-back (Rule rules.Buffer) = refl
named-back (Rule rules.TextLength) = refl
named-back (Rule (rules.Token p)) = refl
named-back (Rule (rules.Name p)) = refl
named-back (Rule (rules.Number p)) = refl
named-back (Rule (rules.Decimals p)) = refl
named-back (Rule rules.TooLarge) = refl
named-back (Rule rules.NoReference) = refl
named-back (Rule rules.Magnitude) = refl
named-back (Rule rules.FrameBytes) = refl
named-back (Rule (rules.Order p)) = refl
named-back Opening = refl
named-back State = refl
named-back Window = refl
named-back Report = refl
named-back (Line line) = refl
named-back Lines = refl
named-back Full = refl
named-back Board = refl
named-back Sum = refl
named-back Bands = refl
named-back Prices = refl

pub refusal_same : (a b : Refusal) → refusal_number a ≡ refusal_number b → refusal_place a ≡ refusal_place b → a ≡ b
refusal_same a b n p = sym (named-back a) ∙ ap₂ named n p ∙ named-back b
