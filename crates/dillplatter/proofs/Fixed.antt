-- The numbers of an answer fix the answer: it can be got back from them. Assumes nothing.
use mathlib.Core.Path.{◌≡◌, refl, sym, ap, ap₂, ◌∙◌}
use mathlib.Core.Bool.{Bool, true, false, cond}
use Prim.Native.Nat.{ℕ, zero, suc}
use lib.Dec.{eqb}
use Rattle.std.proofs.Common.{List, Result, Ok, Err, arith}
use Rattle.rule.specs.ReadTold.{ReadAnswer, read_told}
use Rattle.rule.specs.ReadTold as reading
use Rattle.rule.specs.declared.Refusal.{Refusal}
use Rattle.rule.proofs.Main.{read_told_injective}
use Rattle.log_lines.specs.Earlier.{raise_told, lower_told}
use Rattle.log_lines.specs.declared.earlier.BadOldLine.{BadOldLine}
use Rattle.log_lines.specs.declared.earlier.NotLowered.{NotLowered}
use Rattle.log_lines.specs.declared.earlier.NotLowered.TheVariants as lowers
use Rattle.verdict.specs.declared.Verdict.TheVariants.{True, False, Unknown}
use Rattle.checker.specs.Answer.{opened, accepted, ignored, waiting, verdict, refused}
use Rattle.checker.specs.StateTest.{state_passes}
use Rattle.checker.specs.Tariff.{bands_fit, prices_fit, cents_of, Charge, cents, turned, charge_def}
use Rattle.checker.specs.declared.State.{State}
use Rattle.checker.specs.declared.Tariff.{Tariff}
use Rattle.dillplatter.specs.Told.{AnyAnswer, read, checked, of_reading, answer_number, number_of, place_of, frames_of, unlined, conversion_number, conversion_place}
use Rattle.dillplatter.specs.Told.{charge_number, charge_place, charge_cents}

-- the answer with given numbers
got : (answer number place frames : ℕ) → AnyAnswer
got zero n p f = checked (refused n p)
got (suc zero) n p f = read f
got (suc (suc zero)) n p f = checked opened
got (suc (suc (suc zero))) n p f = checked accepted
got (suc (suc (suc (suc zero)))) n p f = checked ignored
got (suc (suc (suc (suc (suc zero))))) n p f = checked waiting
got (suc (suc (suc (suc (suc (suc zero)))))) n p f = checked (verdict True)
got (suc (suc (suc (suc (suc (suc (suc zero))))))) n p f = checked (verdict False)
got (suc (suc (suc (suc (suc (suc (suc (suc k)))))))) n p f = checked (verdict Unknown)

-- it is the one that has them
got-back : (t : AnyAnswer) → got (answer_number t) (number_of t) (place_of t) (frames_of t) ≡ t
unfolding got
got-back (read n) = refl
got-back (checked opened) = refl
got-back (checked accepted) = refl
got-back (checked ignored) = refl
got-back (checked waiting) = refl
got-back (checked (verdict True)) = refl
got-back (checked (verdict False)) = refl
got-back (checked (verdict Unknown)) = refl
got-back (checked (refused n p)) = refl

pub told_fixed : (s t : AnyAnswer) → answer_number s ≡ answer_number t → number_of s ≡ number_of t → place_of s ≡ place_of t → frames_of s ≡ frames_of t → s ≡ t
told_fixed s t a n p f =
    sym (got-back s)
    ∙ (ap (λ x. got x (number_of s) (place_of s) (frames_of s)) a
    ∙ (ap (λ x. got (answer_number t) x (place_of s) (frames_of s)) n
    ∙ (ap (λ x. got (answer_number t) (number_of t) x (frames_of s)) p
    ∙ (ap (λ x. got (answer_number t) (number_of t) (place_of t) x) f
    ∙ got-back t))))

-- the answer of `read` that is told so
heard : AnyAnswer → ReadAnswer
heard (read n) = reading.frames n
heard (checked opened) = reading.frames 0
heard (checked accepted) = reading.frames 0
heard (checked ignored) = reading.frames 0
heard (checked waiting) = reading.frames 0
heard (checked (verdict v)) = reading.frames 0
heard (checked (refused n p)) = reading.refused n p

heard-back : (a : ReadAnswer) → heard (of_reading a) ≡ a
unfolding heard
heard-back (reading.frames n) = refl
heard-back (reading.refused n p) = refl

pub reading_fixed : (r s : Result ℕ Refusal) → of_reading (read_told r) ≡ of_reading (read_told s) → r ≡ s
reading_fixed r s e = read_told_injective r s (sym (heard-back (read_told r)) ∙ (ap heard e ∙ heard-back (read_told s)))

-- ---- conversions: the answer with a given number and place
got_raise : (number place : ℕ) → Result (Unit {0}) BadOldLine
got_raise zero p = Ok tt
got_raise (suc n) p = Err (record { place = p })

raise_back : (a : Result (List ℕ) BadOldLine) → got_raise (conversion_number (raise_told a).answer) (conversion_place (raise_told a).answer) ≡ unlined a
unfolding raise_told got_raise
raise_back (Ok s) = refl
raise_back (Err bad) = refl

pub raise_fixed : (a b : Result (List ℕ) BadOldLine) → conversion_number (raise_told a).answer ≡ conversion_number (raise_told b).answer
    → conversion_place (raise_told a).answer ≡ conversion_place (raise_told b).answer → unlined a ≡ unlined b
raise_fixed a b h i = sym (raise_back a) ∙ ap₂ got_raise h i ∙ raise_back b

got_lower : (number place : ℕ) → Result (Unit {0}) NotLowered
got_lower n p = cond (eqb n 0) (Ok tt) (cond (eqb n 15) (Err (lowers.Bad (record { place = p }))) (cond (eqb n 24) (Err lowers.Fourth) (Err (lowers.Wide p))))

lower-back : (a : Result (List ℕ) NotLowered) → got_lower (conversion_number (lower_told a).answer) (conversion_place (lower_told a).answer) ≡ unlined a
unfolding lower_told got_lower
lower-back (Ok s) = refl
lower-back (Err (lowers.Bad bad)) = refl
lower-back (Err lowers.Fourth) = refl
lower-back (Err (lowers.Wide p)) = refl

pub lower_fixed : (a b : Result (List ℕ) NotLowered) → conversion_number (lower_told a).answer ≡ conversion_number (lower_told b).answer
    → conversion_place (lower_told a).answer ≡ conversion_place (lower_told b).answer → unlined a ≡ unlined b
lower_fixed a b h i = sym (lower-back a) ∙ ap₂ got_lower h i ∙ lower-back b

-- with the line, all of it
lined : {E : Type 0} (a b : Result (List ℕ) E) (line : Result (List ℕ) E → List ℕ) → ((s : List ℕ) → line (Ok s) ≡ s) → unlined a ≡ unlined b → line a ≡ line b → a ≡ b
lined (Ok s) (Ok t) line k u l = ap Ok (sym (k s) ∙ l ∙ k t)
lined (Ok s) (Err f) line k u l = absurd (let z : ◌≡◌ {A = ℕ} 0 1 = cc in omega arith)
lined (Err e) (Ok t) line k u l = absurd (let z : ◌≡◌ {A = ℕ} 0 1 = cc in omega arith)
lined (Err e) (Err f) line k u l = let q : e ≡ f = cc in ap Err q

pub raise_whole : (a b : Result (List ℕ) BadOldLine) → conversion_number (raise_told a).answer ≡ conversion_number (raise_told b).answer
    → conversion_place (raise_told a).answer ≡ conversion_place (raise_told b).answer → (raise_told a).line ≡ (raise_told b).line → a ≡ b
unfolding raise_told
raise_whole a b h i l = lined a b (λ r. (raise_told r).line) (λ s. refl) (raise_fixed a b h i) l

pub lower_whole : (a b : Result (List ℕ) NotLowered) → conversion_number (lower_told a).answer ≡ conversion_number (lower_told b).answer
    → conversion_place (lower_told a).answer ≡ conversion_place (lower_told b).answer → (lower_told a).line ≡ (lower_told b).line → a ≡ b
unfolding lower_told
lower_whole a b h i l = lined a b (λ r. (lower_told r).line) (λ s. refl) (lower_fixed a b h i) l

-- ---- charges: the answer with given numbers; no refusal's number is 0
got_charge : (number place cents : ℕ) → Charge
got_charge zero p c = cents c
got_charge (suc n) p c = turned (suc n) p

abbrev Back : Charge → Type 0
Back a = got_charge (charge_number a) (charge_place a) (charge_cents a) ≡ a

-- by what 28, 29 and 12 say
back_by : (x y z : Bool) (c : ℕ) → Back (cond x (cond y (cond z (cents c) (turned 12 0)) (turned 29 0)) (turned 28 0))
unfolding got_charge
back_by true true true c = refl
back_by true true false c = refl
back_by true false z c = refl
back_by false y z c = refl

charge_back : (s : State) (t : Tariff) → Back (charge_def s t)
unfolding charge_def
charge_back s t = back_by (bands_fit t) (prices_fit t) (state_passes s) (cents_of t s.totals.failed)

pub charge_fixed : (s s' : State) (t t' : Tariff) → charge_number (charge_def s t) ≡ charge_number (charge_def s' t')
    → charge_place (charge_def s t) ≡ charge_place (charge_def s' t') → charge_cents (charge_def s t) ≡ charge_cents (charge_def s' t')
    → charge_def s t ≡ charge_def s' t'
charge_fixed s s' t t' n p c =
    sym (charge_back s t)
    ∙ (ap (λ x. got_charge x (charge_place (charge_def s t)) (charge_cents (charge_def s t))) n
    ∙ (ap₂ (got_charge (charge_number (charge_def s' t'))) p c
    ∙ charge_back s' t'))
