-- What is told of an answer fixes the answer: it can be got back from that. Assumes nothing.
use mathlib.Core.Path.{◌≡◌, refl, sym, ap, ◌∙◌}
use Prim.Native.Nat.{ℕ}
use Rattle.std.specs.Prelude.{cond, eqb, Result, Ok, Err}
use Rattle.rule.specs.Refusal.{refusal_number, refusal_place}
use Rattle.rule.specs.CheckTold.{CheckAnswer, check_told}
use Rattle.rule.specs.CheckTold as checking
use Rattle.rule.specs.ReadTold.{ReadAnswer, read_told}
use Rattle.rule.specs.ReadTold as reading
use Rattle.rule.specs.declared.Refusal.{Refusal}
use Rattle.rule.specs.declared.Refusal.TheVariants.{Buffer, TextLength, Token, Name, Number, Decimals, TooLarge, NoReference, Magnitude, FrameBytes, Order}

-- ---- a refusal, from its number and its place
got : (number place : ℕ) → Refusal
got n p =
    cond (eqb n 1) Buffer
    (cond (eqb n 2) TextLength
    (cond (eqb n 3) (Token p)
    (cond (eqb n 4) (Name p)
    (cond (eqb n 5) (Number p)
    (cond (eqb n 6) TooLarge
    (cond (eqb n 7) NoReference
    (cond (eqb n 8) Magnitude
    (cond (eqb n 9) FrameBytes
    (cond (eqb n 10) (Order p) (Decimals p))))))))))

got_back : (r : Refusal) → got (refusal_number r) (refusal_place r) ≡ r
unfolding got
got_back Buffer = refl
got_back TextLength = refl
got_back (Token p) = refl
got_back (Name p) = refl
got_back (Number p) = refl
got_back (Decimals p) = refl
got_back TooLarge = refl
got_back NoReference = refl
got_back Magnitude = refl
got_back FrameBytes = refl
got_back (Order p) = refl

-- ---- `check`
got_check : CheckAnswer → Result Unit Refusal
got_check checking.accepted = Ok tt
got_check (checking.refused n p) = Err (got n p)

check_back : (a : Result Unit Refusal) → got_check (check_told a) ≡ a
unfolding got_check
check_back (Ok u) = refl
check_back (Err r) = ap Err (got_back r)

pub check_told_injective : (a b : Result Unit Refusal) → check_told a ≡ check_told b → a ≡ b
check_told_injective a b e = sym (check_back a) ∙ (ap got_check e ∙ check_back b)

-- ---- `read`
got_read : ReadAnswer → Result ℕ Refusal
got_read (reading.frames n) = Ok n
got_read (reading.refused n p) = Err (got n p)

read_back : (a : Result ℕ Refusal) → got_read (read_told a) ≡ a
unfolding got_read
read_back (Ok n) = refl
read_back (Err r) = ap Err (got_back r)

pub read_told_injective : (a b : Result ℕ Refusal) → read_told a ≡ read_told b → a ≡ b
read_told_injective a b e = sym (read_back a) ∙ (ap got_read e ∙ read_back b)
