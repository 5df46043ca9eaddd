-- Laws of `are_digits` and `line_of`: which answer each line has. Assumes nothing.
use Rattle.std.specs.Prelude.{Some, None}
use mathlib.Core.Path.{◌≡◌, refl, ◌∙◌}
use mathlib.Core.Bool.{Bool, true, false}
use mathlib.Core.List.{List}
use Prim.Native.Nat.{ℕ, ◌≤◌, ◌<◌}
use native.Mathlib.Omega.{arith}
use borrow.Author.Tests.{eqb-true, eq-eqb}
use lib.Dec.{eqb}
use lib.ListN.{length}
use Rattle.log_lines.specs.Line.{digits_at_front, bad_place, are_digits, pair_from, byte_at, note_at, notes_of, line, refused, line_of}
use Rattle.log_lines.specs.declared.line.Notes.{Notes}
use Rattle.log_lines.proofs.Digits.{reach, reach-later, front-within}
use Rattle.log_lines.proofs.Pairs.{pair-byte, pair-bad, notes-word, notes-bad}

-- n digits
pub digits-tested : (n : ℕ) (s : List ℕ) → length s ≡ n → n ≤ digits_at_front s → are_digits n s ≡ true
digits-tested n s h k = rw (eq-eqb (length s) n h, eq-eqb (digits_at_front s) n (omega (arith, front-within s)))

other : (n : ℕ) (s : List ℕ) (x y : Bool) → eqb (length s) n ≡ x → eqb (digits_at_front s) n ≡ y
    → (length s ≡ n → n ≤ digits_at_front s → ⊥) → are_digits n s ≡ false
other n s true true p q h = absurd (h (eqb-true _ _ p) (omega (arith, eqb-true (digits_at_front s) n q)))
other n s true false p q h = rw (p, q)
other n s false y p q h = rw p

-- anything else
pub other-tested : (n : ℕ) (s : List ℕ) → (length s ≡ n → n ≤ digits_at_front s → ⊥) → are_digits n s ≡ false
other-tested n s h = other n s (eqb (length s) n) (eqb (digits_at_front s) n) refl refl h

-- 34 digits
pub line-of-digits : (s : List ℕ) → length s ≡ 34 → 34 ≤ digits_at_front s
    → line_of s ≡ line (byte_at s 0) (note_at s 0) (note_at s 1) (note_at s 2) (note_at s 3)
unfolding line_of
line-of-digits s h k = rw (digits-tested 34 s h k)

-- anything else
pub line-of-other : (s : List ℕ) → (length s ≡ 34 → 34 ≤ digits_at_front s → ⊥) → line_of s ≡ refused 15 (bad_place s)
unfolding line_of
line-of-other s h = rw (other-tested 34 s h)

-- a pair and four notes
pub line-of-notes : (s : List ℕ) {e : ℕ} {n : Notes} → length s ≡ 34 → pair_from s 0 ≡ Some e → notes_of s ≡ Some n
    → line_of s ≡ line e n.0 n.1 n.2 n.3
line-of-notes s h p q =
    let e = pair-byte s 0 2 refl p in
    let n = notes-word s q in
    line-of-digits s h (omega arith) ∙ cc

few : (s : List ℕ) (k : ℕ) → reach s k < 34 → line_of s ≡ refused 15 (bad_place s)
few s k h = let l = reach-later s 0 k (omega arith) in line-of-other s (λ n f. omega arith)

-- a pair that is no byte
pub line-of-bad-pair : (s : List ℕ) → pair_from s 0 ≡ None → line_of s ≡ refused 15 (bad_place s)
line-of-bad-pair s e = let b = pair-bad s 0 e in few s 0 (omega arith)

-- 32 bytes that are no notes
pub line-of-bad-notes : (s : List ℕ) → notes_of s ≡ None → line_of s ≡ refused 15 (bad_place s)
line-of-bad-notes s e = let b = notes-bad s e in few s 2 (omega arith)

-- what a line is
pub ruleset line_steps = (line-of-other, line-of-notes, line-of-bad-pair, line-of-bad-notes)
