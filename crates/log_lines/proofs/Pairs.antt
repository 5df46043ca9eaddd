-- Laws of pairs and notes: what each says of the digits from its place on. Assumes nothing.
use Rattle.std.specs.Prelude.{Some, None}
use mathlib.Core.Path.{◌≡◌, refl, ap, ◌∙◌}
use mathlib.Core.Bool.{Bool, true, false, cond, ◌&&◌}
use mathlib.Core.List.{List}
use Prim.Native.Nat.{ℕ, ◌+◌, ◌≤◌, ◌<◌}
use native.Mathlib.Omega.{arith}
use borrow.Author.Tests.{leb-true, leb-false, le-leb, lt-leb}
use lib.Dec.{leb}
use lib.IntN.{ℤ}
use lib.ListN.{get_or, drop}
use Rattle.numbers.specs.Word.{signed_word}
use Rattle.log_lines.specs.Digit.{is_digit}
use Rattle.log_lines.specs.Pair.{pair_of}
use Rattle.log_lines.specs.Line.{digits_at_front, byte_from, pair_from, note_at, note_from, noted, notes_of}
use Rattle.log_lines.specs.declared.line.Notes.{Notes}
use Rattle.log_lines.proofs.Digits.{reach, reach-digit, reach-other, reach-skip, reach-later}

chosen : (x y : Bool) (v b : ℕ) → cond (x && y) (Some v) None ≡ Some b
    → (x ≡ true) × (y ≡ true) × (b ≡ v)
chosen true true v b e = (refl, refl, cc)
chosen true false v b e = absurd (let z : ◌≡◌ {A = ℕ} 0 1 = cc in omega arith)
chosen false y v b e = absurd (let z : ◌≡◌ {A = ℕ} 0 1 = cc in omega arith)

-- a byte: two digits, whose value it is
pub pair-byte : (s : List ℕ) (k m : ℕ) {b : ℕ} → m ≡ k + 2 → pair_from s k ≡ Some b
    → (reach s k ≡ reach s m) × (b ≡ byte_from s k)
unfolding pair_of
pair-byte s k m {b} n e =
    let h = chosen (is_digit (get_or s k 0)) (is_digit (get_or s (k + 1) 0)) (byte_from s k) b e in
    let r = reach-digit s k h.0 ∙ reach-digit s (k + 1) h.1 in
    (reach-skip s k m (omega arith) (omega arith), h.2)

short : (s : List ℕ) (k v : ℕ) (x y : Bool) → is_digit (get_or s k 0) ≡ x → is_digit (get_or s (k + 1) 0) ≡ y
    → cond (x && y) (Some v) None ≡ None → reach s k < k + 2
short s k v true true p q e = absurd (let z : ◌≡◌ {A = ℕ} 0 1 = cc in omega arith)
short s k v true false p q e = omega (arith, reach-digit s k p, reach-other s (k + 1) q)
short s k v false y p q e = omega (arith, reach-other s k p)

-- no byte: less than two digits
pub pair-bad : (s : List ℕ) (k : ℕ) → pair_from s k ≡ None → reach s k < k + 2
unfolding pair_of
pair-bad s k e = short s k (byte_from s k) (is_digit (get_or s k 0)) (is_digit (get_or s (k + 1) 0)) refl refl e

chosen-note : (x : Bool) (v z : ℤ) → cond x (Some v) None ≡ Some z → (x ≡ true) × (z ≡ v)
chosen-note true v z e = (refl, cc)
chosen-note false v z e = absurd (let z : ◌≡◌ {A = ℕ} 0 1 = cc in omega arith)

no_note : (x : Bool) (v : ℤ) → cond x (Some v) None ≡ None → x ≡ false
no_note true v e = absurd (let z : ◌≡◌ {A = ℕ} 0 1 = cc in omega arith)
no_note false v e = refl

-- a note: eight digits, whose value it is
pub note-word : (s : List ℕ) (k m : ℕ) {z : ℤ} → m ≡ k + 8 → noted s k ≡ Some z
    → (reach s k ≡ reach s m) × (z ≡ note_from s k)
unfolding noted
note-word s k m {z} n e =
    let h = chosen-note (leb 8 (digits_at_front (drop k s))) (note_from s k) z e in
    let f = leb-true 8 (digits_at_front (drop k s)) h.0 in
    (reach-skip s k m (omega arith) (omega arith), h.1)

-- no note: less than eight digits
pub note-bad : (s : List ℕ) (k : ℕ) → noted s k ≡ None → reach s k < k + 8
unfolding noted
note-bad s k e =
    let f = leb-false 8 (digits_at_front (drop k s)) (no_note (leb 8 (digits_at_front (drop k s))) (note_from s k) e) in
    omega arith

-- four bytes are a note
pub noted-of-bytes : (s : List ℕ) (k : ℕ) {a b c d : ℕ} → pair_from s k ≡ Some a → pair_from s (k + 2) ≡ Some b
    → pair_from s (k + 4) ≡ Some c → pair_from s (k + 6) ≡ Some d → noted s k ≡ Some (signed_word a b c d)
unfolding noted
noted-of-bytes s k p q r t =
    let a = pair-byte s k (k + 2) (omega arith) p in
    let b = pair-byte s (k + 2) (k + 4) (omega arith) q in
    let c = pair-byte s (k + 4) (k + 6) (omega arith) r in
    let d = pair-byte s (k + 6) (k + 8) (omega arith) t in
    simp (le-leb 8 (digits_at_front (drop k s)) (omega arith), a.1, b.1, c.1, d.1)

-- a pair that is no byte leaves none
pub noted-of-bad : (s : List ℕ) (k m : ℕ) → k ≤ m → m + 2 ≤ k + 8 → pair_from s m ≡ None → noted s k ≡ None
unfolding noted
noted-of-bad s k m h n e =
    let l = reach-later s k m h in
    let b = pair-bad s m e in
    rw (lt-leb 8 (digits_at_front (drop k s)) (omega arith))

chosen-notes : (x : Bool) (v n : Notes) → cond x (Some v) None ≡ Some n → (x ≡ true) × (n ≡ v)
chosen-notes true v n e = (refl, cc)
chosen-notes false v n e = absurd (let z : ◌≡◌ {A = ℕ} 0 1 = cc in omega arith)

no_notes : (x : Bool) (v : Notes) → cond x (Some v) None ≡ None → x ≡ false
no_notes true v e = absurd (let z : ◌≡◌ {A = ℕ} 0 1 = cc in omega arith)
no_notes false v e = refl

-- the four notes that 32 digits are
digits-notes : List ℕ → Notes
digits-notes s = record { 0 = note_at s 0; 1 = note_at s 1; 2 = note_at s 2; 3 = note_at s 3 }

-- four notes: 32 digits, whose values they are
pub notes-word : (s : List ℕ) {n : Notes} → notes_of s ≡ Some n
    → (reach s 2 ≡ reach s 34) × (n.0 ≡ note_at s 0) × (n.1 ≡ note_at s 1) × (n.2 ≡ note_at s 2) × (n.3 ≡ note_at s 3)
unfolding notes_of digits-notes
notes-word s {n} e =
    let h = chosen-notes (leb 32 (digits_at_front (drop 2 s))) (digits-notes s) n e in
    let f = leb-true 32 (digits_at_front (drop 2 s)) h.0 in (
      reach-skip s 2 34 (omega arith) (omega arith),
      ap (λ (m : Notes). m.0) h.1,
      ap (λ (m : Notes). m.1) h.1,
      ap (λ (m : Notes). m.2) h.1,
      ap (λ (m : Notes). m.3) h.1,
    )

-- no notes: less than 32 digits
pub notes-bad : (s : List ℕ) → notes_of s ≡ None → reach s 2 < 34
unfolding notes_of digits-notes
notes-bad s e =
    let f = leb-false 32 (digits_at_front (drop 2 s)) (no_notes (leb 32 (digits_at_front (drop 2 s))) (digits-notes s) e) in
    omega arith

-- four notes, one behind the other
pub notes-of-notes : (s : List ℕ) {a b c d : ℤ} → noted s 2 ≡ Some a → noted s 10 ≡ Some b → noted s 18 ≡ Some c → noted s 26 ≡ Some d
    → notes_of s ≡ Some (record { 0 = a; 1 = b; 2 = c; 3 = d })
unfolding notes_of
notes-of-notes s p q r t =
    let a = note-word s 2 10 refl p in
    let b = note-word s 10 18 refl q in
    let c = note-word s 18 26 refl r in
    let d = note-word s 26 34 refl t in
    simp (le-leb 32 (digits_at_front (drop 2 s)) (omega arith), a.1, b.1, c.1, d.1)

-- eight bytes that are no note leave none
pub notes-of-bad : (s : List ℕ) (k : ℕ) → 2 ≤ k → k + 8 ≤ 34 → noted s k ≡ None → notes_of s ≡ None
unfolding notes_of
notes-of-bad s k h n e =
    let l = reach-later s 2 k h in
    let b = note-bad s k e in
    rw (lt-leb 32 (digits_at_front (drop 2 s)) (omega arith))

-- what a note, and the four notes, are
pub ruleset note_steps = (noted-of-bytes, noted-of-bad)

pub ruleset notes_steps = (notes-of-notes, notes-of-bad)
