-- The bytes that the converter puts together are those of its definition. Assumes nothing.
use Rattle.std.specs.Prelude.{Ok, Err}
use Rattle.std.specs.List.{list_all}
use mathlib.Core.Path.{◌≡◌, refl, sym, ap, ◌∙◌}
use mathlib.Core.Bool.{Bool, true, false}
use mathlib.Core.List.{List, [], map}
use mathlib.Core.Logic.{⊎_elim}
use Prim.Native.Nat.{ℕ}
use native.Mathlib.Omega.{arith}
use lib.Dec.{eqb}
use lib.IntN.{pos, nat_abs}
use lib.ListN.{length, take, drop, replicate}
use lib.Seq.{sets}
use Rattle.log_lines.specs.Digit.{is_digit, capital}
use Rattle.log_lines.specs.Line.{line_digits, byte_at, note_at, bad_place_of, bad_place, line, refused, line_told, line_of, AreDigits, AllDigits}
use Rattle.log_lines.specs.Earlier.{old_digits, old_note_from, old_note_at, old_line_of, digits_of, new_note, old_line, new_line}
use Rattle.log_lines.specs.Earlier.{ConversionAnswer, done, turned, Converted, converted, not_converted, raised_by, raised_def}
use Rattle.log_lines.specs.Earlier.{holds16, loss_by, loss_of, unless_lost, lowered_by, lowered_def}
use Rattle.log_lines.specs.Earlier.{raise_told, loss_told, lower_told}
use Rattle.log_lines.specs.declared.line.BadLine.{BadLine}
use Rattle.log_lines.specs.declared.line.Line.{Line}
use Rattle.log_lines.specs.declared.earlier.BadOldLine.{BadOldLine}
use Rattle.log_lines.specs.declared.earlier.NotLowered.{NotLowered}
use Rattle.log_lines.specs.declared.earlier.NotLowered.TheVariants.{Bad}
use Rattle.log_lines.proofs.Digits.{front-least, all-front, each_all}
use Rattle.log_lines.proofs.Lines.{line-of-digits, line-of-other}
use Rattle.log_lines.proofs.Exactly.{are-digits, either, yes-digits, no_digits, line_exactly}
use Rattle.log_lines.proofs.Losses.{answer_unless}
use Rattle.log_lines.proofs.Spelled.{pair_onto, pair-part, four-part}
use Rattle.log_lines.proofs.NoteLaws.{event-spelled, lowered-note-spelled}

-- ---- up
module _ (s : List ℕ) where
  pub old-of-digits : AreDigits old_digits s
      → old_line_of s ≡ line (byte_at s 0) (old_note_at s 0) (old_note_at s 1) (old_note_at s 2) (pos 0)
  unfolding old_line_of
  old-of-digits h = rw (yes-digits old_digits s h)

  pub old-of-other : (AreDigits old_digits s → ⊥) → old_line_of s ≡ refused 23 (bad_place_of old_digits s)
  unfolding old_line_of
  old-of-other h = rw (no_digits old_digits s h)

  pub raised-of-digits : AreDigits old_digits s
      → raised_def s ≡ converted (new_line (byte_at s 0) (old_note_at s 0) (old_note_at s 1) (old_note_at s 2) (pos 0))
  unfolding raised_def
  raised-of-digits h = ap raised_by (old-of-digits h)

  pub raised-of-other : (AreDigits old_digits s → ⊥) → raised_def s ≡ not_converted 34 23 (bad_place_of old_digits s)
  unfolding raised_def
  raised-of-other h = ap raised_by (old-of-other h)

-- what is told of an old line that is refused
pub raised-refused : (s : List ℕ) (b : BadOldLine) → b.place ≡ bad_place_of old_digits s
    → (length s ≡ old_digits → list_all is_digit s ≡ true → ⊥) → raise_told (Err b) ≡ raised_def s
unfolding raise_told
raised-refused s b e h =
    rw e (sym (raised-of-other s (λ d. h d.0 (each_all s (λ k q. d.1 k (omega (arith, q, d.0)))))))

-- 14 bytes, all digits
pub all-are-digits : (s : List ℕ) → length s ≡ old_digits → list_all is_digit s ≡ true → AreDigits old_digits s
all-are-digits s e a = are-digits old_digits s e (omega (arith, e, all-front s a))

-- of one that is not
pub raised-whole : (s bytes : List ℕ) → AreDigits old_digits s → bytes ≡ (raised_def s).line → raise_told (Ok bytes) ≡ raised_def s
unfolding raise_told
raised-whole s bytes h e = rw (e, raised-of-digits s h) refl

-- the event's digits, then each note at its place, into 34 times the digit 0
pub raised-bytes : (s l1 l2 l3 l4 : List ℕ) → AreDigits old_digits s
    → l1 ≡ sets (replicate 34 0x30) 0 (map capital (take 2 (drop 0 s)))
    → l2 ≡ sets l1 2 (new_note (old_note_from s 2) []) → l3 ≡ sets l2 10 (new_note (old_note_from s 6) [])
    → l4 ≡ sets l3 18 (new_note (old_note_from s 10) []) → l4 ≡ (raised_def s).line
unfolding digits_of
raised-bytes s l1 l2 l3 l4 h a b c d =
    let event : map capital (take 2 (drop 0 s)) ≡ digits_of 2 (byte_at s 0) [] =
    pair-part s 0 (omega (arith, h.0)) ∙ sym (event-spelled s old_digits h.1 [] (omega arith)) in
    rw (raised-of-digits s h, d, c, b, a)
    (ap
    (λ (v : List ℕ).
    sets
    (sets (sets (sets (replicate 34 0x30) 0 v) 2 (new_note (old_note_from s 2) [])) 10 (new_note (old_note_from s 6) []))
    18
    (new_note (old_note_from s 10) []))
    event)

-- ---- down
-- nothing is lost only where every test holds
all_hold : (w x y z : Bool) → loss_by w x y z ≡ done → (w ≡ true) × (x ≡ true) × (y ≡ true) × (z ≡ true)
all_hold true true true true e = (refl, refl, refl, refl)
all_hold true true true false e = absurd (let z : ◌≡◌ {A = ℕ} 0 1 = cc in omega arith)
all_hold true true false z e = absurd (let z : ◌≡◌ {A = ℕ} 0 1 = cc in omega arith)
all_hold true false y z e = absurd (let z : ◌≡◌ {A = ℕ} 0 1 = cc in omega arith)
all_hold false x y z e = absurd (let z : ◌≡◌ {A = ℕ} 0 1 = cc in omega arith)

module _ (s : List ℕ) where
  pub lowered-of-other : (AllDigits s → ⊥) → lowered_def s ≡ not_converted old_digits 15 (bad_place s)
  unfolding lowered_def
  lowered-of-other h = ap lowered_by (line-of-other s (λ l f. h (are-digits 34 s l f)))

  pub lowered-of-digits : AllDigits s
      → lowered_def s
      ≡ unless_lost (loss_of (note_at s 0) (note_at s 1) (note_at s 2) (note_at s 3))
      (old_line (byte_at s 0) (note_at s 0) (note_at s 1) (note_at s 2))
  unfolding lowered_def
  lowered-of-digits h = ap lowered_by (line-of-digits s h.0 (front-least s 34 h.1))

  -- a line that can be brought down
  pub record Lowerable : Type 0 where
    pub digits : AllDigits s
    pub fourth : eqb (nat_abs (note_at s 3)) 0 ≡ true
    pub first : holds16 (note_at s 0) ≡ true
    pub second : holds16 (note_at s 1) ≡ true
    pub third : holds16 (note_at s 2) ≡ true
    pub gives : lowered_def s ≡ converted (old_line (byte_at s 0) (note_at s 0) (note_at s 1) (note_at s 2))

  lowerable-digits : (lowered_def s).answer ≡ done → AllDigits s → Lowerable
  unfolding loss_of
  lowerable-digits e h =
      let l = lowered-of-digits h in
      let loss = loss_of (note_at s 0) (note_at s 1) (note_at s 2) (note_at s 3) in
      let bytes = old_line (byte_at s 0) (note_at s 0) (note_at s 1) (note_at s 2) in
      let n : loss ≡ done = sym (answer_unless loss bytes) ∙ sym (ap (λ (c : Converted). c.answer) l) ∙ e in
      let t = all_hold (eqb (nat_abs (note_at s 3)) 0) (holds16 (note_at s 0)) (holds16 (note_at s 1)) (holds16 (note_at s 2)) n in
      record {
        digits = h;
        fourth = t.0;
        first = t.1;
        second = t.2;
        third = t.3;
        gives = l ∙ ap (λ (a : ConversionAnswer). unless_lost a bytes) n;
      }

  pub lowerable : (lowered_def s).answer ≡ done → Lowerable
  lowerable e =
      ⊎_elim
      (lowerable-digits e)
      (λ n. absurd (let z : turned 15 (bad_place s) ≡ done = sym (ap (λ (c : Converted). c.answer) (lowered-of-other n)) ∙ e in
      let y : ◌≡◌ {A = ℕ} 0 1 = cc in omega arith))
      (either 34 s)

  -- the event's digits and of each note the last four
  lowered-spelled : Lowerable
      → old_line (byte_at s 0) (note_at s 0) (note_at s 1) (note_at s 2)
      ≡ pair_onto s 0 (pair_onto s 6 (pair_onto s 8 (pair_onto s 14 (pair_onto s 16 (pair_onto s 22 (pair_onto s 24 []))))))
  lowered-spelled w =
      let digit = w.digits.1 in
      let third = lowered-note-spelled s 34 digit 18 [] (omega arith) w.third in
      let second = lowered-note-spelled s 34 digit 10 (pair_onto s 22 (pair_onto s 24 [])) (omega arith) w.second in
      let first =
      lowered-note-spelled s 34 digit 2 (pair_onto s 14 (pair_onto s 16 (pair_onto s 22 (pair_onto s 24 [])))) (omega arith) w.first in
      rw (third, second, first) (event-spelled s 34 digit _ (omega arith))

-- the event's digits, then of each note the last four, into 14 bytes
pub lowered-bytes : (s l1 l2 l3 l4 : List ℕ) → length s ≡ 34 → (lowered_def s).answer ≡ done
    → l1 ≡ sets (replicate 14 0x30) 0 (map capital (take 2 (drop 0 s))) → l2 ≡ sets l1 2 (map capital (take 4 (drop 6 s)))
    → l3 ≡ sets l2 6 (map capital (take 4 (drop 14 s))) → l4 ≡ sets l3 10 (map capital (take 4 (drop 22 s)))
    → l4 ≡ (lowered_def s).line
lowered-bytes s l1 l2 l3 l4 h e a b c d =
    let w = lowerable s e in
    let pair = pair-part s 0 (omega arith) in
    let one = four-part s 6 (omega arith) in
    let two = four-part s 14 (omega arith) in
    let three = four-part s 22 (omega arith) in
    rw (w.gives, lowered-spelled s w, d, c, b, a, pair, one, two, three) refl

-- what is told of a line that could not be read
pub lowered-unread : (s : List ℕ) (b : BadLine) → line_told (Err b) ≡ line_of s → lower_told (Err (Bad b)) ≡ lowered_def s
unfolding line_told lower_told lowered_def
lowered-unread s b e = ap lowered_by e

-- of one of which something is lost
pub lowered-lost : (s : List ℕ) (l : Line) (why : NotLowered) → line_told (Ok l) ≡ line_of s
    → loss_told (Err why) ≡ loss_of l.notes.0 l.notes.1 l.notes.2 l.notes.3 → lower_told (Err why) ≡ lowered_def s
unfolding line_told loss_told lower_told lowered_def
lowered-lost s l why e f =
    ap (λ (x : ConversionAnswer). unless_lost x (old_line l.event l.notes.0 l.notes.1 l.notes.2)) f ∙ ap lowered_by e

-- of one of which nothing is lost: its bytes are all that there is
pub lowered-done : (s : List ℕ) (l : Line) → line_told (Ok l) ≡ line_of s
    → loss_told (Ok tt) ≡ loss_of l.notes.0 l.notes.1 l.notes.2 l.notes.3 → (lowered_def s).answer ≡ done
unfolding line_told loss_told lowered_def
lowered-done s l e f =
    ap (λ (r : Converted). r.answer)
    (sym (ap lowered_by e) ∙ ap (λ (x : ConversionAnswer). unless_lost x (old_line l.event l.notes.0 l.notes.1 l.notes.2)) (sym f))

pub lowered-whole : (s bytes : List ℕ) (l : Line) → line_told (Ok l) ≡ line_of s
    → loss_told (Ok tt) ≡ loss_of l.notes.0 l.notes.1 l.notes.2 l.notes.3 → bytes ≡ (lowered_def s).line
    → lower_told (Ok bytes) ≡ lowered_def s
unfolding lower_told
lowered-whole s bytes l e f g = rw g (rw (lowerable s (lowered-done s l e f)).gives refl)

-- a line that was read is one of 34 digits
pub read-long : (s : List ℕ) (l : Line) → line_told (Ok l) ≡ line_of s → length s ≡ line_digits
unfolding line_told
read-long s l e = let h = (line_exactly s l.event l.notes.0 l.notes.1 l.notes.2 l.notes.3).0 (sym e) in h.0.0

-- a line brought up, and one brought down
pub ruleset up_steps = (all-are-digits, raised-bytes, raised-refused, raised-whole)

pub ruleset down_steps = (lowered-bytes, lowered-unread, lowered-lost, lowered-done, lowered-whole, read-long)
