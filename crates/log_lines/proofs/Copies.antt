-- Digits copied as capitals, byte by byte, for the loop that does it, and sign digits before them. Assumes nothing.
use borrow.Rule.Slice.PartMut.{put_mid}
use Rattle.std.proofs.lemmas.Slice.{put_mid-paste}
use Rattle.std.proofs.lemmas.List.Edits.{paste_all, sets-eq}
use Rattle.std.proofs.Common.{append_assoc}
use mathlib.Core.Path.{◌≡◌, refl, sym, ap, ◌∙◌}
use mathlib.Core.Bool.{cond}
use mathlib.Core.List.{List, [], map}
use Prim.Native.Nat.{ℕ, suc, ◌+◌, ◌-◌, ◌≤◌}
use native.Mathlib.Omega.{arith}
use lib.Dec.{leb}
use lib.ListN.{length, get_or, replicate, length-take, length-drop, take, drop}
use lib.Seq.{sets}
use Rattle.log_lines.specs.Digit.{digit_value, capital}
use Rattle.log_lines.specs.Line.{AreDigits}
use Rattle.log_lines.specs.Earlier.{old_digits, old_note_from, new_note}
use Rattle.log_lines.proofs.Spelled.{four-part}
use Rattle.log_lines.proofs.NoteLaws.{sign_onto, raised-note-spelled}

-- four sign digits, as the library fills a part
pub signs-put : (l ys : List ℕ) (at d : ℕ) → at + 4 ≤ length l → ys ≡ replicate (length (take (at + 4 - at) (drop at l))) d
    → put_mid at (at + 4 - at) l ys ≡ sets l at (replicate 4 d)
signs-put l ys at d h e =
    let k : at + 4 - at ≡ 4 = omega arith in
    let n : length (take (at + 4 - at) (drop at l)) ≡ 4 = simp (length-take, length-drop) (omega arith) in
    let signs : ys ≡ replicate 4 d = e ∙ ap (λ (m : ℕ). replicate m d) n in
    put_mid-paste at (at + 4 - at) l ys (replicate 4 d) 4 signs (sym k) refl
    ∙ paste_all l at (replicate 4 d) 4 refl
    ∙ sym (append_assoc (take at l) (replicate 4 d) (drop (at + 4) l))
    ∙ sym (sets-eq (replicate 4 d) l at h)

-- .. before a copy
signs-before : (l : List ℕ) (at d : ℕ) (vs : List ℕ) → sets (sets l at (replicate 4 d)) (at + 4) vs ≡ sets l at (sign_onto d vs)
signs-before l at d vs = let e : at + 4 ≡ suc (suc (suc (suc at))) = omega arith in rw e refl

-- the right ones, and four digits of an old line: a note of eight
pub put-note : (l old : List ℕ) (at from d n : ℕ) → AreDigits old_digits old → from + 4 ≤ old_digits → n ≡ 4
    → d ≡ cond (leb 8 (digit_value (get_or old from 0))) 0x46 0x30
    → sets (sets l at (replicate 4 d)) (at + 4) (map capital (take n (drop from old)))
    ≡ sets l at (new_note (old_note_from old from) [])
put-note l old at from d n a h e f =
    let part = four-part old from (omega (arith, a.0)) in
    let note = raised-note-spelled old old_digits a.1 from [] h in
    let both : sign_onto d (map capital (take n (drop from old))) ≡ new_note (old_note_from old from) [] = rw (e, part, f) (sym note) in
    signs-before l at d (map capital (take n (drop from old))) ∙ ap (sets l at) both
