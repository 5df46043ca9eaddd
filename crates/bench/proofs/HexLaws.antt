-- Hexadecimal lines: one piece after another is the whole line. Assumes nothing.
use Rattle.std.proofs.Common.{◌≡◌, ℕ, suc, ◌+◌, ◌*◌, ◌/◌, ◌%◌, ◌^◌, ◌<◌, ◌≤◌, List, [], ◌∷◌, ◌++◌, length, get_or, drop, set, sym, refl, ap, ◌∙◌, add-one, arith, length-append, drop_of_length-le, drop-cons, drop-drop, append_assoc, take}
use lib.Seq.{sets, sets-eq}
use borrow.Rule.Slice.PartMut.{put_mid}
use Rattle.std.specs.Int.{w32, to_be_bytes}
use Rattle.rule.specs.Tree.{word_bytes}
use Rattle.log_lines.specs.Digit.{hex_digit}
use Rattle.bench.specs.Print.{hex_of, line_feed, hex_line}

-- two digits for each byte
hex_length : (s : List ℕ) → length (hex_of s) ≡ 2 * length s
unfolding hex_of
hex_length [] = refl
hex_length (b ∷ s) = omega (arith, hex_length s)

pub line-length : (s : List ℕ) → length (hex_line s) ≡ 2 * length s + 1
line-length s = length-append (hex_of s) line_feed ∙ omega (arith, hex_length s)

-- ---- a line, byte by byte
byte_next : (l : List ℕ) (at b : ℕ) (bs t : List ℕ) → sets (sets l at (hex_of (b ∷ []))) (at + 2) (hex_of bs ++ t) ≡ sets l at (hex_of (b ∷ bs) ++ t)
unfolding hex_of
byte_next l at b bs t = let e : at + 2 ≡ suc (suc at) = omega arith in rw e

module _ (bytes out0 : List ℕ) (at : ℕ) (out : List ℕ) (n i : ℕ) (same : sets out n (hex_line (drop i bytes)) ≡ sets out0 at (hex_line bytes)) where
  pub line-next : i < length bytes → (high low m : ℕ) → high ≡ hex_digit (get_or bytes i 0 / 16)
      → low ≡ hex_digit (get_or bytes i 0 % 16) → m ≡ n + 2
      → sets (set (set out n high) (n + 1) low) m (hex_line (drop (i + 1) bytes)) ≡ sets out0 at (hex_line bytes)
  unfolding hex_of
  line-next h high low m p q r =
      rw r
      (let f : n + 1 ≡ suc n = omega arith in
      let e : set (set out n high) (n + 1) low ≡ sets out n (hex_of (get_or bytes i 0 ∷ [])) = rw (f, p, q) in
      let d : drop i bytes ≡ get_or bytes i 0 ∷ drop (i + 1) bytes = drop-cons bytes i 0 h ∙ rw add-one in
      ap (λ (o : List ℕ). sets o (n + 2) (hex_line (drop (i + 1) bytes))) e
      ∙ byte_next out n (get_or bytes i 0) (drop (i + 1) bytes) line_feed
      ∙ ap (λ (s : List ℕ). sets out n (hex_line s)) (sym d)
      ∙ same)

  pub line-last : (m : ℕ) → length bytes ≤ i → m ≡ n → set out m 10 ≡ sets out0 at (hex_line bytes)
  unfolding hex_of
  line-last m h r = rw r (ap (λ (s : List ℕ). sets out n (hex_line s)) (sym (drop_of_length-le bytes h)) ∙ same)

-- ---- a number's four bytes
pub word_is : (w : ℕ) → w < 2 ^ 32 → to_be_bytes w32 w ≡ word_bytes w []
word_is w h =
    let a : w / 16777216 % 256 ≡ w / 256 / 256 / 256 = omega arith in
    let b : w / 65536 % 256 ≡ w / 256 / 256 % 256 = omega arith in
    rw (a, b)

pub put_mid_sets : (a k : ℕ) (xs ys : List ℕ) → k ≡ length ys → a + k ≤ length xs → put_mid a k xs ys ≡ sets xs a ys
put_mid_sets a k xs ys e h =
    rw (e, drop-drop (length ys) a xs) (sym (append_assoc (take a xs) ys _) ∙ sym (sets-eq ys xs a (omega arith)))
