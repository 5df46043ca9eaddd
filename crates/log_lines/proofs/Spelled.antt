-- Digits written out: those that a line has, read as a number and written again, are the line's own in capitals; and a number
-- that is written is read again. Assumes nothing.
use mathlib.Core.Path.{◌≡◌, refl, sym, ap, ◌∙◌}
use mathlib.Core.Bool.{true}
use mathlib.Core.List.{List, [], ◌∷◌, ◌++◌, map}
use Prim.Native.Nat.{ℕ, zero, suc, ◌+◌, ◌*◌, ◌/◌, ◌%◌, ◌≤◌, ◌<◌}
use native.Mathlib.Numerals.{add-one}
use native.Mathlib.Omega.{arith}
use borrow.Author.Tests.{lt-ltb, ltb-true}
use lib.ListN.{length, get_or, take, drop, take-append-drop}
use lib.Seq.{drop-cons, drop-drop, take-add, drop-length}
use Rattle.numbers.specs.Word.{big_endian}
use Rattle.log_lines.specs.Digit.{digit_value, is_digit, capital, hex_digit}
use Rattle.log_lines.specs.Line.{digits_at_front, byte_from}
use Rattle.log_lines.specs.Earlier.{digits_of}
use Rattle.log_lines.proofs.Values.{digit-back, hex_of_value}

-- ---- one digit more
digit-onto : (k n x : ℕ) (rest : List ℕ) → x < 16 → digits_of (suc k) (16 * n + x) rest ≡ digits_of k n (hex_digit x ∷ rest)
unfolding digits_of
digit-onto k n x rest h =
    let q : (16 * n + x) / 16 ≡ n = omega arith in
    let r : (16 * n + x) % 16 ≡ x = omega arith in
    rw (q, r) refl

own-digit : (k n b : ℕ) (rest : List ℕ) → is_digit b ≡ true
    → digits_of (suc k) (16 * n + digit_value b) rest ≡ digits_of k n (capital b ∷ rest)
own-digit k n b rest h =
    digit-onto k n (digit_value b) rest (ltb-true _ _ h) ∙ ap (λ (c : ℕ). digits_of k n (c ∷ rest)) (hex_of_value b h)

-- ---- a line's own digits, two by two
-- those from a place on as capitals, before others
abbrev pub pair_onto : List ℕ → ℕ → List ℕ → List ℕ
pair_onto s at rest = capital (get_or s at 0) ∷ (capital (get_or s (at + 1) 0) ∷ rest)

-- the byte that they are, written out
pub byte-spelled : (s : List ℕ) (k n at : ℕ) (rest : List ℕ) → is_digit (get_or s at 0) ≡ true → is_digit (get_or s (at + 1) 0) ≡ true
    → digits_of (suc (suc k)) (n * 256 + byte_from s at) rest ≡ digits_of k n (pair_onto s at rest)
byte-spelled s k n at rest h i =
    let high = digit_value (get_or s at 0) in
    let low = digit_value (get_or s (at + 1) 0) in
    let e : n * 256 + byte_from s at ≡ 16 * (16 * n + high) + low = omega arith in
    ap (λ (m : ℕ). digits_of (suc (suc k)) m rest) e
    ∙ own-digit (suc k) (16 * n + high) (get_or s (at + 1) 0) rest i
    ∙ own-digit k n (get_or s at 0) _ h

-- a part of a line in capitals
two : (s : List ℕ) (at : ℕ) → at + 2 ≤ length s → take 2 (drop at s) ≡ get_or s at 0 ∷ (get_or s (at + 1) 0 ∷ [])
two s at h =
    let e = drop-cons s at 0 (omega arith) in
    let f = drop-cons s (suc at) 0 (omega arith) in
    rw (e, add-one at, f) refl

pub pair-part : (s : List ℕ) (at : ℕ) → at + 2 ≤ length s → map capital (take 2 (drop at s)) ≡ pair_onto s at []
pair-part s at h = ap (map capital) (two s at h)

pub four-part : (s : List ℕ) (at : ℕ) → at + 4 ≤ length s
    → map capital (take 4 (drop at s)) ≡ pair_onto s at (pair_onto s (at + 2) [])
four-part s at h =
    let parts : take 4 (drop at s) ≡ take 2 (drop at s) ++ take 2 (drop (at + 2) s) =
    take-add 2 2 (drop at s) ∙ ap (λ (r : List ℕ). take 2 (drop at s) ++ take 2 r) (drop-drop 2 at s) in
    rw (parts, two s at (omega arith), two s (at + 2) (omega arith)) refl

-- k pairs from a place on
abbrev pub pairs : ℕ → List ℕ → ℕ → List ℕ
pairs zero s at = []
pairs (suc k) s at = pair_onto s at (pairs k s (at + 2))

-- a line in capitals
pub pairs-all : (k : ℕ) (s : List ℕ) (at : ℕ) → at + 2 * k ≡ length s → map capital (drop at s) ≡ pairs k s at
pairs-all zero s at h =
    let e : at ≡ length s = omega arith in
    rw (e, drop-length s) refl
pairs-all (suc k) s at h =
    let parts : drop at s ≡ take 2 (drop at s) ++ drop (at + 2) s =
    sym (take-append-drop 2 (drop at s)) ∙ ap (λ (r : List ℕ). take 2 (drop at s) ++ r) (drop-drop 2 at s) in
    let split : drop at s ≡ get_or s at 0 ∷ (get_or s (at + 1) 0 ∷ drop (at + 2) s) =
    parts ∙ ap (λ (r : List ℕ). r ++ drop (at + 2) s) (two s at (omega arith)) in
    ap (map capital) split ∙ ap (pair_onto s at) (pairs-all k s (at + 2) (omega arith))

-- ---- what is written is digits
pub front-spelled : (k n : ℕ) (rest : List ℕ) → digits_at_front (digits_of k n rest) ≡ k + digits_at_front rest
unfolding digits_of digits_at_front
front-spelled zero n rest = omega arith
front-spelled (suc k) n rest =
    let r : n % 16 < 16 = omega arith in
    let i = front-spelled k (n / 16) (hex_digit (n % 16) ∷ rest) in
    let d : is_digit (hex_digit (n % 16)) ≡ true = rw (digit-back (n % 16) r) (lt-ltb (n % 16) 16 r) in
    i ∙ rw d (omega arith)

-- ---- and is read again
-- two digits of a number
abbrev pub byte_in : ℕ → ℕ
byte_in n = 16 * digit_value (hex_digit (n / 16 % 16)) + digit_value (hex_digit (n % 16))

pub byte-back : (n : ℕ) → byte_in n ≡ n % 256
byte-back n =
    let h : n / 16 % 16 < 16 = omega arith in
    let l : n % 16 < 16 = omega arith in
    rw (digit-back (n / 16 % 16) h, digit-back (n % 16) l) (omega arith)

-- four
pub half_back : (n : ℕ) → n < 65536 → byte_in (n / 16 / 16) * 256 + byte_in n ≡ n
half_back n h = rw (byte-back (n / 16 / 16), byte-back n) (omega arith)

-- eight
pub word_back : (n : ℕ) → n < 4294967296
    → big_endian (byte_in (n / 16 / 16 / 16 / 16 / 16 / 16)) (byte_in (n / 16 / 16 / 16 / 16)) (byte_in (n / 16 / 16)) (byte_in n) ≡ n
word_back n h =
    let first = byte-back (n / 16 / 16 / 16 / 16 / 16 / 16) in
    let second = byte-back (n / 16 / 16 / 16 / 16) in
    rw (first, second, byte-back (n / 16 / 16), byte-back n) (omega arith)
