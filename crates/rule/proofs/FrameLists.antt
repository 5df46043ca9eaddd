-- The list of a slice's frames, passes over it, and bytes and back. Assumes nothing.
use mathlib.Core.Path.{◌≡◌, refl, sym, ap, ◌∙◌}
use mathlib.Core.List.{List, [], ◌∷◌, ◌++◌}
use Prim.Native.Nat.{ℕ, zero, suc, ◌+◌, ◌*◌, ◌/◌, ◌%◌, ◌^◌, ◌≤◌, ◌<◌}
use native.Mathlib.Nat.{le_refl}
use native.Mathlib.Omega.{arith}
use lib.IntN.{ℤ, pos}
use lib.ListN.{length, get_or, take}
use lib.Seq.{take-suc, take-length}
use mir.Facts.{sfits_to_z}
use mir.Syntax.{w32}
use mir.Val.{SFits, of_z, to_z}
use mir.ValLaws.{to_z-of_z, of_z-to_z}
use Rattle.numbers.specs.Word.{big_endian, signed_word}
use Rattle.rule.specs.Frames.{frame, frame_at, frame_count, Bytes, empty, byte}
use Rattle.rule.specs.Tree.{bytes_of}
use Rattle.rule.specs.declared.Frame.{Frame}

abbrev pub frames_of : List ℕ → List Frame
frames_of [] = []
frames_of (k ∷ []) = []
frames_of (k ∷ (e ∷ [])) = []
frames_of (k ∷ (e ∷ (n ∷ []))) = []
frames_of (k ∷ (e ∷ (n ∷ (f ∷ [])))) = []
frames_of (k ∷ (e ∷ (n ∷ (f ∷ (a ∷ []))))) = []
frames_of (k ∷ (e ∷ (n ∷ (f ∷ (a ∷ (b ∷ [])))))) = []
frames_of (k ∷ (e ∷ (n ∷ (f ∷ (a ∷ (b ∷ (c ∷ []))))))) = []
frames_of (k ∷ (e ∷ (n ∷ (f ∷ (a ∷ (b ∷ (c ∷ (d ∷ s)))))))) = frame k e n f (signed_word a b c d) ∷ frames_of s

pub frames-length : (s : List ℕ) → length (frames_of s) ≡ frame_count s
frames-length [] = refl
frames-length (k ∷ []) = refl
frames-length (k ∷ (e ∷ [])) = refl
frames-length (k ∷ (e ∷ (n ∷ []))) = refl
frames-length (k ∷ (e ∷ (n ∷ (f ∷ [])))) = refl
frames-length (k ∷ (e ∷ (n ∷ (f ∷ (a ∷ []))))) = refl
frames-length (k ∷ (e ∷ (n ∷ (f ∷ (a ∷ (b ∷ [])))))) = refl
frames-length (k ∷ (e ∷ (n ∷ (f ∷ (a ∷ (b ∷ (c ∷ []))))))) = refl
frames-length (k ∷ (e ∷ (n ∷ (f ∷ (a ∷ (b ∷ (c ∷ (d ∷ s)))))))) = let h : length (frames_of s) ≡ frame_count s = frames-length s in omega arith

abbrev blank : Frame
blank = frame 0 0 0 0 (pos 0)

-- eight bytes on
module _ (k e n f a b c d : ℕ) (s : List ℕ) where
  abbrev long : List ℕ
  long = k ∷ (e ∷ (n ∷ (f ∷ (a ∷ (b ∷ (c ∷ (d ∷ s)))))))

  past : (x y : ℕ) → x ≡ suc (suc (suc (suc (suc (suc (suc (suc y))))))) → get_or long x 0 ≡ get_or s y 0
  past x y h = rw h

  pub frame_past : (i : ℕ) → frame_at long (suc i) ≡ frame_at s i
  frame_past i =
      rw (
        past (suc i * 8) (i * 8) (omega arith),
        past (suc i * 8 + 1) (i * 8 + 1) (omega arith),
        past (suc i * 8 + 2) (i * 8 + 2) (omega arith),
        past (suc i * 8 + 3) (i * 8 + 3) (omega arith),
        past (suc i * 8 + 4) (i * 8 + 4) (omega arith),
        past (suc i * 8 + 5) (i * 8 + 5) (omega arith),
        past (suc i * 8 + 6) (i * 8 + 6) (omega arith),
        past (suc i * 8 + 7) (i * 8 + 7) (omega arith),
      )

pub frame-at : (s : List ℕ) (i : ℕ) → i < length (frames_of s) → frame_at s i ≡ get_or (frames_of s) i blank
frame-at [] i h = absurd (omega arith)
frame-at (k ∷ []) i h = absurd (omega arith)
frame-at (k ∷ (e ∷ [])) i h = absurd (omega arith)
frame-at (k ∷ (e ∷ (n ∷ []))) i h = absurd (omega arith)
frame-at (k ∷ (e ∷ (n ∷ (f ∷ [])))) i h = absurd (omega arith)
frame-at (k ∷ (e ∷ (n ∷ (f ∷ (a ∷ []))))) i h = absurd (omega arith)
frame-at (k ∷ (e ∷ (n ∷ (f ∷ (a ∷ (b ∷ [])))))) i h = absurd (omega arith)
frame-at (k ∷ (e ∷ (n ∷ (f ∷ (a ∷ (b ∷ (c ∷ []))))))) i h = absurd (omega arith)
frame-at (k ∷ (e ∷ (n ∷ (f ∷ (a ∷ (b ∷ (c ∷ (d ∷ s)))))))) zero h = refl
frame-at (k ∷ (e ∷ (n ∷ (f ∷ (a ∷ (b ∷ (c ∷ (d ∷ s)))))))) (suc i) h = frame_past k e n f a b c d s i ∙ frame-at s i (omega arith)

-- ---- a pass, from left to right
module _ {S : Type 0} (step : Frame → S → S) where
  abbrev pub runs : List Frame → S → S
  runs [] z = z
  runs (x ∷ xs) z = runs xs (step x z)

  pub runs_append : (xs ys : List Frame) (z : S) → runs (xs ++ ys) z ≡ runs ys (runs xs z)
  runs_append [] ys z = refl
  runs_append (x ∷ xs) ys z = runs_append xs ys (step x z)

  -- a definition by the number of frames done is a pass over the first of them
  pub runs_to : (s : List ℕ) (g : ℕ → S) → ((i : ℕ) → g (suc i) ≡ step (frame_at s i) (g i)) → (i : ℕ) → i ≤ length (frames_of s) → g i ≡ runs (take i (frames_of s)) (g 0)
  runs_to s g e zero h = refl
  runs_to s g e (suc i) h =
      e i ∙ ap (step (frame_at s i)) (runs_to s g e i (omega arith)) ∙ ap (λ (x : Frame). step x (runs (take i (frames_of s)) (g 0))) (frame-at s i h)
      ∙ sym (runs_append (take i (frames_of s)) (get_or (frames_of s) i blank ∷ []) (g 0))
      ∙ ap (λ (l : List Frame). runs l (g 0)) (sym (take-suc (frames_of s) i blank h))

  pub runs-all : (s : List ℕ) (g : ℕ → S) → ((i : ℕ) → g (suc i) ≡ step (frame_at s i) (g i)) → g (frame_count s) ≡ runs (frames_of s) (g 0)
  runs-all s g e =
      ap g (sym (frames-length s)) ∙ runs_to s g e (length (frames_of s)) (le_refl (length (frames_of s)))
      ∙ ap (λ (l : List Frame). runs l (g 0)) (take-length (frames_of s))

-- an operator's frame after its operands
module _ {S : Type 0} (step : Frame → S → S) where
  pub pass1 : (xs : List Frame) (x : Frame) (z z₁ : S) → runs step xs z ≡ z₁ → runs step (xs ++ (x ∷ [])) z ≡ step x z₁
  pass1 xs x z z₁ p = runs_append step xs (x ∷ []) z ∙ ap (step x) p

  pub pass2 : (xs ys : List Frame) (x : Frame) (z z₁ z₂ : S) → runs step xs z ≡ z₁ → runs step ys z₁ ≡ z₂ → runs step ((xs ++ ys) ++ (x ∷ [])) z ≡ step x z₂
  pass2 xs ys x z z₁ z₂ p q = pass1 (xs ++ ys) x z z₂ (runs_append step xs ys z ∙ ap (runs step ys) p ∙ q)

-- ---- frames that eight bytes can hold
pub record Octets (x : Frame) : Type 0 where
  pub kind : x.kind < 256
  pub event : x.event < 256
  pub note : x.note < 256
  pub factor : x.factor < 256
  pub value : SFits w32 x.value

abbrev pub AllOctets : List Frame → Type 0
AllOctets [] = Unit {0}
AllOctets (x ∷ fs) = Octets x × AllOctets fs

pub all_append : (xs ys : List Frame) → AllOctets xs → AllOctets ys → AllOctets (xs ++ ys)
all_append [] ys p q = q
all_append (x ∷ xs) ys p q = (p.0, all_append xs ys p.1 q)

pub all_take : (i : ℕ) (fs : List Frame) → AllOctets fs → AllOctets (take i fs)
all_take zero fs p = tt
all_take (suc i) [] p = tt
all_take (suc i) (x ∷ fs) p = (p.0, all_take i fs p.1)

big : {a b c d : ℕ} → a < 256 → b < 256 → c < 256 → d < 256 → big_endian a b c d < 2 ^ 32
big p q r t = omega arith

-- those of bytes are
pub octets_in : {s : List ℕ} → Bytes s → AllOctets (frames_of s)
octets_in empty = tt
octets_in (byte p empty) = tt
octets_in (byte p (byte q empty)) = tt
octets_in (byte p (byte q (byte r empty))) = tt
octets_in (byte p (byte q (byte r (byte t empty)))) = tt
octets_in (byte p (byte q (byte r (byte t (byte u empty))))) = tt
octets_in (byte p (byte q (byte r (byte t (byte u (byte v empty)))))) = tt
octets_in (byte p (byte q (byte r (byte t (byte u (byte v (byte w empty))))))) = tt
octets_in (byte p (byte q (byte r (byte t (byte u (byte v (byte w (byte x l)))))))) =
    (record { kind = p; event = q; note = r; factor = t; value = sfits_to_z (record { fits = big u v w x }) }, octets_in l)

-- ---- bytes and back
word_back : (w : ℕ) → big_endian (w / 256 / 256 / 256) (w / 256 / 256 % 256) (w / 256 % 256) (w % 256) ≡ w
word_back w =
    let x : ℕ = w / 256 in
    let y : ℕ = w / 256 / 256 in
    let p : y / 256 * 256 + y % 256 ≡ y = omega arith in
    let q : y * 256 + x % 256 ≡ x = omega arith in
    let r : x * 256 + w % 256 ≡ w = omega arith in
    rw (p, q, r)

value-back : (v : ℤ) → SFits w32 v
    → signed_word (of_z w32 v / 256 / 256 / 256) (of_z w32 v / 256 / 256 % 256) (of_z w32 v / 256 % 256) (of_z w32 v % 256) ≡ v
value-back v f = ap (to_z w32) (word_back (of_z w32 v)) ∙ to_z-of_z w32 v f

-- the frames of a list's bytes, before others
pub frames_append : (xs : List Frame) (u : List ℕ) → AllOctets xs → frames_of (bytes_of xs ++ u) ≡ xs ++ frames_of u
frames_append [] u p = refl
frames_append (x ∷ xs) u p = rw (value-back x.value p.0.value, frames_append xs u p.1)

pub frames-bytes : (fs : List Frame) → AllOctets fs → frames_of (bytes_of fs) ≡ fs
frames-bytes [] p = refl
frames-bytes (x ∷ fs) p = rw (value-back x.value p.0.value, frames-bytes fs p.1)

pub bytes-length : (fs : List Frame) → length (bytes_of fs) ≡ length fs * 8
bytes-length [] = refl
bytes-length (x ∷ fs) = let h : length (bytes_of fs) ≡ length fs * 8 = bytes-length fs in omega arith

module _ (a b c d : ℕ) (hb : b < 256) (hc : c < 256) (hd : d < 256) where
  last_byte : big_endian a b c d % 256 ≡ d
  last_byte = omega arith

  third : big_endian a b c d / 256 ≡ (a * 256 + b) * 256 + c
  third = omega arith

  third-byte : big_endian a b c d / 256 % 256 ≡ c
  third-byte = rw third (let z : ((a * 256 + b) * 256 + c) % 256 ≡ c = omega arith in z)

  second : big_endian a b c d / 256 / 256 ≡ a * 256 + b
  second = rw third (let z : ((a * 256 + b) * 256 + c) / 256 ≡ a * 256 + b = omega arith in z)

  second-byte : big_endian a b c d / 256 / 256 % 256 ≡ b
  second-byte = rw second (let z : (a * 256 + b) % 256 ≡ b = omega arith in z)

  first_byte : big_endian a b c d / 256 / 256 / 256 ≡ a
  first_byte = rw second (let z : (a * 256 + b) / 256 ≡ a = omega arith in z)

back-word : {a b c d : ℕ} → a < 256 → b < 256 → c < 256 → d < 256 → of_z w32 (signed_word a b c d) ≡ big_endian a b c d
back-word {a} {b} {c} {d} p q r t = of_z-to_z w32 (big_endian a b c d) (record { fits = big p q r t })

pub bytes-frames : {s : List ℕ} → Bytes s → length s % 8 ≡ 0 → bytes_of (frames_of s) ≡ s
bytes-frames empty h = refl
bytes-frames (byte p empty) h = absurd (omega arith)
bytes-frames (byte p (byte q empty)) h = absurd (omega arith)
bytes-frames (byte p (byte q (byte r empty))) h = absurd (omega arith)
bytes-frames (byte p (byte q (byte r (byte t empty)))) h = absurd (omega arith)
bytes-frames (byte p (byte q (byte r (byte t (byte u empty))))) h = absurd (omega arith)
bytes-frames (byte p (byte q (byte r (byte t (byte u (byte v empty)))))) h = absurd (omega arith)
bytes-frames (byte p (byte q (byte r (byte t (byte u (byte v (byte w empty))))))) h = absurd (omega arith)
bytes-frames (byte p (byte q (byte r (byte t (byte {b = a} u (byte {b = b} v (byte {b = c} w (byte {b = d} {s = s} x l)))))))) h =
    rw (back-word u v w x, first_byte a b c d v w x, second-byte a b c d v w x, third-byte a b c d v w x, last_byte a b c d v w x, bytes-frames l (omega arith))

-- bytes, where each element is one
pub bytes-by : (s : List ℕ) → ((i : ℕ) → i < length s → get_or s i 0 < 256) → Bytes s
bytes-by [] h = empty
bytes-by (b ∷ s) h = byte (h 0 (omega arith)) (bytes-by s (λ i k. h (suc i) (omega arith)))

pub octets-bytes : (fs : List Frame) → AllOctets fs → Bytes (bytes_of fs)
octets-bytes [] p = empty
octets-bytes (x ∷ fs) p =
    let w : ℕ = of_z w32 x.value in
    let h : w < 2 ^ 32 = word_fits x.value p.0.value in
    let b₄ : w / 256 / 256 / 256 < 256 = omega arith in
    let b₅ : w / 256 / 256 % 256 < 256 = omega arith in
    let b₆ : w / 256 % 256 < 256 = omega arith in
    let b₇ : w % 256 < 256 = omega arith in
    byte p.0.kind (byte p.0.event (byte p.0.note (byte p.0.factor (byte b₄ (byte b₅ (byte b₆ (byte b₇ (octets-bytes fs p.1))))))))
  where
    word_fits : (v : ℤ) → SFits w32 v → of_z w32 v < 2 ^ 32
    word_fits (lib.IntN.pos n) f = omega (arith, f.sfits)
    word_fits (lib.IntN.negsuc n) f = omega arith
