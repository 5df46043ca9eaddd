-- A word is a run of letters and a number a run of digits, each as long as can be. Assumes nothing.
use Rattle.std.proofs.lemmas.Bool.Decides.{nat_tests}
use mathlib.Core.Path.{◌≡◌, refl, ap, ◌∙◌}
use mathlib.Core.Bool.{Bool, true, false, ◌&&◌, cond}
use mathlib.Core.List.{List, [], ◌∷◌}
use Prim.Native.Nat.{ℕ, suc, ◌+◌, ◌-◌, ◌≤◌, ◌<◌}
use native.Mathlib.Nat.{add-zero}
use native.Mathlib.Omega.{arith}
use borrow.Author.Tests.{eqb-true, leb-true}
use lib.Dec.{eqb, leb}
use lib.ListN.{length, take, drop, get_or, length-take, length-drop}
use lib.Seq.{take-add, get_or-drop}
use Rattle.rule.specs.Class.{letter, digit, blank, mark, foreign, point, class_of, span, OfClass, Letters}
use Rattle.rule.specs.Token.{number_kind, decimal_kind, foreign_kind, word_kind, longest_mark, fraction, fraction_of, token_kind, width_of, past, token_here, token_at, spelling, IsWord, PointBetween}
use Rattle.rule.proofs.TokenSpans.{span_le, span-stops}
use Rattle.rule.proofs.TokenFractions.{fraction-stops, fraction-none}
use Rattle.rule.proofs.TokenMarks.{mark_high}
use Rattle.rule.proofs.TokenLists.{word-is, here}

run_class : (c : ℕ) (bs : List ℕ) → OfClass c (take (span c bs) bs)
unfolding span
run_class c [] = tt
run_class c (b ∷ bs) = grind (arith, nat_tests, run_class c bs)

-- ---- the kind of a token tells the class of its first byte
module _ (points : Bool) (b : ℕ) (bs : List ℕ) where
  abbrev kind : (t u v w : Bool) → ℕ
  kind t u v w = cond t (word_kind (b ∷ take (span letter bs) bs)) (cond u (cond w number_kind decimal_kind) (cond v (longest_mark b (get_or bs 0 0)) foreign_kind))

  word_class : IsWord (token_kind points b bs) → class_of b ≡ letter
  unfolding token_kind
  word_class = grind (arith, nat_tests, word-is, mark_high)

  -- a number has no fraction
  number_class : token_kind points b bs ≡ number_kind → (class_of b ≡ digit) × (fraction_of points bs ≡ 0)
  unfolding token_kind
  number_class = grind (arith, nat_tests, word-is, mark_high)

  -- a decimal has one
  decimal_class : token_kind points b bs ≡ decimal_kind → (class_of b ≡ digit) × (fraction_of points bs ≡ 0 → ⊥)
  unfolding token_kind
  decimal_class = grind (arith, nat_tests, word-is, mark_high)

  -- ---- and that of its width
  word_width : class_of b ≡ letter → width_of points b bs ≡ suc (span letter bs)
  unfolding width_of
  word_width q = grind (arith, nat_tests)

  digits-width : class_of b ≡ digit → width_of points b bs ≡ suc (span digit bs + fraction_of points bs)
  unfolding width_of
  digits-width q = grind (arith, nat_tests)

  number-width : token_kind points b bs ≡ number_kind → width_of points b bs ≡ suc (span digit bs)
  number-width e = grind (arith, number_class e, digits-width)

-- ---- a token that begins with a byte of the class c, and has the bytes of its run
module _ (points : Bool) (c b : ℕ) (bs : List ℕ) (first : class_of b ≡ c) (wide : width_of points b bs ≡ suc (span c bs)) where
  run-all : (s : ℕ) → OfClass c (take (s + width_of points b bs - s) (b ∷ bs))
  run-all s =
      let n : s + width_of points b bs - s ≡ suc (span c bs) = omega arith in
      rw n (first, run_class c bs)

  -- it is as long as can be: no byte of its class follows
  run-max : (s : ℕ) → s + width_of points b bs < s + suc (length bs) → class_of (get_or (b ∷ bs) (s + width_of points b bs - s) 0) ≡ c → ⊥
  run-max s h =
      let n : s + width_of points b bs - s ≡ suc (span c bs) = omega arith in
      rw n (span-stops c bs (omega arith))

-- ---- the token at s
module _ (points : Bool) (s : ℕ) where
  word-here : (l : List ℕ) → IsWord (token_here points s l).kind → OfClass letter (take ((token_here points s l).end - s) l)
  unfolding token_here
  word-here [] w = absurd (omega (arith, w.0))
  word-here (b ∷ bs) w = let f = word_class points b bs w in run-all points letter b bs f (word_width points b bs f) s

  number-here : (l : List ℕ) → (token_here points s l).kind ≡ number_kind → OfClass digit (take ((token_here points s l).end - s) l)
  unfolding token_here
  number-here [] w = absurd (omega arith)
  number-here (b ∷ bs) w = run-all points digit b bs (number_class points b bs w).0 (number-width points b bs w) s

  word-stop : (l : List ℕ) → IsWord (token_here points s l).kind → (token_here points s l).end < s + length l → class_of (get_or l ((token_here points s l).end - s) 0) ≡ letter → ⊥
  unfolding token_here
  word-stop [] w h = absurd (omega (arith, w.0))
  word-stop (b ∷ bs) w h = let f = word_class points b bs w in run-max points letter b bs f (word_width points b bs f) s h

  number-stop : (l : List ℕ) → (token_here points s l).kind ≡ number_kind → (token_here points s l).end < s + length l → class_of (get_or l ((token_here points s l).end - s) 0) ≡ digit → ⊥
  unfolding token_here
  number-stop [] w h = absurd (omega arith)
  number-stop (b ∷ bs) w h = run-max points digit b bs (number_class points b bs w).0 (number-width points b bs w) s h

-- ---- digits, a point and digits
fraction-spelt : (l : List ℕ) → (fraction l ≡ 0 → ⊥) → (rest : List ℕ) × (take (fraction l) l ≡ point ∷ rest) × OfClass digit rest × (1 ≤ length rest)
unfolding fraction
fraction-spelt [] ne = absurd (ne refl)
fraction-spelt (b ∷ bs) ne = go (eqb b point) refl (leb 1 (span digit bs)) refl ne
  where
    go : (t : Bool) → eqb b point ≡ t → (u : Bool) → leb 1 (span digit bs) ≡ u → (cond (t && u) (suc (span digit bs)) 0 ≡ 0 → ⊥)
        → (rest : List ℕ) × (take (cond (t && u) (suc (span digit bs)) 0) (b ∷ bs) ≡ point ∷ rest) × OfClass digit rest × (1 ≤ length rest)
    go true e true f n =
        (take (span digit bs) bs, ap (λ (x : ℕ). x ∷ take (span digit bs) bs) (eqb-true b point e), run_class digit bs, omega (arith, leb-true 1 (span digit bs) f, length-take (span digit bs) bs, span_le digit bs))
    go true e false f n = absurd (n refl)
    go false e u f n = absurd (n refl)

module _ (points : Bool) (b : ℕ) (bs : List ℕ) (k : token_kind points b bs ≡ decimal_kind) where
  decimal-points : points ≡ true
  decimal-points = grind (arith, decimal_class points b bs k)

  decimal-width : width_of points b bs ≡ suc (span digit bs + fraction (drop (span digit bs) bs))
  decimal-width = grind (arith, digits-width points b bs, decimal_class points b bs k, decimal-points)

  decimal-fraction : fraction (drop (span digit bs) bs) ≡ 0 → ⊥
  decimal-fraction = grind (arith, decimal_class points b bs k, decimal-points)

  decimal-all : (s : ℕ) → PointBetween (take (s + width_of points b bs - s) (b ∷ bs))
  decimal-all s =
      let n : s + width_of points b bs - s ≡ suc (span digit bs + fraction (drop (span digit bs) bs)) = omega (arith, decimal-width) in
      let (rest, e, d, l) = fraction-spelt (drop (span digit bs) bs) decimal-fraction in
      record {
        whole = b ∷ take (span digit bs) bs;
        rest = rest;
        is = rw (n, take-add (span digit bs) (fraction (drop (span digit bs) bs)) bs, e);
        whole_digits = ((decimal_class points b bs k).0, run_class digit bs);
        rest_digits = d;
        whole_some = omega arith;
        rest_some = l;
      }

  -- no digit follows
  decimal-max : (s : ℕ) → s + width_of points b bs < s + suc (length bs) → class_of (get_or (b ∷ bs) (s + width_of points b bs - s) 0) ≡ digit → ⊥
  decimal-max s h q =
      let f = fraction (drop (span digit bs) bs) in
      let n : s + width_of points b bs - s ≡ suc (span digit bs + f) = omega (arith, decimal-width) in
      let e : class_of (get_or bs (span digit bs + f) 0) ≡ digit = rw n at q in
      fraction-stops (drop (span digit bs) bs) (omega (arith, decimal-fraction)) (omega (arith, decimal-width, length-drop (span digit bs) bs)) (ap class_of (get_or-drop (span digit bs) bs f 0) ∙ e)

-- ---- where points are taken, a number has no point with a digit after it
number-apart : (b : ℕ) (bs : List ℕ) → token_kind true b bs ≡ number_kind → (s : ℕ) → get_or (b ∷ bs) (s + width_of true b bs - s) 0 ≡ point → class_of (get_or (b ∷ bs) (s + width_of true b bs + 1 - s) 0) ≡ digit → ⊥
number-apart b bs k s p d =
    let w = number-width true b bs k in
    let n : s + width_of true b bs - s ≡ suc (span digit bs) = omega arith in
    let m : s + width_of true b bs + 1 - s ≡ suc (span digit bs + 1) = omega arith in
    let e : get_or bs (span digit bs) 0 ≡ point = rw n at p in
    let f : class_of (get_or bs (span digit bs + 1) 0) ≡ digit = rw m at d in
    fraction-none (drop (span digit bs) bs) (number_class true b bs k).1
    (get_or-drop (span digit bs) bs 0 0 ∙ rw add-zero e) (ap class_of (get_or-drop (span digit bs) bs 1 0) ∙ f)

module _ (points : Bool) (s : ℕ) where
  decimal-here : (l : List ℕ) → (token_here points s l).kind ≡ decimal_kind → (points ≡ true) × PointBetween (take ((token_here points s l).end - s) l)
  unfolding token_here
  decimal-here [] w = absurd (omega arith)
  decimal-here (b ∷ bs) w = (decimal-points points b bs w, decimal-all points b bs w s)

  decimal-stop : (l : List ℕ) → (token_here points s l).kind ≡ decimal_kind → (token_here points s l).end < s + length l → class_of (get_or l ((token_here points s l).end - s) 0) ≡ digit → ⊥
  unfolding token_here
  decimal-stop [] w h = absurd (omega arith)
  decimal-stop (b ∷ bs) w h = decimal-max points b bs w s h

apart-here : (s : ℕ) (l : List ℕ) → (token_here true s l).kind ≡ number_kind → get_or l ((token_here true s l).end - s) 0 ≡ point → class_of (get_or l ((token_here true s l).end + 1 - s) 0) ≡ digit → ⊥
unfolding token_here
apart-here s [] w = absurd (omega arith)
apart-here s (b ∷ bs) w = number-apart b bs w s

-- a place of the text beyond s, in what is left from s on
beyond : (text : List ℕ) (s e : ℕ) → s ≤ e → get_or (drop s text) (e - s) 0 ≡ get_or text e 0
beyond text s e h = let n : s + (e - s) ≡ e = omega arith in rw (get_or-drop, n)

module _ (points : Bool) (text : List ℕ) (at : ℕ) where
  -- a word's bytes are letters
  pub word-letters : IsWord (token_at points text at).kind → OfClass letter (spelling text (token_at points text at))
  unfolding token_at
  word-letters w = rw (here points (past text at) (drop (past text at) text)).0 (word-here points (past text at) (drop (past text at) text) w)

  -- a number's bytes are digits
  pub number_digits : (token_at points text at).kind ≡ number_kind → OfClass digit (spelling text (token_at points text at))
  unfolding token_at
  number_digits w = rw (here points (past text at) (drop (past text at) text)).0 (number-here points (past text at) (drop (past text at) text) w)

  -- a decimal's are digits, a point and digits, and it stands only where points are taken
  pub decimal-digits : (token_at points text at).kind ≡ decimal_kind → (points ≡ true) × PointBetween (spelling text (token_at points text at))
  unfolding token_at
  decimal-digits w = rw (here points (past text at) (drop (past text at) text)).0 (decimal-here points (past text at) (drop (past text at) text) w)

  module _ (h : (token_at points text at).end < length text) where
    left : (e : ℕ) → e < length text → e < past text at + length (drop (past text at) text)
    left e k = omega (arith, length-drop (past text at) text)

    pub word-longest : IsWord (token_at points text at).kind → class_of (get_or text (token_at points text at).end 0) ≡ letter → ⊥
    unfolding token_at
    word-longest w q =
        let s = past text at in
        let r = here points s (drop s text) in
        word-stop points s (drop s text) w (left _ h) (ap class_of (beyond text s (token_here points s (drop s text)).end r.1) ∙ q)

    pub number-longest : (token_at points text at).kind ≡ number_kind → class_of (get_or text (token_at points text at).end 0) ≡ digit → ⊥
    unfolding token_at
    number-longest w q =
        let s = past text at in
        let r = here points s (drop s text) in
        number-stop points s (drop s text) w (left _ h) (ap class_of (beyond text s (token_here points s (drop s text)).end r.1) ∙ q)

    pub decimal-longest : (token_at points text at).kind ≡ decimal_kind → class_of (get_or text (token_at points text at).end 0) ≡ digit → ⊥
    unfolding token_at
    decimal-longest w q =
        let s = past text at in
        let r = here points s (drop s text) in
        decimal-stop points s (drop s text) w (left _ h) (ap class_of (beyond text s (token_here points s (drop s text)).end r.1) ∙ q)

-- a number before a point has no digit after it, where points are taken
pub number-alone : (text : List ℕ) (at : ℕ) → (token_at true text at).kind ≡ number_kind → get_or text (token_at true text at).end 0 ≡ point → class_of (get_or text ((token_at true text at).end + 1) 0) ≡ digit → ⊥
unfolding token_at
number-alone text at w p d =
    let s = past text at in
    let r = here true s (drop s text) in
    let e = (token_here true s (drop s text)).end in
    apart-here s (drop s text) w (beyond text s e r.1 ∙ p) (ap class_of (beyond text s (e + 1) (omega arith)) ∙ d)

-- ---- letters
other : (v w x : Bool) → cond v digit (cond w blank (cond x mark foreign)) ≡ letter → ⊥
other true w x q = omega arith
other false true x q = omega arith
other false false true q = omega arith
other false false false q = omega arith

letter-byte : (b : ℕ) → class_of b ≡ letter → (97 ≤ b) × (b ≤ 122)
unfolding class_of
letter-byte b q = grind (arith, nat_tests)

pub letters : (bs : List ℕ) → OfClass letter bs → Letters bs
letters [] l = tt
letters (b ∷ bs) l = let r = letter-byte b l.0 in (r.0, r.1, letters bs l.1)
