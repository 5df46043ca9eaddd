-- Marks take the longest match; a byte of a text lies in a token exactly where it is no blank. Assumes nothing.
use Rattle.std.proofs.lemmas.Bool.Decides.{nat_tests}
use mathlib.Core.Path.{◌≡◌, refl, ap, sym, subst, ◌∙◌}
use mathlib.Core.Logic.{◌⊎◌, inl, inr, ◌↔◌}
use mathlib.Core.Bool.{Bool, true, false, ◌&&◌, cond}
use mathlib.Core.List.{List, [], ◌∷◌, Memᴰ}
use Prim.Native.Nat.{ℕ, zero, suc, ◌+◌, ◌-◌, ◌≤◌, ◌<◌}
use native.Mathlib.Nat.{add-zero}
use native.Mathlib.Omega.{arith}
use borrow.Author.Tests.{eq-eqb, ne_eqb, eqb-true, eqb-false, ltb-true, ltb-false}
use lib.Dec.{eqb, ltb}
use lib.ListN.{length, take, drop, get_or, length-drop}
use lib.Seq.{get_or-drop}
use Rattle.numbers.proofs.Bools.{true-false}
use Rattle.rule.specs.Class.{letter, digit, blank, mark, foreign, point, among, one_byte_marks, class_of, span}
use Rattle.rule.specs.Token.{end_kind, decimal_kind, foreign_kind, two_byte_mark, one_byte_mark, longest_mark, mark_width, fraction_of, token_kind, width_of, past, token_here, token_at}
use Rattle.rule.specs.Token.{Mode, declares, next, takes_points, token_in, tokens_in, tokens_from, tokens}
use Rattle.rule.specs.Token.{Quoted, of_one_byte, arrow, bars, ampersands, unequal, at_most, at_least, LongestMatch, in_quoted, in_none, OfToken}
use Rattle.rule.specs.declared.Token.{Token}
use Rattle.rule.proofs.TokenSpans.{span_class, span-stops}
use Rattle.rule.proofs.TokenMarks.{width_some, one_width}
use Rattle.rule.proofs.TokenFractions.{fraction_told}
use Rattle.rule.proofs.TokenLists.{here, moves_in, spans_in, at_end_in, starts-alike, ends-alike, gap_blank}

-- ---- the marks of two bytes
-- two bytes are no mark of two, or are quoted
abbrev Two : ℕ → ℕ → ℕ → Type 0
Two b n k = (k ≡ 0) ⊎ (Quoted (b ∷ n ∷ []) k × (mark_width k ≡ 2))

two-or : {x y k z : ℕ} (b n : ℕ) → Quoted (x ∷ y ∷ []) k → mark_width k ≡ 2 → Two b n z → Two b n (cond (eqb b x && eqb n y) k z)
two-or {x} {y} {k} {z} b n q w r = grind (arith, nat_tests)

two : (b n : ℕ) → Two b n (two_byte_mark b n)
unfolding mark_width
two b n =
    two-or b n arrow refl (two-or b n bars refl (two-or b n ampersands refl
    (two-or b n unequal refl (two-or b n at_most refl (two-or b n at_least refl (inl refl))))))

-- no second byte of a mark is 0
abbrev second : List ℕ → ℕ
second [] = 1
second (x ∷ []) = 1
second (x ∷ (y ∷ l)) = y

second-some : {m : List ℕ} {k : ℕ} → Quoted m k → second m ≡ 0 → ⊥
second-some (of_one_byte b h) e = omega arith
second-some arrow e = omega arith
second-some bars e = omega arith
second-some ampersands e = omega arith
second-some unequal e = omega arith
second-some at_most e = omega arith
second-some at_least e = omega arith

-- ---- the mark at the front of what is left of a text, by its kind and its width
abbrev Matches : List ℕ → ℕ → ℕ → Type 0
Matches l k w =
    (Quoted (take w l) k × ((m : List ℕ) (j : ℕ) → Quoted m j → take (length m) l ≡ m → length m ≤ w))
    ⊎ ((k ≡ foreign_kind) × (w ≡ 1) × ((m : List ℕ) (j : ℕ) → Quoted m j → take (length m) l ≡ m → ⊥))

begins-two : (b : ℕ) (bs : List ℕ) {x y : ℕ} → take 2 (b ∷ bs) ≡ x ∷ y ∷ [] → (b ≡ x) × (get_or bs 0 0 ≡ y)
begins-two b [] e = absurd (let z : 1 ≡ 2 = ap length e in omega arith)
begins-two b (c ∷ bs) e = (ap (λ (l : List ℕ). get_or l 0 0) e, ap (λ (l : List ℕ). get_or l 1 0) e)

module _ (b : ℕ) (bs : List ℕ) where
  as_two : {x y : ℕ} → mark_width (longest_mark x y) ≡ 2 → take 2 (b ∷ bs) ≡ x ∷ y ∷ [] → 2 ≤ mark_width (longest_mark b (get_or bs 0 0))
  as_two w e = grind (arith, begins-two b bs e)

  longest : (m : List ℕ) (j : ℕ) → Quoted m j → take (length m) (b ∷ bs) ≡ m → length m ≤ mark_width (longest_mark b (get_or bs 0 0))
  unfolding longest_mark mark_width
  longest m j (of_one_byte c h) e = (width_some (longest_mark b (get_or bs 0 0))).0
  longest m j arrow e = as_two refl e
  longest m j bars e = as_two refl e
  longest m j ampersands e = as_two refl e
  longest m j unequal e = as_two refl e
  longest m j at_most e = as_two refl e
  longest m j at_least e = as_two refl e

  -- where neither one byte nor two are a mark
  no_two : {x y : ℕ} → (two_byte_mark x y ≡ 0 → ⊥) → two_byte_mark b (get_or bs 0 0) ≡ 0 → take 2 (b ∷ bs) ≡ x ∷ y ∷ [] → ⊥
  no_two n z e = grind (arith, begins-two b bs e)

  none-begins : two_byte_mark b (get_or bs 0 0) ≡ 0 → among one_byte_marks b ≡ false → (m : List ℕ) (j : ℕ) → Quoted m j → take (length m) (b ∷ bs) ≡ m → ⊥
  none-begins z o m j (of_one_byte c h) e =
      let f : b ≡ c = ap (λ (l : List ℕ). get_or l 0 0) e in
      true-false (sym h ∙ subst (λ (x : ℕ). among one_byte_marks x ≡ false) f o)
  none-begins z o m j arrow e = no_two (λ q. omega arith) z e
  none-begins z o m j bars e = no_two (λ q. omega arith) z e
  none-begins z o m j ampersands e = no_two (λ q. omega arith) z e
  none-begins z o m j unequal e = no_two (λ q. omega arith) z e
  none-begins z o m j at_most e = no_two (λ q. omega arith) z e
  none-begins z o m j at_least e = no_two (λ q. omega arith) z e

  -- two bytes that are a mark stand there
  both_stand : {k : ℕ} → Quoted (b ∷ get_or bs 0 0 ∷ []) k → take 2 (b ∷ bs) ≡ b ∷ get_or bs 0 0 ∷ []
  both_stand {k} q = go bs q
    where
      go : (l : List ℕ) → Quoted (b ∷ get_or l 0 0 ∷ []) k → take 2 (b ∷ l) ≡ b ∷ get_or l 0 0 ∷ []
      go [] q = absurd (second-some q refl)
      go (c ∷ l) q = refl

  is-long : (two_byte_mark b (get_or bs 0 0) ≡ 0 → ⊥) → longest_mark b (get_or bs 0 0) ≡ two_byte_mark b (get_or bs 0 0)
  unfolding longest_mark
  is-long n = grind (arith, nat_tests)

  is-short : two_byte_mark b (get_or bs 0 0) ≡ 0 → longest_mark b (get_or bs 0 0) ≡ one_byte_mark b
  unfolding longest_mark
  is-short z = grind (arith, nat_tests)

  -- a mark of that width is not 0
  wide-some : {k : ℕ} → mark_width k ≡ 2 → k ≡ 0 → ⊥
  unfolding mark_width
  wide-some w z = grind arith

  matches : Matches (b ∷ bs) (longest_mark b (get_or bs 0 0)) (mark_width (longest_mark b (get_or bs 0 0)))
  matches = by_two (two b (get_or bs 0 0))
    where
      by_one : two_byte_mark b (get_or bs 0 0) ≡ 0 → (t : Bool) → among one_byte_marks b ≡ t → Matches (b ∷ bs) (cond t b foreign_kind) 1
      by_one z true o = inl (of_one_byte b o, λ m j q e. subst (λ (n : ℕ). length m ≤ n) (ap mark_width (is-short z) ∙ one_width b) (longest m j q e))
      by_one z false o = inr (refl, refl, none-begins z o)

      by_two : Two b (get_or bs 0 0) (two_byte_mark b (get_or bs 0 0)) → Matches (b ∷ bs) (longest_mark b (get_or bs 0 0)) (mark_width (longest_mark b (get_or bs 0 0)))
      by_two (inl z) = rw (is-short z, one_width b) (by_one z (among one_byte_marks b) refl)
      by_two (inr (q, w)) =
          let l = is-long (wide-some w) in
          inl (rw (l, w, both_stand q) q, longest)

-- ---- the token at a byte of class mark
module _ (text : List ℕ) where
  build : (s k w : ℕ) (l : List ℕ) → drop s text ≡ l → Matches l k w → LongestMatch text (record { kind = k; start = s; end = s + w })
  build s k w l e (inl (q, f)) =
      let n : s + w - s ≡ w = omega arith in
      in_quoted (rw (n, e) q) (λ m j r h. rw n (f m j r (subst (λ (z : List ℕ). take (length m) z ≡ m) e h)))
  build s k w l e (inr (h, i, f)) = in_none h (rw i) (λ m j r g. f m j r (subst (λ (z : List ℕ). take (length m) z ≡ m) e g))

  mark-here : (points : Bool) (s : ℕ) (l : List ℕ) → drop s text ≡ l → (length l ≡ 0 → ⊥) → class_of (get_or l 0 0) ≡ mark → LongestMatch text (token_here points s l)
  unfolding token_here token_kind width_of
  mark-here points s [] e n c = absurd (n refl)
  mark-here points s (b ∷ bs) e n c =
      rw (ne_eqb (class_of b) letter (λ p. omega (arith, sym p ∙ c)), ne_eqb (class_of b) digit (λ p. omega (arith, sym p ∙ c)), eq-eqb (class_of b) mark c)
      (build s (longest_mark b (get_or bs 0 0)) (mark_width (longest_mark b (get_or bs 0 0))) (b ∷ bs) e (matches b bs))

  foreign-here : (points : Bool) (s : ℕ) (l : List ℕ) → (length l ≡ 0 → ⊥) → class_of (get_or l 0 0) ≡ foreign → ((token_here points s l).kind ≡ foreign_kind) × ((token_here points s l).end ≡ s + 1)
  unfolding token_here token_kind width_of
  foreign-here points s [] n c = absurd (n refl)
  foreign-here points s (b ∷ bs) n c =
      rw (ne_eqb (class_of b) letter (λ p. omega (arith, sym p ∙ c)), ne_eqb (class_of b) digit (λ p. omega (arith, sym p ∙ c)), ne_eqb (class_of b) mark (λ p. omega (arith, sym p ∙ c)))
      (refl, refl)

  module _ (points : Bool) (at : ℕ) (inside : (token_at points text at).start < length text) where
    -- it stands where the blanks end
    starts : (token_at points text at).start ≡ past text at
    unfolding token_at
    starts = (here points (past text at) (drop (past text at) text)).0

    some_left : length (drop (past text at) text) ≡ 0 → ⊥
    some_left e = omega (arith, length-drop (past text at) text, starts, inside)

    first_class : {c : ℕ} → class_of (get_or text (token_at points text at).start 0) ≡ c → class_of (get_or (drop (past text at) text) 0 0) ≡ c
    first_class e = rw (get_or-drop, add-zero) (rw starts at e)

    pub marks-longest : class_of (get_or text (token_at points text at).start 0) ≡ mark → LongestMatch text (token_at points text at)
    unfolding token_at
    marks-longest c = mark-here points (past text at) (drop (past text at) text) refl some_left (first_class c)

    pub foreign-alone : class_of (get_or text (token_at points text at).start 0) ≡ foreign → ((token_at points text at).kind ≡ foreign_kind) × ((token_at points text at).end ≡ (token_at points text at).start + 1)
    unfolding token_at
    foreign-alone c = rw starts (foreign-here points (past text at) (drop (past text at) text) some_left (first_class c))

-- ---- the bytes of a token
-- the second byte of a mark of two bytes is a mark byte
second_class : {m : List ℕ} {k : ℕ} → Quoted m k → length m ≡ 2 → class_of (second m) ≡ mark
unfolding class_of
second_class (of_one_byte b h) e = absurd (omega arith)
second_class arrow e = refl
second_class bars e = refl
second_class ampersands e = refl
second_class unequal e = refl
second_class at_most e = refl
second_class at_least e = refl

-- none of a token's bytes is a blank, where its first is none
mark-second : (b : ℕ) (bs : List ℕ) (j : ℕ) → suc j < mark_width (longest_mark b (get_or bs 0 0)) → class_of (get_or bs j 0) ≡ mark
mark-second b bs j h = grind (arith, two b (get_or bs 0 0), is-short b bs, one_width b, width_some (longest_mark b (get_or bs 0 0)), second_class)

point-foreign : class_of point ≡ foreign
unfolding class_of
point-foreign = refl

-- nor of a point and digits after digits
fraction-solid : (points : Bool) (bs : List ℕ) (j : ℕ) → span digit bs ≤ j → j < span digit bs + fraction_of points bs → class_of (get_or bs j 0) ≡ blank → ⊥
fraction-solid false bs j k h c = omega arith
fraction-solid true bs j k h c = grind (arith, get_or-drop (span digit bs) bs (j - span digit bs) 0, get_or-drop (span digit bs) bs 0 0, fraction_told (drop (span digit bs) bs) (j - span digit bs), point-foreign)

solid : (points : Bool) (b : ℕ) (bs : List ℕ) → (class_of b ≡ blank → ⊥) → (j : ℕ) → j < width_of points b bs → class_of (get_or (b ∷ bs) j 0) ≡ blank → ⊥
unfolding width_of
solid points b bs n zero h c = n c
solid points b bs n (suc j) h c = grind (arith, nat_tests, span_class letter bs j, span_class digit bs j, fraction-solid points bs j, mark-second b bs j)

solid-here : (points : Bool) (s : ℕ) (l : List ℕ) → (class_of (get_or l 0 0) ≡ blank → ⊥) → (j : ℕ) → s + j < (token_here points s l).end → class_of (get_or l j 0) ≡ blank → ⊥
unfolding token_here
solid-here points s [] n j h c = omega arith
solid-here points s (b ∷ bs) n j h c = solid points b bs n j (omega arith) c

-- ---- a point is in a decimal, or a token by itself that no rule has
module _ (points : Bool) (b : ℕ) (bs : List ℕ) where
  first-other : (c : ℕ) → (c ≡ foreign → ⊥) → class_of b ≡ c → b ≡ point → ⊥
  first-other c n e p = grind (arith, point-foreign)

  later-other : (c j : ℕ) → (c ≡ foreign → ⊥) → class_of (get_or bs j 0) ≡ c → get_or bs j 0 ≡ point → ⊥
  later-other c j n e p = grind (arith, point-foreign)

  abbrev Point : ℕ → ℕ → ℕ → Type 0
  Point k w j = ((k ≡ foreign_kind) × (j ≡ 0) × (w ≡ 1)) ⊎ (k ≡ decimal_kind)

  point_told : (j : ℕ) → j < width_of points b bs → get_or (b ∷ bs) j 0 ≡ point → Point (token_kind points b bs) (width_of points b bs) j
  unfolding token_kind width_of
  point_told zero = grind (arith, nat_tests, first-other letter (λ z. omega arith), first-other digit (λ z. omega arith), first-other mark (λ z. omega arith))
  point_told (suc j) = grind (arith, nat_tests, later-other letter j (λ z. omega arith), later-other digit j (λ z. omega arith), later-other mark j (λ z. omega arith), span_class letter bs j, span_class digit bs j, mark-second b bs j)

point-here : (points : Bool) (s : ℕ) (l : List ℕ) (j : ℕ) → s + j < (token_here points s l).end → get_or l j 0 ≡ point
    → (((token_here points s l).kind ≡ foreign_kind) × (j ≡ 0) × ((token_here points s l).end ≡ s + 1)) ⊎ ((token_here points s l).kind ≡ decimal_kind)
unfolding token_here
point-here points s [] j h p = absurd (omega arith)
point-here points s (b ∷ bs) j h p = go (point_told points b bs j (omega arith) p)
  where
    go : ((token_kind points b bs ≡ foreign_kind) × (j ≡ 0) × (width_of points b bs ≡ 1)) ⊎ (token_kind points b bs ≡ decimal_kind) → ((token_kind points b bs ≡ foreign_kind) × (j ≡ 0) × (s + width_of points b bs ≡ s + 1)) ⊎ (token_kind points b bs ≡ decimal_kind)
    go (inl (k, z, w)) = inl (k, z, rw w)
    go (inr k) = inr k

pub point-alone : (points : Bool) (text : List ℕ) (at k : ℕ) → (token_at points text at).start ≤ k → k < (token_at points text at).end → get_or text k 0 ≡ point
    → (((token_at points text at).kind ≡ foreign_kind) × ((token_at points text at).start ≡ k) × ((token_at points text at).end ≡ k + 1)) ⊎ ((token_at points text at).kind ≡ decimal_kind)
unfolding token_at
point-alone points text at k l h p =
    let s = past text at in
    let r = here points s (drop s text) in
    let q : s + (k - s) ≡ k = omega arith in
    go (point-here points s (drop s text) (k - s) (omega arith) (get_or-drop s text (k - s) 0 ∙ rw q p))
  where
    t : Token
    t = token_here points (past text at) (drop (past text at) text)

    go : ((t.kind ≡ foreign_kind) × (k - past text at ≡ 0) × (t.end ≡ past text at + 1)) ⊎ (t.kind ≡ decimal_kind) → ((t.kind ≡ foreign_kind) × (t.start ≡ k) × (t.end ≡ k + 1)) ⊎ (t.kind ≡ decimal_kind)
    go (inl (f, z, e)) = let r = here points (past text at) (drop (past text at) text) in inl (f, omega arith, omega arith)
    go (inr f) = inr f

-- ---- the bytes of a text
module _ (text : List ℕ) where
  -- what begins a token is no blank
  first-solid : (at : ℕ) → past text at < length text → class_of (get_or (drop (past text at) text) 0 0) ≡ blank → ⊥
  first-solid at h c =
      let d = length-drop at text in
      let e : class_of (get_or (drop at text) (span blank (drop at text)) 0) ≡ blank = ap class_of (get_or-drop at text (span blank (drop at text)) 0) ∙ (rw add-zero at (sym (ap class_of (get_or-drop (past text at) text 0 0)) ∙ c)) in
      span-stops blank (drop at text) (omega arith) e

  token-solid : (points : Bool) (at k : ℕ) → k < length text → (token_at points text at).start ≤ k → k < (token_at points text at).end → class_of (get_or text k 0) ≡ blank → ⊥
  unfolding token_at
  token-solid points at k i l h c =
      let s = past text at in
      let r = here points s (drop s text) in
      let q : s + (k - s) ≡ k = omega arith in
      solid-here points s (drop s text) (first-solid at (omega arith)) (k - s) (omega arith)
      (ap class_of (get_or-drop s text (k - s) 0) ∙ rw q c)

  in_solid : (md : Mode) (at k : ℕ) → k < length text → (token_in md text at).start ≤ k → k < (token_in md text at).end → class_of (get_or text k 0) ≡ blank → ⊥
  in_solid md at k i l h = token-solid (takes_points md) at k i (rw (starts-alike text at md) at l) (rw (ends-alike text at md) at h)

  -- a token's byte is no blank
  none-blank : (j : ℕ) (md : Mode) (at k : ℕ) → at ≤ length text → k < length text → OfToken (tokens_in j md text at) k → class_of (get_or text k 0) ≡ blank → ⊥
  unfolding tokens_in
  none-blank zero md at k h i o c = elim o.one [ ]
  none-blank (suc j) md at k h i o c = go (eqb (token_in md text at).kind end_kind) refl o (λ l q. none-blank j (next md (token_in md text at).kind) (token_in md text at).end k l i q c)
    where
      go : (e : Bool) → eqb (token_in md text at).kind end_kind ≡ e → OfToken (cond e [] (token_in md text at ∷ tokens_in j (next md (token_in md text at).kind) text (token_in md text at).end)) k
          → ((token_in md text at).end ≤ length text → OfToken (tokens_in j (next md (token_in md text at).kind) text (token_in md text at).end) k → ⊥) → ⊥
      go true e q ih = elim q.one [ ]
      go false e q ih = by_member q.one
        where
          by_member : Memᴰ q.token (token_in md text at ∷ tokens_in j (next md (token_in md text at).kind) text (token_in md text at).end) → ⊥
          by_member (Memᴰ.head f) = in_solid md at k i (subst (λ (u : Token). u.start ≤ k) f q.starts) (subst (λ (u : Token). k < u.end) f q.ends) c
          by_member (Memᴰ.tail d) = ih (moves_in text at md h (eqb-false _ _ e)).1 (record { token = q.token; one = d; starts = q.starts; ends = q.ends })

  -- a byte that is no blank is a token's
  in_some : (j : ℕ) (md : Mode) (at k : ℕ) → at ≤ length text → length text - at ≤ j → at ≤ k → k < length text → (class_of (get_or text k 0) ≡ blank → ⊥) → OfToken (tokens_in j md text at) k
  unfolding tokens_in
  in_some zero md at k h l g i n = absurd (omega arith)
  in_some (suc j) md at k h l g i n = go (eqb (token_in md text at).kind end_kind) refl (ltb k (token_in md text at).start) refl (ltb k (token_in md text at).end) refl (λ a b d. in_some j (next md (token_in md text at).kind) (token_in md text at).end k a b d i n)
    where
      go : (e : Bool) → eqb (token_in md text at).kind end_kind ≡ e → (x : Bool) → ltb k (token_in md text at).start ≡ x → (y : Bool) → ltb k (token_in md text at).end ≡ y
          → ((token_in md text at).end ≤ length text → length text - (token_in md text at).end ≤ j → (token_in md text at).end ≤ k → OfToken (tokens_in j (next md (token_in md text at).kind) text (token_in md text at).end) k)
          → OfToken (cond e [] (token_in md text at ∷ tokens_in j (next md (token_in md text at).kind) text (token_in md text at).end)) k
      go e p true q y r ih = absurd (n (gap_blank (takes_points md) text at k g (rw (starts-alike text at md) at (ltb-true k (token_in md text at).start q))))
      go true p false q y r ih = absurd (omega (arith, at_end_in text at md h (eqb-true _ _ p), ltb-false k (token_in md text at).start q))
      go false p false q true r ih =
          record { token = token_in md text at; one = Memᴰ.head refl; starts = ltb-false k (token_in md text at).start q; ends = ltb-true k (token_in md text at).end r }
      go false p false q false r ih =
          let m = moves_in text at md h (eqb-false _ _ p) in
          let s = spans_in text at md h in
          let o = ih m.1 (omega arith) (ltb-false k (token_in md text at).end r) in
          record { token = o.token; one = Memᴰ.tail o.one; starts = o.starts; ends = o.ends }

  pub whole-text : (k : ℕ) → k < length text → OfToken (tokens text) k ↔ (class_of (get_or text k 0) ≡ blank → ⊥)
  unfolding tokens_from
  whole-text k h = (none-blank (length text - 0) (declares 2) 0 k (omega arith) h, in_some (length text - 0) (declares 2) 0 k (omega arith) (omega arith) (omega arith) h)
