-- Laws of the tokens of a text: the next one lies beyond the place and within the text, what stands before it is blank, and
-- `tokens_from` is the next one and those after it. Assumes nothing.
use Rattle.rule.proofs.TokenWords.{same_told}
use Rattle.std.proofs.lemmas.Bool.Decides.{nat_tests}
use mathlib.Core.Path.{◌≡◌, refl, ap, sym, ◌∙◌}
use mathlib.Core.Logic.{◌↔◌}
use mathlib.Core.Bool.{Bool, true, false}
use mathlib.Core.List.{List, [], ◌∷◌}
use Prim.Native.Nat.{ℕ, zero, suc, ◌+◌, ◌-◌, ◌≤◌, ◌<◌}
use native.Mathlib.Omega.{arith}
use lib.ListN.{length, drop, get_or, length-drop}
use lib.Seq.{get_or-drop}
use Rattle.rule.specs.Class.{blank, class_of}
use Rattle.rule.specs.Token.{end_kind, same, word_kind, token_kind, width_of, past, token_here, token_at, IsWord, Rising}
use Rattle.rule.specs.Token.{Mode, declares, clause, body, next, takes_points, clause_at, token_in, tokens_in, tokens_from}
use Rattle.rule.specs.declared.Token.{Token}
use Rattle.rule.proofs.TokenSpans.{span_le, span_class}
use Rattle.rule.proofs.TokenFractions.{fraction_of_le}
use Rattle.rule.proofs.TokenMarks.{mark_high, width_some, width-alone}

pub word-is : (w : List ℕ) → IsWord (word_kind w)
unfolding word_kind
word-is w = (grind arith, grind arith, grind arith)

-- a token's kind is not that of the end
kind-some : (points : Bool) (b : ℕ) (bs : List ℕ) → token_kind points b bs ≡ end_kind → ⊥
unfolding token_kind
kind-some points b bs = grind (arith, nat_tests, word-is, mark_high)

-- a token has a byte at least, and lies within the text
width_le : (points : Bool) (b : ℕ) (bs : List ℕ) → (1 ≤ width_of points b bs) × (width_of points b bs ≤ suc (length bs))
unfolding width_of
width_le points b [] = grind (arith, span_le, fraction_of_le, width_some, width-alone)
width_le points b (x ∷ bs) = grind (arith, span_le, fraction_of_le, width_some)

-- ---- what stands at s
module _ (points : Bool) (s : ℕ) where
  pub here : (l : List ℕ) → ((token_here points s l).start ≡ s) × (s ≤ (token_here points s l).end) × ((token_here points s l).end ≤ s + length l)
  unfolding token_here
  here [] = (refl, omega arith, omega arith)
  here (b ∷ bs) = (refl, omega arith, omega (arith, width_le points b bs))

  some : (l : List ℕ) → ((token_here points s l).kind ≡ end_kind → ⊥) → s < (token_here points s l).end
  unfolding token_here
  some [] ne = absurd (ne refl)
  some (b ∷ bs) ne = omega (arith, width_le points b bs)

  over : (l : List ℕ) → (token_here points s l).kind ≡ end_kind → (length l ≡ 0) × ((token_here points s l).end ≡ s)
  unfolding token_here
  over [] e = (refl, refl)
  over (b ∷ bs) e = absurd (kind-some points b bs e)

-- ---- the next token
module _ (points : Bool) (text : List ℕ) (at : ℕ) where
  -- the end has no byte
  end_empty : (token_at points text at).kind ≡ end_kind → (token_at points text at).end ≡ (token_at points text at).start
  unfolding token_at
  end_empty e =
      let s = past text at in
      (over points s (drop s text) e).1 ∙ sym (here points s (drop s text)).0

  module _ (h : at ≤ length text) where
    past_le : past text at ≤ length text
    past_le = omega (arith, span_le blank (drop at text), length-drop at text)

    -- it begins at the place or later, and ends within the text
    pub spans : (at ≤ (token_at points text at).start) × ((token_at points text at).start ≤ (token_at points text at).end) × ((token_at points text at).end ≤ length text)
    unfolding token_at
    spans =
        let r = here points (past text at) (drop (past text at) text) in
        let d = length-drop (past text at) text in
        let p = past_le in
        (omega arith, omega arith, omega arith)

    -- one that is not the end moves on
    pub moves : ((token_at points text at).kind ≡ end_kind → ⊥) → ((token_at points text at).start < (token_at points text at).end) × ((token_at points text at).end ≤ length text)
    unfolding token_at
    moves ne =
        let r = here points (past text at) (drop (past text at) text) in
        let q = some points (past text at) (drop (past text at) text) ne in
        let d = length-drop (past text at) text in
        let p = past_le in
        (omega arith, omega arith)

    -- the end stands at the text's length
    pub at_end : (token_at points text at).kind ≡ end_kind → (token_at points text at).start ≡ length text
    unfolding token_at
    at_end e =
        let r = here points (past text at) (drop (past text at) text) in
        let o = over points (past text at) (drop (past text at) text) e in
        let d = length-drop (past text at) text in
        let p = past_le in
        omega arith

-- the same of a token that is the next one
pub spans-of : (points : Bool) (text : List ℕ) (at : ℕ) (t : Token) → at ≤ length text → t ≡ token_at points text at → (at ≤ t.start) × (t.start ≤ t.end) × (t.end ≤ length text)
spans-of points text at t h is = rw is (spans points text at h)

-- what stands between the place and the next token is blank
pub gap_blank : (points : Bool) (text : List ℕ) (at k : ℕ) → at ≤ k → k < (token_at points text at).start → class_of (get_or text k 0) ≡ blank
unfolding token_at
gap_blank points text at k l h =
    let r = here points (past text at) (drop (past text at) text) in
    let q : at + (k - at) ≡ k = omega arith in
    rw q at (sym (ap class_of (get_or-drop at text (k - at) 0)) ∙ span_class blank (drop at text) (k - at) (omega arith))

-- ---- the next token in each mode: its place is that of the next one with points or without
clause-some : (text : List ℕ) (at : ℕ) → clause_at text at ≡ true → (token_at false text at).kind ≡ end_kind → ⊥
unfolding clause_at same
clause-some text at q e =
    let n : (token_at false text at).end - (token_at false text at).start ≡ 0 = omega (arith, end_empty false text at e) in
    let z : ◌≡◌ {A = Bool} false true = rw n at q in
    let y : ◌≡◌ {A = ℕ} 0 1 = cc in
    omega arith

module _ (text : List ℕ) (at : ℕ) where
  pub starts-alike : (md : Mode) → (token_in md text at).start ≡ (token_at (takes_points md) text at).start
  starts-alike (declares zero) = grind arith
  starts-alike (declares (suc n)) = refl
  starts-alike clause = refl
  starts-alike (body points) = refl

  pub ends-alike : (md : Mode) → (token_in md text at).end ≡ (token_at (takes_points md) text at).end
  ends-alike (declares zero) = grind arith
  ends-alike (declares (suc n)) = refl
  ends-alike clause = refl
  ends-alike (body points) = refl

  -- and it is the end exactly where that one is
  pub over-alike : (md : Mode) → ((token_in md text at).kind ≡ end_kind) ↔ ((token_at (takes_points md) text at).kind ≡ end_kind)
  over-alike (declares zero) = (grind (arith, clause-some text at), grind (arith, clause-some text at))
  over-alike (declares (suc n)) = (λ e. e, λ e. e)
  over-alike clause = (λ e. e, λ e. e)
  over-alike (body points) = (λ e. e, λ e. e)

  module _ (md : Mode) (h : at ≤ length text) where
    pub spans_in : (at ≤ (token_in md text at).start) × ((token_in md text at).start ≤ (token_in md text at).end) × ((token_in md text at).end ≤ length text)
    spans_in = let r = spans (takes_points md) text at h in rw (starts-alike md, ends-alike md) r

    pub moves_in : ((token_in md text at).kind ≡ end_kind → ⊥) → ((token_in md text at).start < (token_in md text at).end) × ((token_in md text at).end ≤ length text)
    moves_in ne = let r = moves (takes_points md) text at h (λ e. ne ((over-alike md).1 e)) in rw (starts-alike md, ends-alike md) r

    pub at_end_in : (token_in md text at).kind ≡ end_kind → (token_in md text at).start ≡ length text
    at_end_in e = starts-alike md ∙ at_end (takes_points md) text at h ((over-alike md).0 e)

-- ---- the tokens from a place on

-- it does not matter by how much k is enough
enough : (text : List ℕ) (j k : ℕ) (md : Mode) (at : ℕ) → at ≤ length text → length text - at ≤ j → length text - at ≤ k → tokens_in j md text at ≡ tokens_in k md text at
unfolding tokens_in
enough text zero zero md at h hj hk = refl
enough text zero (suc k) md at h hj hk = grind (arith, nat_tests, moves_in text at md h, spans_in text at md h)
enough text (suc j) zero md at h hj hk = grind (arith, nat_tests, moves_in text at md h, spans_in text at md h)
enough text (suc j) (suc k) md at h hj hk = grind (arith, nat_tests, moves_in text at md h, spans_in text at md h, enough text j k (next md (token_in md text at).kind) (token_in md text at).end)

pub none_left : (md : Mode) (text : List ℕ) (at : ℕ) → (token_in md text at).kind ≡ end_kind → tokens_from md text at ≡ []
unfolding tokens_from tokens_in
none_left md text at e = grind (arith, nat_tests)

pub one_more_lem : (md : Mode) (text : List ℕ) (at : ℕ) → at ≤ length text → ((token_in md text at).kind ≡ end_kind → ⊥)
    → tokens_from md text at ≡ token_in md text at ∷ tokens_from (next md (token_in md text at).kind) text (token_in md text at).end
unfolding tokens_from tokens_in
one_more_lem md text at h ne =
    let r = moves_in text at md h ne in
    let s = spans_in text at md h in
    grind (arith, nat_tests, enough text (length text - at) (suc (length text - at)) md at h, enough text (length text - at) (length text - (token_in md text at).end) (next md (token_in md text at).kind) (token_in md text at).end)

rising_in : (k : ℕ) (md : Mode) (text : List ℕ) (at : ℕ) → at ≤ length text → Rising at (length text) (tokens_in k md text at)
unfolding tokens_in
rising_in zero md text at h = h
rising_in (suc k) md text at h = grind (arith, nat_tests, moves_in text at md h, spans_in text at md h, rising_in k (next md (token_in md text at).kind) text (token_in md text at).end)

pub rising : (md : Mode) (text : List ℕ) (at : ℕ) → at ≤ length text → Rising at (length text) (tokens_from md text at)
unfolding tokens_from
rising md text at h = rising_in (length text - at) md text at h

-- for the code, which reads two tokens
pub ruleset clauses = (same_told, spans-of)
