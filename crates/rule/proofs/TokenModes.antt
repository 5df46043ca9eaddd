-- Laws of the modes: a token that is not the clause's word is the next one with points or without; without the clause the tokens
-- are those of the condition without points; and each token of a text is the next one at some place and mode. Assumes nothing.
use Rattle.std.proofs.lemmas.Bool.Decides.{nat_tests}
use mathlib.Core.Path.{◌≡◌, refl, ap, sym, subst, ◌∙◌}
use mathlib.Core.Bool.{Bool, true, false, cond}
use mathlib.Core.List.{List, [], ◌∷◌, Memᴰ}
use Prim.Native.Nat.{ℕ, zero, suc, ◌-◌, ◌≤◌}
use native.Mathlib.Omega.{arith}
use borrow.Author.Tests.{eqb-false}
use lib.Dec.{eqb}
use lib.ListN.{length, drop}
use Rattle.rule.specs.Class.{letter, digit, OfClass}
use Rattle.rule.specs.Token.{end_kind, number_kind, decimal_kind, scale_kind, token_kind, past, token_here, token_at, spelling, IsWord, DecimalsBehind}
use Rattle.rule.specs.Token.{Mode, declares, clause, body, next, takes_points, clause_at, as_scale, token_in, tokens_in, tokens_from, tokens}
use Rattle.rule.specs.declared.Token.{Token}
use Rattle.rule.proofs.TokenMarks.{mark_high}
use Rattle.rule.proofs.TokenLists.{word-is, none_left, one_more_lem, moves_in}
use Rattle.rule.proofs.TokenRuns.{word-letters, number_digits, decimal-digits}

-- ---- kinds that only a mode gives
kind-low : (points : Bool) (b : ℕ) (bs : List ℕ) → token_kind points b bs ≡ scale_kind → ⊥
unfolding token_kind
kind-low points b bs = grind (arith, nat_tests, word-is, mark_high)

here-low : (points : Bool) (s : ℕ) (l : List ℕ) → (token_here points s l).kind ≡ scale_kind → ⊥
unfolding token_here
here-low points s [] e = omega arith
here-low points s (b ∷ bs) e = kind-low points b bs e

pub never-scale : (points : Bool) (text : List ℕ) (at : ℕ) → (token_at points text at).kind ≡ scale_kind → ⊥
unfolding token_at
never-scale points text at = here-low points (past text at) (drop (past text at) text)

module _ (text : List ℕ) (at : ℕ) where
  -- a token that is not the clause's word
  pub plain : (md : Mode) → ((token_in md text at).kind ≡ scale_kind → ⊥) → token_in md text at ≡ token_at (takes_points md) text at
  plain (declares zero) ne = grind arith
  plain (declares (suc n)) ne = refl
  plain clause ne = refl
  plain (body points) ne = refl

  -- without the clause
  pub clause-none : clause_at text at ≡ false → token_in (declares 0) text at ≡ token_at false text at
  clause-none e = rw e

  pub clause-some : clause_at text at ≡ true → token_in (declares 0) text at ≡ as_scale (token_at false text at)
  clause-some e = rw e

  pub no_clause : at ≤ length text → clause_at text at ≡ false → tokens_from (declares 0) text at ≡ tokens_from (body false) text at
  no_clause h e = grind (arith, nat_tests, none_left (declares 0) text at, none_left (body false) text at, one_more_lem (declares 0) text at h, one_more_lem (body false) text at h, never-scale false text at)

-- ---- a token of a text is the next one from some place on, at some mode
pub record Found (text : List ℕ) (t : Token) : Type 0 where
  pub mode : Mode
  pub at : ℕ
  pub within : at ≤ length text
  pub is : t ≡ token_in mode text at

found_in : (k : ℕ) (md : Mode) (text : List ℕ) (at : ℕ) → at ≤ length text → (t : Token) → Memᴰ t (tokens_in k md text at) → Found text t
unfolding tokens_in
found_in zero md text at h t m = elim m [ ]
found_in (suc k) md text at h t m = go (eqb (token_in md text at).kind end_kind) refl (λ l. found_in k (next md (token_in md text at).kind) text (token_in md text at).end l t) m
  where
    go : (q : Bool) → eqb (token_in md text at).kind end_kind ≡ q
        → ((token_in md text at).end ≤ length text → Memᴰ t (tokens_in k (next md (token_in md text at).kind) text (token_in md text at).end) → Found text t)
        → Memᴰ t (cond q [] (token_in md text at ∷ tokens_in k (next md (token_in md text at).kind) text (token_in md text at).end)) → Found text t
    go true e ih i = elim i [ ]
    go false e ih (Memᴰ.head f) = record { mode = md; at = at; within = h; is = f }
    go false e ih (Memᴰ.tail d) = ih (moves_in text at md h (eqb-false _ _ e)).1 d

pub found : (text : List ℕ) (t : Token) → Memᴰ t (tokens text) → Found text t
unfolding tokens_from
found text t = found_in (length text - 0) (declares 2) text 0 (omega arith) t

-- so its bytes are letters where it is a word, and digits where it is a number
module _ {text : List ℕ} {t : Token} (f : Found text t) where
  pub as_plain : (t.kind ≡ scale_kind → ⊥) → t ≡ token_at (takes_points f.mode) text f.at
  as_plain ne = f.is ∙ plain text f.at f.mode (λ e. ne (ap (λ (u : Token). u.kind) f.is ∙ e))

  pub found-letters : IsWord t.kind → OfClass letter (spelling text t)
  found-letters w =
      let e = as_plain (λ q. omega (arith, w.1)) in
      subst (λ (u : Token). OfClass letter (spelling text u)) (sym e) (word-letters _ text f.at (subst (λ (u : Token). IsWord u.kind) e w))

  pub found-digits : t.kind ≡ number_kind → OfClass digit (spelling text t)
  found-digits w =
      let e = as_plain (λ q. omega arith) in
      subst (λ (u : Token). OfClass digit (spelling text u)) (sym e) (number_digits _ text f.at (sym (ap (λ (u : Token). u.kind) e) ∙ w))

-- ---- before the clause's word no token is a decimal
-- the modes up to it, and without it
abbrev Early : Mode → Type 0
Early (declares n) = Unit
Early clause = ⊥
Early (body points) = points ≡ false

early-next : (md : Mode) (k : ℕ) → Early md → (k ≡ scale_kind → ⊥) → Early (next md k)
early-next (declares zero) k e ne = grind (arith, nat_tests)
early-next (declares (suc n)) k e ne = grind arith
early-next clause k e ne = absurd e
early-next (body points) k e ne = e

early-points : (md : Mode) → Early md → takes_points md ≡ true → ⊥
early-points (declares n) e q = grind arith
early-points clause e q = absurd e
early-points (body points) e q = grind arith

early-none : (text : List ℕ) (at : ℕ) (md : Mode) → Early md → (token_in md text at).kind ≡ decimal_kind → ⊥
early-none text at md e q = grind (arith, plain text at md, early-points md e, decimal-digits (takes_points md) text at)

behind_in : (k : ℕ) (md : Mode) (text : List ℕ) (at : ℕ) → Early md → DecimalsBehind (tokens_in k md text at)
unfolding tokens_in
behind_in zero md text at e = tt
behind_in (suc k) md text at e = grind (arith, early-none text at md e, early-next md (token_in md text at).kind e, behind_in k (next md (token_in md text at).kind) text (token_in md text at).end)

pub decimals-behind : (text : List ℕ) → DecimalsBehind (tokens text)
unfolding tokens_from
decimals-behind text = behind_in (length text - 0) (declares 2) text 0 tt

-- so where none is the clause's word, none is a decimal
pub no_decimals : (ts : List Token) → DecimalsBehind ts → ((t : Token) → Memᴰ t ts → t.kind ≡ scale_kind → ⊥) → (t : Token) → Memᴰ t ts → t.kind ≡ decimal_kind → ⊥
no_decimals [] b n t m = elim m [ ]
no_decimals (u ∷ us) b n t (Memᴰ.head f) = grind (arith, b.0)
no_decimals (u ∷ us) b n t (Memᴰ.tail d) = no_decimals us (b.1 (n u (Memᴰ.head refl))) (λ x i. n x (Memᴰ.tail i)) t d
