-- The clause's word is told by what stands before and after it. Assumes nothing.
use Rattle.std.proofs.lemmas.Bool.Decides.{nat_tests}
use mathlib.Core.Path.{◌≡◌, refl, ap, sym, subst, ◌∙◌}
use mathlib.Core.Logic.{◌↔◌}
use mathlib.Core.Bool.{Bool, true, false}
use mathlib.Core.List.{List, [], ◌∷◌, ◌++◌}
use Prim.Native.Nat.{ℕ, zero, suc, ◌≤◌, zero-le}
use native.Mathlib.Omega.{arith}
use borrow.Author.Tests.{eq-eqb, ne_eqb, eqb-true, eqb-false}
use lib.Dec.{eqb}
use lib.ListN.{length}
use Rattle.numbers.proofs.Bools.{true-false, and-true, true-and}
use Rattle.rule.specs.Class.{semicolon}
use Rattle.rule.specs.Token.{end_kind, number_kind, scale_kind, scale_word, same, token_at, spelling, semicolons, first_kind, last_kind, AfterNotes}
use Rattle.rule.specs.Token.{Mode, declares, clause, body, next, clause_at, token_in, tokens_from, tokens}
use Rattle.rule.specs.declared.Token.{Token}
use Rattle.rule.proofs.TokenWords.{same_eq, same_refl}
use Rattle.rule.proofs.TokenLists.{none_left, one_more_lem, moves_in, spans_in}
use Rattle.rule.proofs.TokenModes.{never-scale, clause-none, clause-some}

-- the mode after some tokens
abbrev after : Mode → List Token → Mode
after md [] = md
after md (t ∷ ts) = after (next md t.kind) ts

-- ---- the mode after the notes
-- beyond the clause's place there is no way back
abbrev Late : Mode → Type 0
Late (declares n) = ⊥
Late clause = Unit
Late (body points) = Unit

late-next : (md : Mode) (k : ℕ) → Late md → Late (next md k)
late-next (declares n) k l = absurd l
late-next clause k l = grind arith
late-next (body points) k l = tt

late-first : (k : ℕ) → Late (next (declares 0) k)
late-first k = grind arith

late-stays : (md : Mode) (us : List Token) → Late md → after md us ≡ declares 0 → ⊥
late-stays md [] l e = subst Late e l
late-stays md (u ∷ us) l e = late-stays (next md u.kind) us (late-next md u.kind l) e

abbrev left : Mode → ℕ
left (declares n) = n
left clause = 1
left (body points) = 1

after_tells : (n k : ℕ) (us : List Token) → after (declares n) us ≡ declares 0 → (n ≡ 0 → k ≡ semicolon) → (semicolons us ≡ n) × (last_kind k us ≡ semicolon)
after_tells n k [] e h = let z : n ≡ 0 = ap left e in (sym z, h z)
after_tells zero k (u ∷ us) e h = absurd (late-stays (next (declares 0) u.kind) us (late-first u.kind) e)
after_tells (suc n) k (u ∷ us) e h = (grind (arith, nat_tests, after_tells n u.kind us, after_tells (suc n) u.kind us), grind (arith, nat_tests, after_tells n u.kind us, after_tells (suc n) u.kind us))

last_tells : (k : ℕ) (us : List Token) → semicolons us ≡ 0 → last_kind k us ≡ semicolon → k ≡ semicolon
last_tells k [] z l = l
last_tells k (u ∷ us) z l = grind (arith, nat_tests, last_tells u.kind us)

tells_after : (n k : ℕ) (us : List Token) → semicolons us ≡ n → last_kind k us ≡ semicolon → after (declares n) us ≡ declares 0
tells_after n k [] c l = ap declares (sym c)
tells_after zero k (u ∷ us) c l = grind (arith, nat_tests, last_tells u.kind us)
tells_after (suc n) k (u ∷ us) c l = grind (arith, nat_tests, tells_after n u.kind us, tells_after (suc n) u.kind us)

-- ---- a token of a text, with those before and those after it
pub record Parted (text : List ℕ) (md : Mode) (us : List Token) (t : Token) (vs : List Token) : Type 0 where
  pub at : ℕ
  pub within : at ≤ length text
  pub is : t ≡ token_in (after md us) text at
  pub rest : vs ≡ tokens_from (next (after md us) t.kind) text t.end

head_of : {t u : Token} {ts us : List Token} → t ∷ ts ≡ u ∷ us → t ≡ u
head_of e = cc

tail_of : {t u : Token} {ts us : List Token} → t ∷ ts ≡ u ∷ us → ts ≡ us
tail_of e = cc

none_cons : {u : Token} {us : List Token} → ◌≡◌ {A = List Token} [] (u ∷ us) → ⊥
none_cons e = let z : ◌≡◌ {A = ℕ} 0 1 = cc in omega arith

part : (text : List ℕ) (md : Mode) (at : ℕ) (us : List Token) (t : Token) (vs : List Token) → at ≤ length text → tokens_from md text at ≡ us ++ t ∷ vs → Parted text md us t vs
part text md at [] t vs h e = go (eqb (token_in md text at).kind end_kind) refl
  where
    go : (q : Bool) → eqb (token_in md text at).kind end_kind ≡ q → Parted text md [] t vs
    go true f = absurd (none_cons (sym (none_left md text at (eqb-true _ _ f)) ∙ e))
    go false f =
        let o = sym (one_more_lem md text at h (eqb-false _ _ f)) ∙ e in
        let i = head_of o in
        record {
          at = at;
          within = h;
          is = sym i;
          rest = sym (tail_of o) ∙ ap (λ (u : Token). tokens_from (next md u.kind) text u.end) i;
        }
part text md at (u ∷ us) t vs h e = go (λ l f. part text (next md u.kind) (token_in md text at).end us t vs l f) (eqb (token_in md text at).kind end_kind) refl
  where
    go : ((token_in md text at).end ≤ length text → tokens_from (next md u.kind) text (token_in md text at).end ≡ us ++ t ∷ vs → Parted text (next md u.kind) us t vs)
        → (q : Bool) → eqb (token_in md text at).kind end_kind ≡ q → Parted text md (u ∷ us) t vs
    go ih true f = absurd (none_cons (sym (none_left md text at (eqb-true _ _ f)) ∙ e))
    go ih false f =
        let o = sym (one_more_lem md text at h (eqb-false _ _ f)) ∙ e in
        let i = head_of o in
        let m = moves_in text at md h (eqb-false _ _ f) in
        let r = ih m.1 (subst (λ (x : Token). tokens_from (next md x.kind) text (token_in md text at).end ≡ us ++ t ∷ vs) i (tail_of o)) in
        record { at = r.at; within = r.within; is = r.is; rest = r.rest }

first_of : (md : Mode) (text : List ℕ) (at : ℕ) → at ≤ length text → first_kind (tokens_from md text at) ≡ (token_in md text at).kind
first_of md text at h = grind (arith, nat_tests, none_left md text at, one_more_lem md text at h)

-- ---- the clause's word
scale-mode : (md : Mode) (text : List ℕ) (at : ℕ) → (token_in md text at).kind ≡ scale_kind → (md ≡ declares 0) × (clause_at text at ≡ true)
scale-mode (declares zero) text at e = (refl, grind (arith, never-scale false text at))
scale-mode (declares (suc n)) text at e = absurd (never-scale false text at e)
scale-mode clause text at e = absurd (never-scale false text at e)
scale-mode (body points) text at e = absurd (never-scale points text at e)

stands : (text : List ℕ) (at : ℕ) → same (spelling text (token_at false text at)) scale_word ≡ true → eqb (token_at false text (token_at false text at).end).kind number_kind ≡ true → clause_at text at ≡ true
unfolding clause_at
stands text at = true-and _ _

module _ (text : List ℕ) (at : ℕ) (h : at ≤ length text) (t : Token) (is : t ≡ token_in (declares 0) text at) where
  ends-within : t.end ≤ length text
  ends-within = rw is (spans_in text at (declares 0) h).2

  word_told : clause_at text at ≡ true → (spelling text t ≡ scale_word) × (first_kind (tokens_from (next (declares 0) t.kind) text t.end) ≡ number_kind)
  unfolding clause_at
  word_told c =
      let e = is ∙ clause-some text at c in
      let a = and-true (same (spelling text (token_at false text at)) scale_word) (eqb (token_at false text (token_at false text at).end).kind number_kind) c in
      let w = ends-within in (
        ap (spelling text) e ∙ same_eq _ _ a.0,
        subst (λ (u : Token). u.end ≤ length text → first_kind (tokens_from (next (declares 0) u.kind) text u.end) ≡ number_kind) (sym e)
            (λ l. first_of clause text (token_at false text at).end l ∙ eqb-true _ _ a.1) w,
      )

  told_word : spelling text t ≡ scale_word → first_kind (tokens_from (next (declares 0) t.kind) text t.end) ≡ number_kind → t.kind ≡ scale_kind
  told_word s f = go (clause_at text at) refl
    where
      go : (q : Bool) → clause_at text at ≡ q → t.kind ≡ scale_kind
      go true c = ap (λ (u : Token). u.kind) (is ∙ clause-some text at c)
      go false c = absurd (true-false (sym whole ∙ c))
        where
          e : t ≡ token_at false text at
          e = is ∙ clause-none text at c

          plain : t.kind ≡ scale_kind → ⊥
          plain z = never-scale false text at (ap (λ (u : Token). u.kind) (sym e) ∙ z)

          number : (token_at false text t.end).kind ≡ number_kind
          number = sym (first_of (body false) text t.end ends-within) ∙ (rw (ne_eqb t.kind scale_kind plain) at f)

          whole : clause_at text at ≡ true
          whole = stands text at (rw (sym (ap (spelling text) e) ∙ s) (same_refl scale_word)) (eq-eqb _ _ (subst (λ (u : Token). (token_at false text u.end).kind ≡ number_kind) e number))

pub scale-word : (text : List ℕ) (us : List Token) (t : Token) (vs : List Token) → tokens text ≡ us ++ t ∷ vs
    → (t.kind ≡ scale_kind) ↔ (AfterNotes us × (spelling text t ≡ scale_word) × (first_kind vs ≡ number_kind))
scale-word text us t vs e = (to, from)
  where
    p : Parted text (declares 2) us t vs
    p = part text (declares 2) 0 us t vs zero-le e

    at_zero : after (declares 2) us ≡ declares 0 → t ≡ token_in (declares 0) text p.at
    at_zero m = subst (λ (md : Mode). t ≡ token_in md text p.at) m p.is

    rest_of : after (declares 2) us ≡ declares 0 → vs ≡ tokens_from (next (declares 0) t.kind) text t.end
    rest_of m = subst (λ (md : Mode). vs ≡ tokens_from (next md t.kind) text t.end) m p.rest

    to : t.kind ≡ scale_kind → AfterNotes us × (spelling text t ≡ scale_word) × (first_kind vs ≡ number_kind)
    to k =
        let s = scale-mode (after (declares 2) us) text p.at (ap (λ (u : Token). u.kind) (sym p.is) ∙ k) in
        let w = word_told text p.at p.within t (at_zero s.0) s.1 in
        (after_tells 2 end_kind us s.0 (λ z. absurd (omega arith)), w.0, ap first_kind (rest_of s.0) ∙ w.1)

    from : AfterNotes us × (spelling text t ≡ scale_word) × (first_kind vs ≡ number_kind) → t.kind ≡ scale_kind
    from (a, s, f) =
        let m = tells_after 2 end_kind us a.0 a.1 in
        told_word text p.at p.within t (at_zero m) s (ap first_kind (sym (rest_of m)) ∙ f)
