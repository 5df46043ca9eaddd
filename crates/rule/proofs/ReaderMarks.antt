-- The machine's steps at a sign and at a relation, by the kind of frame that the token stands for. Assumes nothing.
use mathlib.Core.Path.{◌≡◌, refl}
use mathlib.Core.Bool.{Bool, true, false, cond}
use mathlib.Core.List.{List, [], ◌∷◌}
use Prim.Native.Nat.{ℕ, zero, suc, ◌<◌}
use native.Mathlib.Omega.{arith}
use lib.Dec.{eqb}
use Rattle.std.proofs.Common.{Option, Some, None}
use Rattle.rule.specs.declared.parts.Place.{Place}
use Rattle.rule.specs.Frames.{Kind, kind_byte}
use Rattle.rule.specs.Grammar.{rel_mark, rels, sign_mark, signs, by_mark}
use Rattle.rule.specs.Draft.{plain, relation_of, sign_of}
use Rattle.rule.specs.Machine.{Act, out, Sym, adds, rel, doing, prod, sum, Next, stuck, on, step}
use Rattle.rule.specs.ReadsPart.{sign_byte, rel_byte}

-- ---- a choice by marks of what follows a byte, and the byte by the same marks, if it is one of them
module _ {A B : Type 0} (its byte : A → ℕ) (k : ℕ) (after : ℕ → B) (z : B) where
  abbrev pub byte_of : List A → Option ℕ
  byte_of = by_mark its k (λ x. Some (byte x)) None

  unmarked : (xs : List A) → byte_of xs ≡ None → by_mark its k (λ x. after (byte x)) z xs ≡ z
  unmarked [] e = refl
  unmarked (x ∷ xs) e = go (eqb k (its x)) (unmarked xs) e
    where
      go : (b : Bool) → (byte_of xs ≡ None → by_mark its k (λ y. after (byte y)) z xs ≡ z) → cond b (Some (byte x)) (byte_of xs) ≡ None
          → cond b (after (byte x)) (by_mark its k (λ y. after (byte y)) z xs) ≡ z
      go true ih f = cc
      go false ih f = ih f

  marked : (b : ℕ) (xs : List A) → byte_of xs ≡ Some b → by_mark its k (λ x. after (byte x)) z xs ≡ after b
  marked b [] e = cc
  marked b (x ∷ xs) e = go (eqb k (its x)) (marked b xs) e
    where
      go : (c : Bool) → (byte_of xs ≡ Some b → by_mark its k (λ y. after (byte y)) z xs ≡ after b) → cond c (Some (byte x)) (byte_of xs) ≡ Some b
          → cond c (after (byte x)) (by_mark its k (λ y. after (byte y)) z xs) ≡ after b
      go true ih f = cc
      go false ih f = ih f

-- a token that is one of the marks is not the end
pub sign_some : (k b : ℕ) → sign_byte k ≡ Some b → 0 < k
unfolding sign_byte
sign_some zero b e = cc
sign_some (suc k) b e = omega arith

pub rel_some : (k b : ℕ) → rel_byte k ≡ Some b → 0 < k
unfolding rel_byte
rel_some zero b e = cc
rel_some (suc k) b e = omega arith

module _ (M : Type 0) (act : Act → M → M) (d : ℕ) (s : List Sym) (m : M) (k : ℕ) (p : Place) where
  abbrev after_sign : ℕ → Next M
  after_sign b = on (prod d (doing (out (plain b)) ∷ adds d ∷ s)) m

  pub sign_pass : sign_byte k ≡ None → step M act (adds d ∷ s) m k p ≡ step M act s m k p
  unfolding sign_byte step
  sign_pass = unmarked sign_mark (λ g. kind_byte (Kind.arithmetic (sign_of g))) k after_sign (step M act s m k p) signs

  pub sign_step : (b : ℕ) → sign_byte k ≡ Some b → step M act (adds d ∷ s) m k p ≡ on (prod d (doing (out (plain b)) ∷ adds d ∷ s)) m
  unfolding sign_byte step
  sign_step b = marked sign_mark (λ g. kind_byte (Kind.arithmetic (sign_of g))) k after_sign (step M act s m k p) b signs

  abbrev after_rel : ℕ → Next M
  after_rel b = on (sum d (doing (out (plain b)) ∷ s)) m

  pub rel_stuck : rel_byte k ≡ None → step M act (rel d ∷ s) m k p ≡ stuck
  unfolding rel_byte step
  rel_stuck = unmarked rel_mark (λ c. kind_byte (Kind.relation (relation_of c))) k after_rel stuck rels

  pub rel_step : (b : ℕ) → rel_byte k ≡ Some b → step M act (rel d ∷ s) m k p ≡ on (sum d (doing (out (plain b)) ∷ s)) m
  unfolding rel_byte step
  rel_step b = marked rel_mark (λ c. kind_byte (Kind.relation (relation_of c))) k after_rel stuck b rels
