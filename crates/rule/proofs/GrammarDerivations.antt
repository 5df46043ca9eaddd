-- Leftmost derivations: what a stack may spell, and what its reading does. The machine takes exactly those. Assumes nothing.
use mathlib.Core.Path.{◌≡◌, refl, subst}
use mathlib.Core.Bool.{Bool, true, false, cond}
use mathlib.Core.List.{List, [], ◌∷◌}
use Prim.Native.Nat.{ℕ}
use borrow.Author.Tests.{eqb-true, eq-eqb}
use lib.Dec.{eqb}
use Rattle.rule.specs.declared.parts.Place.{Place}
use Rattle.rule.specs.declared.parts.Role.{Role}
use Rattle.rule.specs.declared.parts.Role.TheVariants.{Event, Note}
use Rattle.rule.specs.declared.parts.Limit.TheVariants.{OfClause, OfLiteral, OfFactor, OfOffset}
use Rattle.rule.specs.declared.parts.Sign.{Sign}
use Rattle.rule.specs.declared.parts.Sign.TheVariants.{Plus, Minus}
use Rattle.rule.specs.declared.parts.Multiple.{Multiple}
use Rattle.rule.specs.declared.parts.Multiple.TheVariants.{Once, Times}
use Rattle.rule.specs.declared.parts.Shift.TheVariants.{Unshifted, By}
use Rattle.rule.specs.Token.{index_kind, bars_kind, ampersands_kind, arrow_kind, abs_kind, name_kind, number_kind, decimal_kind, scale_kind, unequal_kind, at_most_kind, at_least_kind}
use Rattle.rule.specs.Class.{open_bracket, open_paren, star, bang, close_paren, open_brace, close_brace, close_bracket, equal_mark, less_mark, minus_mark, more_mark, plus_mark, semicolon}
use Rattle.rule.specs.Grammar.{Word, mark, name, number, Rel, equal, unequal, less, at_most, more, at_least, rel_mark, sign_mark, word_of}
use Rattle.rule.specs.Frames.{Arithmetic, Connective, Kind}
use Rattle.rule.specs.Draft.{head, lit, index_var, ref, alone, relation_of, sign_of}
use Rattle.rule.specs.Machine.{Act, declare, uses, sized, enter, out, deeper, Sym, unit, ands, ors, arrow, factor, muls, adds, rel, want, name_of, names_of, clause, clause_number, ref_event, ref_index, ref_shift, ref_by, doing, prod, sum, conj, condition, start, Next, stuck, on, start_factor, step}

abbrev pub is_leaf : ℕ → Bool
is_leaf k = cond (eqb k name_kind) true (cond (eqb k number_kind) true (eqb k decimal_kind))

-- ---- words and kinds
abbrev Marks : Word → ℕ → Type 0
Marks (mark j) k = k ≡ j
Marks (name q) k = ⊥
Marks (number q) k = ⊥
Marks (Word.decimal q) k = ⊥

abbrev Matches : Word → ℕ → Place → Type 0
Matches (mark j) k p = k ≡ j
Matches (name q) k p = (k ≡ name_kind) × (p ≡ q)
Matches (number q) k p = (k ≡ number_kind) × (p ≡ q)
Matches (Word.decimal q) k p = (k ≡ decimal_kind) × (p ≡ q)

matches-own : (k : ℕ) (p : Place) → Matches (word_of k p) k p
matches-own k p = go (eqb k name_kind) (eqb k number_kind) (eqb k decimal_kind) refl refl refl
  where
    go : (x y z : Bool) → eqb k name_kind ≡ x → eqb k number_kind ≡ y → eqb k decimal_kind ≡ z → Matches (cond x (name p) (cond y (number p) (cond z (Word.decimal p) (mark k)))) k p
    go true y z e f g = (eqb-true _ _ e, refl)
    go false true z e f g = (eqb-true _ _ f, refl)
    go false false true e f g = (eqb-true _ _ g, refl)
    go false false false e f g = refl

matches : (k : ℕ) (p : Place) {w : Word} → word_of k p ≡ w → Matches w k p
matches k p e = subst (λ (x : Word). Matches x k p) e (matches-own k p)

plain_word : (k : ℕ) (p : Place) → is_leaf k ≡ false → word_of k p ≡ mark k
plain_word k p e = go (eqb k name_kind) (eqb k number_kind) (eqb k decimal_kind) e
  where
    Is : Bool → Type 0
    Is true = Unit {0}
    Is false = ⊥

    no_way : true ≡ false → ⊥
    no_way e = subst Is e tt

    go : (x y z : Bool) → cond x true (cond y true z) ≡ false → cond x (name p) (cond y (number p) (cond z (Word.decimal p) (mark k))) ≡ mark k
    go true y z e = absurd (no_way e)
    go false true z e = absurd (no_way e)
    go false false true e = absurd (no_way e)
    go false false false e = refl

-- a choice by a test on the kind
pub choose : {N : Type 0} (P : N → Type 0) (k j : ℕ) {a b : N} → (k ≡ j → P a) → P b → P (cond (eqb k j) a b)
choose P k j {a} {b} f g = go (eqb k j) refl
  where
    go : (x : Bool) → eqb k j ≡ x → P (cond x a b)
    go true e = f (eqb-true _ _ e)
    go false e = g

module _ (M : Type 0) (act : Act → M → M) where
  -- The stack s may spell the words ws, and their reading takes the memory m to m'.
  pub data Derives : List Sym → M → List Word → M → Type 0 where
    done : {m : M} → Derives [] m [] m
    token : {k : ℕ} {s : List Sym} {m m' : M} {ws : List Word} → Derives s m ws m' → Derives (want k ∷ s) m (mark k ∷ ws) m'
    does : {a : Act} {s : List Sym} {m m' : M} {ws : List Word} → Derives s (act a m) ws m' → Derives (doing a ∷ s) m ws m'
    not : {d : ℕ} {s : List Sym} {m m' : M} {ws : List Word} → Derives (unit (deeper d) ∷ doing (out (alone Kind.negation)) ∷ s) (act (enter (deeper d)) m) ws m' → Derives (unit d ∷ s) m (mark bang ∷ ws) m'
    group : {d : ℕ} {s : List Sym} {m m' : M} {ws : List Word} → Derives (condition (deeper d) (want close_brace ∷ s)) (act (enter (deeper d)) m) ws m' → Derives (unit d ∷ s) m (mark open_brace ∷ ws) m'
    relation : {d : ℕ} {s : List Sym} {m m' : M} {ws : List Word} → Derives (sum d (rel d ∷ s)) m ws m' → Derives (unit d ∷ s) m ws m'
    compare : {d : ℕ} {s : List Sym} {m m' : M} {ws : List Word} (c : Rel) → Derives (sum d (doing (out (alone (Kind.relation (relation_of c)))) ∷ s)) m ws m' → Derives (rel d ∷ s) m (mark (rel_mark c) ∷ ws) m'
    and-more : {d : ℕ} {s : List Sym} {m m' : M} {ws : List Word} → Derives (unit d ∷ doing (out (alone (Kind.connective Connective.and))) ∷ ands d ∷ s) m ws m' → Derives (ands d ∷ s) m (mark ampersands_kind ∷ ws) m'
    and_none : {d : ℕ} {s : List Sym} {m m' : M} {ws : List Word} → Derives s m ws m' → Derives (ands d ∷ s) m ws m'
    or-more : {d : ℕ} {s : List Sym} {m m' : M} {ws : List Word} → Derives (conj d (doing (out (alone (Kind.connective Connective.or))) ∷ ors d ∷ s)) m ws m' → Derives (ors d ∷ s) m (mark bars_kind ∷ ws) m'
    or-none : {d : ℕ} {s : List Sym} {m m' : M} {ws : List Word} → Derives s m ws m' → Derives (ors d ∷ s) m ws m'
    implies : {d : ℕ} {s : List Sym} {m m' : M} {ws : List Word} → Derives (condition (deeper d) (doing (out (alone (Kind.connective Connective.implies))) ∷ s)) (act (enter (deeper d)) m) ws m' → Derives (arrow d ∷ s) m (mark arrow_kind ∷ ws) m'
    implies-none : {d : ℕ} {s : List Sym} {m m' : M} {ws : List Word} → Derives s m ws m' → Derives (arrow d ∷ s) m ws m'
    add-more : {d : ℕ} {s : List Sym} {m m' : M} {ws : List Word} (g : Sign) → Derives (prod d (doing (out (alone (Kind.arithmetic (sign_of g)))) ∷ adds d ∷ s)) m ws m' → Derives (adds d ∷ s) m (mark (sign_mark g) ∷ ws) m'
    add_none : {d : ℕ} {s : List Sym} {m m' : M} {ws : List Word} → Derives s m ws m' → Derives (adds d ∷ s) m ws m'
    mul_more : {d : ℕ} {s : List Sym} {m m' : M} {ws : List Word} → Derives (factor d ∷ doing (out (alone (Kind.arithmetic Arithmetic.multiply))) ∷ muls d ∷ s) m ws m' → Derives (muls d ∷ s) m (mark star ∷ ws) m'
    mul_none : {d : ℕ} {s : List Sym} {m m' : M} {ws : List Word} → Derives s m ws m' → Derives (muls d ∷ s) m ws m'
    literal : {d : ℕ} {s : List Sym} {m m' : M} {ws : List Word} (p : Place) → Derives s (act (out (lit p)) (act (sized OfLiteral p) m)) ws m' → Derives (factor d ∷ s) m (number p ∷ ws) m'
    decimal : {d : ℕ} {s : List Sym} {m m' : M} {ws : List Word} (p : Place) → Derives s (act (out (lit p)) (act (sized OfLiteral p) m)) ws m' → Derives (factor d ∷ s) m (Word.decimal p ∷ ws) m'
    var : {d : ℕ} {s : List Sym} {m m' : M} {ws : List Word} → Derives s (act (out index_var) m) ws m' → Derives (factor d ∷ s) m (mark index_kind ∷ ws) m'
    parens : {d : ℕ} {s : List Sym} {m m' : M} {ws : List Word} → Derives (sum (deeper d) (want close_paren ∷ s)) (act (enter (deeper d)) m) ws m' → Derives (factor d ∷ s) m (mark open_paren ∷ ws) m'
    absolute : {d : ℕ} {s : List Sym} {m m' : M} {ws : List Word} → Derives (want open_paren ∷ sum (deeper d) (want close_paren ∷ doing (out (alone Kind.absolute)) ∷ s)) (act (enter (deeper d)) m) ws m' → Derives (factor d ∷ s) m (mark abs_kind ∷ ws) m'
    reference : {d : ℕ} {s : List Sym} {m m' : M} {ws : List Word} (p : Place) → Derives (want open_paren ∷ ref_event p ∷ s) (act (uses Note p) m) ws m' → Derives (factor d ∷ s) m (name p ∷ ws) m'
    event : {n : Place} {s : List Sym} {m m' : M} {ws : List Word} (p : Place) → Derives (want open_bracket ∷ ref_index n p ∷ want close_bracket ∷ want close_paren ∷ s) (act (uses Event p) m) ws m' → Derives (ref_event n ∷ s) m (name p ∷ ws) m'
    multiplied : {n e : Place} {s : List Sym} {m m' : M} {ws : List Word} (p : Place) → Derives (want star ∷ want index_kind ∷ ref_shift n e (Times p) ∷ s) (act (sized OfFactor p) m) ws m' → Derives (ref_index n e ∷ s) m (number p ∷ ws) m'
    unmultiplied : {n e : Place} {s : List Sym} {m m' : M} {ws : List Word} → Derives (ref_shift n e Once ∷ s) m ws m' → Derives (ref_index n e ∷ s) m (mark index_kind ∷ ws) m'
    shifted : {n e : Place} {f : Multiple} {s : List Sym} {m m' : M} {ws : List Word} (g : Sign) → Derives (ref_by n e f g ∷ s) m ws m' → Derives (ref_shift n e f ∷ s) m (mark (sign_mark g) ∷ ws) m'
    shift_none : {n e : Place} {f : Multiple} {s : List Sym} {m m' : M} {ws : List Word} → Derives s (act (out (ref n e f Unshifted)) m) ws m' → Derives (ref_shift n e f ∷ s) m ws m'
    by_number : {n e : Place} {f : Multiple} {g : Sign} {s : List Sym} {m m' : M} {ws : List Word} (p : Place) → Derives s (act (out (ref n e f (By g p))) (act (sized OfOffset p) m)) ws m' → Derives (ref_by n e f g ∷ s) m (number p ∷ ws) m'
    named : {r : Role} {s : List Sym} {m m' : M} {ws : List Word} (p : Place) → Derives s (act (declare r p) m) ws m' → Derives (name_of r ∷ s) m (name p ∷ ws) m'
    name-more : {r : Role} {s : List Sym} {m m' : M} {ws : List Word} (p : Place) → Derives (names_of r ∷ s) (act (declare r p) m) ws m' → Derives (names_of r ∷ s) m (name p ∷ ws) m'
    name-none : {r : Role} {s : List Sym} {m m' : M} {ws : List Word} → Derives s m ws m' → Derives (names_of r ∷ s) m ws m'
    scaled : {s : List Sym} {m m' : M} {ws : List Word} → Derives (clause_number ∷ want semicolon ∷ s) m ws m' → Derives (clause ∷ s) m (mark scale_kind ∷ ws) m'
    unscaled : {s : List Sym} {m m' : M} {ws : List Word} → Derives s m ws m' → Derives (clause ∷ s) m ws m'
    scale-number : {s : List Sym} {m m' : M} {ws : List Word} (p : Place) → Derives s (act (out (head p)) (act (sized OfClause p) m)) ws m' → Derives (clause_number ∷ s) m (number p ∷ ws) m'

  -- ---- each stack derives something
  nowhere : Place
  nowhere = record { start = 0; end = 0 }

  Some : List Sym → M → Type 0
  Some s m = (ws : List Word) × (m' : M) × Derives s m ws m'

  pub some : (s : List Sym) (m : M) → (ws : List Word) × (m' : M) × Derives s m ws m'
  some [] m = ([], m, done)
  some (unit d ∷ s) m = let (ws, m', g) = some s _ in (_, m', relation (var (mul_none (add_none (compare equal (var (mul_none (add_none (does g)))))))))
  some (ands d ∷ s) m = let (ws, m', g) = some s m in (_, m', and_none g)
  some (ors d ∷ s) m = let (ws, m', g) = some s m in (_, m', or-none g)
  some (arrow d ∷ s) m = let (ws, m', g) = some s m in (_, m', implies-none g)
  some (factor d ∷ s) m = let (ws, m', g) = some s _ in (_, m', var g)
  some (muls d ∷ s) m = let (ws, m', g) = some s m in (_, m', mul_none g)
  some (adds d ∷ s) m = let (ws, m', g) = some s m in (_, m', add_none g)
  some (rel d ∷ s) m = let (ws, m', g) = some s _ in (_, m', compare equal (var (mul_none (add_none (does g)))))
  some (want k ∷ s) m = let (ws, m', g) = some s m in (_, m', token g)
  some (name_of r ∷ s) m = let (ws, m', g) = some s _ in (_, m', named nowhere g)
  some (names_of r ∷ s) m = let (ws, m', g) = some s m in (_, m', name-none g)
  some (clause ∷ s) m = let (ws, m', g) = some s m in (_, m', unscaled g)
  some (clause_number ∷ s) m = let (ws, m', g) = some s _ in (_, m', scale-number nowhere g)
  some (ref_event n ∷ s) m = let (ws, m', g) = some s _ in (_, m', event nowhere (token (unmultiplied (shift_none (token (token g))))))
  some (ref_index n e ∷ s) m = let (ws, m', g) = some s _ in (_, m', unmultiplied (shift_none g))
  some (ref_shift n e f ∷ s) m = let (ws, m', g) = some s _ in (_, m', shift_none g)
  some (ref_by n e f g ∷ s) m = let (ws, m', h) = some s _ in (_, m', by_number nowhere h)
  some (doing a ∷ s) m = let (ws, m', g) = some s _ in (_, m', does g)

  -- ---- stacks on which the machine's choice is the only one
  abbrev pub Clear : ℕ → List Sym → Type 0
  Clear k s = (m : M) (p : Place) → step M act s m k p ≡ stuck

  abbrev pub Arith : List Sym → Type 0
  Arith s = Clear 42 s × Clear 43 s × Clear 45 s

  abbrev pub Good : List Sym → Type 0
  Good [] = Unit
  Good (unit d ∷ s) = Arith s × Good s
  Good (ands d ∷ s) = Arith s × Clear 132 s × Good s
  Good (ors d ∷ s) = Arith s × Clear 132 s × Clear 131 s × Good s
  Good (arrow d ∷ s) = Arith s × Clear 132 s × Clear 131 s × Clear 130 s × Good s
  Good (factor d ∷ s) = Good s
  Good (muls d ∷ s) = Clear 42 s × Good s
  Good (adds d ∷ s) = Arith s × Good s
  Good (rel d ∷ s) = Arith s × Good s
  Good (want k ∷ s) = (is_leaf k ≡ false) × Good s
  Good (name_of r ∷ s) = Good s
  Good (names_of r ∷ s) = Clear 1 s × Good s
  Good (clause ∷ s) = Clear 8 s × Good s
  Good (clause_number ∷ s) = Good s
  Good (ref_event n ∷ s) = Good s
  Good (ref_index n e ∷ s) = Clear 43 s × Clear 45 s × Good s
  Good (ref_shift n e f ∷ s) = Clear 43 s × Clear 45 s × Good s
  Good (ref_by n e f g ∷ s) = Good s
  Good (doing a ∷ s) = Good s

  -- the same after a symbol that is passed over
  good-sum : (d : ℕ) (s : List Sym) → Arith s → Good s → Good (sum d s)
  unfolding step
  good-sum d s a g = ((λ m p. a.0 m p), (a, g))

  good-prod : (d : ℕ) (s : List Sym) → Clear 42 s → Good s → Good (prod d s)
  good-prod d s a g = (a, g)

  good-cond : (d : ℕ) (s : List Sym) → Arith s → Clear 132 s → Clear 131 s → Clear 130 s → Good s → Good (condition d s)
  unfolding step
  good-cond d s a x y z g = (
    ((λ m p. a.0 m p), (λ m p. a.1 m p), (λ m p. a.2 m p)),
    (
      ((λ m p. a.0 m p), (λ m p. a.1 m p), (λ m p. a.2 m p)),
      (λ m p. x m p),
      (((λ m p. a.0 m p), (λ m p. a.1 m p), (λ m p. a.2 m p)), (λ m p. x m p), (λ m p. y m p), (a, x, y, z, g)),
    ),
  )

  -- after an act
  acted : (a : Act) (s : List Sym) → Arith s → Arith (doing a ∷ s)
  unfolding step
  acted a s x = ((λ m p. x.0 _ p), (λ m p. x.1 _ p), (λ m p. x.2 _ p))

  acted₁ : (a : Act) (k : ℕ) (s : List Sym) → Clear k s → Clear k (doing a ∷ s)
  unfolding step
  acted₁ a k s x = λ m p. x _ p

  -- ---- soundness of a step: what follows it, the grammar allows; and the stack that it leads to is good again
  abbrev pub Fine : List Sym → M → ℕ → Place → Next M → Type 0
  Fine s m k p stuck = Unit
  Fine s m k p (on s₁ m₁) = Good s → Good s₁ × ((ws : List Word) (m' : M) → Derives s₁ m₁ ws m' → Derives s m (word_of k p ∷ ws) m')

  -- from a stack below
  pass : (s s₀ : List Sym) (m m₀ : M) (k : ℕ) (p : Place) (x : Next M) → (Good s → Good s₀) → ((ws : List Word) (m' : M) → Derives s₀ m₀ ws m' → Derives s m ws m') → Fine s₀ m₀ k p x → Fine s m k p x
  pass s s₀ m m₀ k p stuck f h i = tt
  pass s s₀ m m₀ k p (on s₁ m₁) f h i = λ g. let r = i (f g) in (r.0, λ ws m' y. h _ m' (r.1 ws m' y))

  fine-factor : (d : ℕ) (s : List Sym) (m : M) (k : ℕ) (p : Place) → Fine (factor d ∷ s) m k p (start_factor M act d m k p s)
  unfolding start_factor step
  fine-factor d s m k p =
      choose F k number_kind (λ e g. (g, λ ws m' h. rw e (literal p h)))
      (choose F k decimal_kind (λ e g. (g, λ ws m' h. rw e (decimal p h)))
      (choose F k index_kind (λ e g. (g, λ ws m' h. rw e (var h)))
      (choose F k open_paren (λ e g. (good-sum (deeper d) (want close_paren ∷ s) ((λ m p. refl), (λ m p. refl), (λ m p. refl)) (refl, g), λ ws m' h. rw e (parens h)))
      (choose F k abs_kind (λ e g. ((refl, good-sum (deeper d) (want close_paren ∷ doing (out (alone Kind.absolute)) ∷ s) ((λ m p. refl), (λ m p. refl), (λ m p. refl)) (refl, g)), λ ws m' h. rw e (absolute h)))
      (choose F k name_kind (λ e g. ((refl, g), λ ws m' h. rw e (reference p h))) tt)))))
    where
      F : Next M → Type 0
      F = Fine (factor d ∷ s) m k p

  pub fine : (s : List Sym) (m : M) (k : ℕ) (p : Place) → Fine s m k p (step M act s m k p)
  unfolding step
  fine [] m k p = tt
  fine (unit d ∷ s) m k p =
      choose (Fine (unit d ∷ s) m k p) k bang (λ e g. ((acted (out (alone Kind.negation)) s g.0, g.1), λ ws m' h. rw e (not h)))
      (choose (Fine (unit d ∷ s) m k p) k open_brace (λ e g. (good-cond (deeper d) (want close_brace ∷ s) ((λ m p. refl), (λ m p. refl), (λ m p. refl)) (λ m p. refl) (λ m p. refl) (λ m p. refl) (refl, g.1), λ ws m' h. rw e (group h)))
      (pass (unit d ∷ s) (sum d (rel d ∷ s)) m m k p (start_factor M act d m k p (muls d ∷ adds d ∷ rel d ∷ s)) (λ g. good-sum d (rel d ∷ s) ((λ m p. refl), (λ m p. refl), (λ m p. refl)) g) (λ ws m' h. relation h) (fine-factor d (muls d ∷ adds d ∷ rel d ∷ s) m k p)))
  fine (ands d ∷ s) m k p =
      choose (Fine (ands d ∷ s) m k p) k ampersands_kind (λ e g. ((acted (out (alone (Kind.connective Connective.and))) (ands d ∷ s) ((λ m p. g.0.0 m p), (λ m p. g.0.1 m p), (λ m p. g.0.2 m p)), g), λ ws m' h. rw e (and-more h)))
      (pass (ands d ∷ s) s m m k p (step M act s m k p) (λ g. g.2) (λ ws m' h. and_none h) (fine s m k p))
  fine (ors d ∷ s) m k p =
      choose (Fine (ors d ∷ s) m k p) k bars_kind
      (λ e g. let a : Arith (doing (out (alone (Kind.connective Connective.or))) ∷ ors d ∷ s) = ((λ m p. g.0.0 _ p), (λ m p. g.0.1 _ p), (λ m p. g.0.2 _ p)) in
      ((((λ m p. a.0 m p), (λ m p. a.1 m p), (λ m p. a.2 m p)), (a, (λ m p. g.1 _ p), g)), λ ws m' h. rw e (or-more h)))
      (pass (ors d ∷ s) s m m k p (step M act s m k p) (λ g. g.3) (λ ws m' h. or-none h) (fine s m k p))
  fine (arrow d ∷ s) m k p =
      choose (Fine (arrow d ∷ s) m k p) k arrow_kind
      (λ e g. (good-cond (deeper d) (doing (out (alone (Kind.connective Connective.implies))) ∷ s) ((λ m p. g.0.0 _ p), (λ m p. g.0.1 _ p), (λ m p. g.0.2 _ p)) (λ m p. g.1 _ p) (λ m p. g.2 _ p) (λ m p. g.3 _ p) g.4, λ ws m' h. rw e (implies h)))
      (pass (arrow d ∷ s) s m m k p (step M act s m k p) (λ g. g.4) (λ ws m' h. implies-none h) (fine s m k p))
  fine (factor d ∷ s) m k p = fine-factor d s m k p
  fine (muls d ∷ s) m k p =
      choose (Fine (muls d ∷ s) m k p) k star (λ e g. (g, λ ws m' h. rw e (mul_more h)))
      (pass (muls d ∷ s) s m m k p (step M act s m k p) (λ g. g.1) (λ ws m' h. mul_none h) (fine s m k p))
  fine (adds d ∷ s) m k p =
      choose (Fine (adds d ∷ s) m k p) k plus_mark (λ e g. (((λ m p. g.0.0 _ p), g), λ ws m' h. rw e (add-more Plus h)))
      (choose (Fine (adds d ∷ s) m k p) k minus_mark (λ e g. (((λ m p. g.0.0 _ p), g), λ ws m' h. rw e (add-more Minus h)))
      (pass (adds d ∷ s) s m m k p (step M act s m k p) (λ g. g.1) (λ ws m' h. add_none h) (fine s m k p)))
  fine (rel d ∷ s) m k p =
      choose F k equal_mark (λ e g. (after _ g, λ ws m' h. rw e (compare equal h)))
      (choose F k unequal_kind (λ e g. (after _ g, λ ws m' h. rw e (compare unequal h)))
      (choose F k less_mark (λ e g. (after _ g, λ ws m' h. rw e (compare less h)))
      (choose F k at_most_kind (λ e g. (after _ g, λ ws m' h. rw e (compare at_most h)))
      (choose F k more_mark (λ e g. (after _ g, λ ws m' h. rw e (compare more h)))
      (choose F k at_least_kind (λ e g. (after _ g, λ ws m' h. rw e (compare at_least h))) tt)))))
    where
      F : Next M → Type 0
      F = Fine (rel d ∷ s) m k p

      after : (a : Act) → Arith s × Good s → Good (sum d (doing a ∷ s))
      after a g = good-sum d (doing a ∷ s) (acted a s g.0) g.1
  fine (want x ∷ s) m k p = choose (Fine (want x ∷ s) m k p) k x (λ e g. (g.1, λ ws m' h. rw (e, plain_word x p g.0) (token h))) tt
  fine (name_of r ∷ s) m k p = choose (Fine (name_of r ∷ s) m k p) k name_kind (λ e g. (g, λ ws m' h. rw e (named p h))) tt
  fine (names_of r ∷ s) m k p =
      choose (Fine (names_of r ∷ s) m k p) k name_kind (λ e g. (g, λ ws m' h. rw e (name-more p h)))
      (pass (names_of r ∷ s) s m m k p (step M act s m k p) (λ g. g.1) (λ ws m' h. name-none h) (fine s m k p))
  fine (clause ∷ s) m k p =
      choose (Fine (clause ∷ s) m k p) k scale_kind (λ e g. ((refl, g.1), λ ws m' h. rw e (scaled h)))
      (pass (clause ∷ s) s m m k p (step M act s m k p) (λ g. g.1) (λ ws m' h. unscaled h) (fine s m k p))
  fine (clause_number ∷ s) m k p = choose (Fine (clause_number ∷ s) m k p) k number_kind (λ e g. (g, λ ws m' h. rw e (scale-number p h))) tt
  fine (ref_event n ∷ s) m k p = choose (Fine (ref_event n ∷ s) m k p) k name_kind (λ e g. ((refl, ((λ m p. refl), (λ m p. refl), (refl, (refl, g)))), λ ws m' h. rw e (event p h))) tt
  fine (ref_index n x ∷ s) m k p =
      choose (Fine (ref_index n x ∷ s) m k p) k number_kind (λ e g. ((refl, (refl, g)), λ ws m' h. rw e (multiplied p h)))
      (choose (Fine (ref_index n x ∷ s) m k p) k index_kind (λ e g. (g, λ ws m' h. rw e (unmultiplied h))) tt)
  fine (ref_shift n x f ∷ s) m k p =
      choose (Fine (ref_shift n x f ∷ s) m k p) k plus_mark (λ e g. (g.2, λ ws m' h. rw e (shifted Plus h)))
      (choose (Fine (ref_shift n x f ∷ s) m k p) k minus_mark (λ e g. (g.2, λ ws m' h. rw e (shifted Minus h)))
      (pass (ref_shift n x f ∷ s) s m (act (out (ref n x f Unshifted)) m) k p (step M act s (act (out (ref n x f Unshifted)) m) k p) (λ g. g.2) (λ ws m' h. shift_none h) (fine s (act (out (ref n x f Unshifted)) m) k p)))
  fine (ref_by n x f q ∷ s) m k p = choose (Fine (ref_by n x f q ∷ s) m k p) k number_kind (λ e g. (g, λ ws m' h. rw e (by_number p h))) tt
  fine (doing a ∷ s) m k p = pass (doing a ∷ s) s m (act a m) k p (step M act s (act a m) k p) (λ g. g) (λ ws m' h. does h) (fine s (act a m) k p)

  -- ---- completeness of a step: what the grammar allows, the machine takes
  abbrev pub Takes : Next M → List Word → M → Type 0
  Takes stuck ws m' = ⊥
  Takes (on s m) ws m' = Derives s m ws m'

  abbrev taking : List Word → M → Next M → Type 0
  taking ws m' x = Takes x ws m'

  over : (P : Next M → Type 0) → (P stuck → ⊥) → (k j : ℕ) (a : Next M) {b : Next M} → (k ≡ j → b ≡ stuck) → P b → P (cond (eqb k j) a b)
  over P no-stuck k j a f t = choose P k j (λ e. absurd (no-stuck (subst P (f e) t))) t

  -- what is clear of a kind is stuck on a token of that kind
  clear : (k j : ℕ) (s : List Sym) (m : M) (p : Place) → Clear j s → k ≡ j → step M act s m k p ≡ stuck
  clear k j s m p c e = rw e (c m p)

  pub complete : {s : List Sym} {m m' : M} {w : Word} {ws : List Word} → Derives s m (w ∷ ws) m' → Good s → (k : ℕ) (p : Place) → word_of k p ≡ w → Takes (step M act s m k p) ws m'
  unfolding step start_factor
  complete (token g) gd k p e = rw (matches k p e, eq-eqb _ _ refl) g
  complete (does g) gd k p e = complete g gd k p e
  complete (not g) gd k p e = rw (matches k p e) g
  complete (group g) gd k p e = rw (matches k p e) g
  complete {m' = m'} {ws = ws} (relation {d} {s} g) gd k p e =
      over (taking ws m') (λ x. x) k 33 _ (λ e. rw e) (over (taking ws m') (λ x. x) k 123 _ (λ e. rw e) (complete g (good-sum d (rel d ∷ s) ((λ m p. refl), (λ m p. refl), (λ m p. refl)) gd) k p e))
  complete (compare equal g) gd k p e = rw (matches k p e) g
  complete (compare unequal g) gd k p e = rw (matches k p e) g
  complete (compare less g) gd k p e = rw (matches k p e) g
  complete (compare at_most g) gd k p e = rw (matches k p e) g
  complete (compare more g) gd k p e = rw (matches k p e) g
  complete (compare at_least g) gd k p e = rw (matches k p e) g
  complete (and-more g) gd k p e = rw (matches k p e) g
  complete {m = m} {m' = m'} {ws = ws} (and_none {s = s} g) gd k p e = over (taking ws m') (λ x. x) k 132 _ (clear k 132 s m p gd.1) (complete g gd.2 k p e)
  complete (or-more g) gd k p e = rw (matches k p e) g
  complete {m = m} {m' = m'} {ws = ws} (or-none {s = s} g) gd k p e = over (taking ws m') (λ x. x) k 131 _ (clear k 131 s m p gd.2) (complete g gd.3 k p e)
  complete (implies g) gd k p e = rw (matches k p e) g
  complete {m = m} {m' = m'} {ws = ws} (implies-none {s = s} g) gd k p e = over (taking ws m') (λ x. x) k 130 _ (clear k 130 s m p gd.3) (complete g gd.4 k p e)
  complete (add-more Plus g) gd k p e = rw (matches k p e) g
  complete (add-more Minus g) gd k p e = rw (matches k p e) g
  complete {m = m} {m' = m'} {ws = ws} (add_none {s = s} g) gd k p e =
      over (taking ws m') (λ x. x) k 43 _ (λ q. rw q (gd.0.1 m p)) (over (taking ws m') (λ x. x) k 45 _ (clear k 45 s m p gd.0.2) (complete g gd.1 k p e))
  complete (mul_more g) gd k p e = rw (matches k p e) g
  complete {m = m} {m' = m'} {ws = ws} (mul_none {s = s} g) gd k p e = over (taking ws m') (λ x. x) k 42 _ (clear k 42 s m p gd.0) (complete g gd.1 k p e)
  complete (literal q g) gd k p e = let (a, b) = matches k p e in rw (a, b) g
  complete (decimal q g) gd k p e = let (a, b) = matches k p e in rw (a, b) g
  complete (var g) gd k p e = rw (matches k p e) g
  complete (parens g) gd k p e = rw (matches k p e) g
  complete (absolute g) gd k p e = rw (matches k p e) g
  complete (reference q g) gd k p e = let (a, b) = matches k p e in rw (a, b) g
  complete (event q g) gd k p e = let (a, b) = matches k p e in rw (a, b) g
  complete (multiplied q g) gd k p e = let (a, b) = matches k p e in rw (a, b) g
  complete (unmultiplied g) gd k p e = rw (matches k p e) g
  complete (shifted Plus g) gd k p e = rw (matches k p e) g
  complete (shifted Minus g) gd k p e = rw (matches k p e) g
  complete {m = m} {m' = m'} {ws = ws} (shift_none {s = s} g) gd k p e =
      over (taking ws m') (λ x. x) k 43 _ (λ q. rw q (gd.0 _ p)) (over (taking ws m') (λ x. x) k 45 _ (clear k 45 s _ p gd.1) (complete g gd.2 k p e))
  complete (by_number q g) gd k p e = let (a, b) = matches k p e in rw (a, b) g
  complete (named q g) gd k p e = let (a, b) = matches k p e in rw (a, b) g
  complete (name-more q g) gd k p e = let (a, b) = matches k p e in rw (a, b) g
  complete {m = m} {m' = m'} {ws = ws} (name-none {s = s} g) gd k p e = over (taking ws m') (λ x. x) k 1 _ (clear k 1 s m p gd.0) (complete g gd.1 k p e)
  complete (scaled g) gd k p e = rw (matches k p e) g
  complete {m = m} {m' = m'} {ws = ws} (unscaled {s = s} g) gd k p e = over (taking ws m') (λ x. x) k 8 _ (clear k 8 s m p gd.0) (complete g gd.1 k p e)
  complete (scale-number q g) gd k p e = let (a, b) = matches k p e in rw (a, b) g

  pub good_start : Good start
  unfolding step start_factor
  good_start =
      (refl, ((λ m p. refl), (refl, (refl, ((λ m p. refl), (refl, ((λ m p. refl), good-cond 0 [] ((λ m p. refl), (λ m p. refl), (λ m p. refl)) (λ m p. refl) (λ m p. refl) (λ m p. refl) tt)))))))

  pub good-cond-only : (d : ℕ) → Good (condition d [])
  unfolding step start_factor
  good-cond-only d = good-cond d [] ((λ m p. refl), (λ m p. refl), (λ m p. refl)) (λ m p. refl) (λ m p. refl) (λ m p. refl) tt
