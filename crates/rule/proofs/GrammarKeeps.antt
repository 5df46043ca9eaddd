-- What the acts at each token keep, the machine's answer keeps. Assumes nothing.
use mathlib.Core.Path.{◌≡◌, refl}
use mathlib.Core.Logic.{◌⊎◌, inl, inr}
use mathlib.Core.List.{List, [], ◌∷◌}
use Prim.Native.Nat.{ℕ}
use Rattle.rule.specs.Frames.{Kind}
use Rattle.rule.specs.Token.{name_kind, number_kind, decimal_kind, scale_kind, index_kind, abs_kind, arrow_kind, bars_kind, ampersands_kind}
use Rattle.rule.specs.Class.{bang, open_brace, open_paren, star}
use Rattle.rule.specs.Grammar.{rel_mark, rels, sign_mark, signs, by_mark, place}
use Rattle.rule.specs.Draft.{Draft, head, lit, index_var, ref, alone, relation_of, sign_of}
use Rattle.rule.specs.Machine.{Act, declare, uses, sized, enter, out, deeper, Sym, unit, ands, ors, arrow, factor, muls, adds, rel, want, name_of, names_of, clause, clause_number, ref_event, ref_index, ref_shift, ref_by, doing, prod, sum, Next, stuck, on, MachineAnswer, accepted, refused, resume, start_factor, step, finish, run}
use Rattle.rule.specs.declared.Token.{Token}
use Rattle.rule.specs.declared.parts.Place.{Place}
use Rattle.rule.specs.declared.parts.Role.TheVariants.{Event, Note}
use Rattle.rule.specs.declared.parts.Limit.{Limit}
use Rattle.rule.specs.declared.parts.Limit.TheVariants.{OfClause, OfLiteral, OfFactor, OfOffset}
use Rattle.rule.specs.declared.parts.Shift.TheVariants.{Unshifted, By}
use Rattle.rule.proofs.GrammarDerivations.{choose}
use Rattle.rule.proofs.FrameDrafts.{All}

-- the kinds of token that a number may be: a literal may be a decimal
abbrev pub Numeral : Limit → ℕ → Type 0
Numeral OfClause k = k ≡ number_kind
Numeral OfLiteral k = (k ≡ number_kind) ⊎ (k ≡ decimal_kind)
Numeral OfFactor k = k ≡ number_kind
Numeral OfOffset k = k ≡ number_kind

-- the acts that a token of kind k, at p, may lead to: a name or a number is that token
abbrev pub At : ℕ → Place → Act → Type 0
At k p (declare r q) = (k ≡ name_kind) × (q ≡ p)
At k p (uses r q) = (k ≡ name_kind) × (q ≡ p)
At k p (sized l q) = Numeral l k × (q ≡ p)
At k p (enter d) = Unit
At k p (out f) = Unit

-- an act that waits on a stack puts a frame
abbrev Is-out : Act → Type 0
Is-out (declare r p) = ⊥
Is-out (uses r p) = ⊥
Is-out (sized l p) = ⊥
Is-out (enter d) = ⊥
Is-out (out f) = Unit

out_at : (k : ℕ) (p : Place) (a : Act) → Is-out a → At k p a
out_at k p (declare _ _) o = elim o [ ]
out_at k p (uses _ _) o = elim o [ ]
out_at k p (sized _ _) o = elim o [ ]
out_at k p (enter _) o = elim o [ ]
out_at k p (out f) o = tt

abbrev pub Outs : List Sym → Type 0
Outs [] = Unit
Outs (unit d ∷ s) = Outs s
Outs (ands d ∷ s) = Outs s
Outs (ors d ∷ s) = Outs s
Outs (arrow d ∷ s) = Outs s
Outs (factor d ∷ s) = Outs s
Outs (muls d ∷ s) = Outs s
Outs (adds d ∷ s) = Outs s
Outs (rel d ∷ s) = Outs s
Outs (want k ∷ s) = Outs s
Outs (name_of r ∷ s) = Outs s
Outs (names_of r ∷ s) = Outs s
Outs (clause ∷ s) = Outs s
Outs (clause_number ∷ s) = Outs s
Outs (ref_event e ∷ s) = Outs s
Outs (ref_index e i ∷ s) = Outs s
Outs (ref_shift e i f ∷ s) = Outs s
Outs (ref_by e i f g ∷ s) = Outs s
Outs (doing a ∷ s) = Is-out a × Outs s

-- a choice by marks
mark-keeps : {A N : Type 0} (P : N → Type 0) (its : A → ℕ) (k : ℕ) (f : A → N) (z : N) (xs : List A) → ((x : A) → P (f x)) → P z → P (by_mark its k f z xs)
mark-keeps P its k f z [] h q = q
mark-keeps P its k f z (x ∷ xs) h q = choose P k (its x) (λ e. h x) (mark-keeps P its k f z xs h q)

module _ (M : Type 0) (act : Act → M → M) (P : M → Type 0) where
  abbrev Ok : Next M → Type 0
  Ok stuck = Unit
  Ok (on s m) = Outs s × P m

  module _ (k : ℕ) (p : Place) (keep : (a : Act) → At k p a → (m : M) → P m → P (act a m)) where
    factor-keeps : (d : ℕ) (s : List Sym) (m : M) → Outs s → P m → Ok (start_factor M act d m k p s)
    unfolding start_factor
    factor-keeps d s m o h =
        choose Ok k number_kind (λ e. (o, keep (out (lit p)) tt _ (keep (sized OfLiteral p) (inl e, refl) m h)))
        (choose Ok k decimal_kind (λ e. (o, keep (out (lit p)) tt _ (keep (sized OfLiteral p) (inr e, refl) m h)))
        (choose Ok k index_kind (λ e. (o, keep (out index_var) tt m h))
        (choose Ok k open_paren (λ e. (o, keep (enter (deeper d)) tt m h))
        (choose Ok k abs_kind (λ e. ((tt, o), keep (enter (deeper d)) tt m h))
        (choose Ok k name_kind (λ e. (o, keep (uses Note p) (e, refl) m h)) tt)))))

    step_keeps : (s : List Sym) (m : M) → Outs s → P m → Ok (step M act s m k p)
    unfolding step
    step_keeps [] m o h = tt
    step_keeps (unit d ∷ s) m o h =
        choose Ok k bang (λ e. ((tt, o), keep (enter (deeper d)) tt m h))
        (choose Ok k open_brace (λ e. (o, keep (enter (deeper d)) tt m h)) (factor-keeps d (muls d ∷ adds d ∷ rel d ∷ s) m o h))
    step_keeps (ands d ∷ s) m o h = choose Ok k ampersands_kind (λ e. ((tt, o), h)) (step_keeps s m o h)
    step_keeps (ors d ∷ s) m o h = choose Ok k bars_kind (λ e. ((tt, o), h)) (step_keeps s m o h)
    step_keeps (arrow d ∷ s) m o h = choose Ok k arrow_kind (λ e. ((tt, o), keep (enter (deeper d)) tt m h)) (step_keeps s m o h)
    step_keeps (factor d ∷ s) m o h = factor-keeps d s m o h
    step_keeps (muls d ∷ s) m o h = choose Ok k star (λ e. ((tt, o), h)) (step_keeps s m o h)
    step_keeps (adds d ∷ s) m o h =
        mark-keeps Ok sign_mark k (λ g. on (prod d (doing (out (alone (Kind.arithmetic (sign_of g)))) ∷ adds d ∷ s)) m) (step M act s m k p) signs (λ g. ((tt, o), h)) (step_keeps s m o h)
    step_keeps (rel d ∷ s) m o h = mark-keeps Ok rel_mark k (λ c. on (sum d (doing (out (alone (Kind.relation (relation_of c)))) ∷ s)) m) stuck rels (λ c. ((tt, o), h)) tt
    step_keeps (want x ∷ s) m o h = choose Ok k x (λ e. (o, h)) tt
    step_keeps (name_of r ∷ s) m o h = choose Ok k name_kind (λ e. (o, keep (declare r p) (e, refl) m h)) tt
    step_keeps (names_of r ∷ s) m o h = choose Ok k name_kind (λ e. (o, keep (declare r p) (e, refl) m h)) (step_keeps s m o h)
    step_keeps (clause ∷ s) m o h = choose Ok k scale_kind (λ e. (o, h)) (step_keeps s m o h)
    step_keeps (clause_number ∷ s) m o h = choose Ok k number_kind (λ e. (o, keep (out (head p)) tt _ (keep (sized OfClause p) (e, refl) m h))) tt
    step_keeps (ref_event e ∷ s) m o h = choose Ok k name_kind (λ q. (o, keep (uses Event p) (q, refl) m h)) tt
    step_keeps (ref_index e i ∷ s) m o h = choose Ok k number_kind (λ q. (o, keep (sized OfFactor p) (q, refl) m h)) (choose Ok k index_kind (λ q. (o, h)) tt)
    step_keeps (ref_shift e i f ∷ s) m o h =
        mark-keeps Ok sign_mark k (λ g. on (ref_by e i f g ∷ s) m) (step M act s (act (out (ref e i f Unshifted)) m) k p) signs (λ g. (o, h)) (step_keeps s _ o (keep (out (ref e i f Unshifted)) tt m h))
    step_keeps (ref_by e i f g ∷ s) m o h = choose Ok k number_kind (λ q. (o, keep (out (ref e i f (By g p))) tt _ (keep (sized OfOffset p) (q, refl) m h))) tt
    step_keeps (doing a ∷ s) m o h = step_keeps s _ o.1 (keep a (out_at k p a o.0) m h)

  -- of an answer: its memory, or its place
  abbrev pub Holds : (ℕ → Type 0) → MachineAnswer M → Type 0
  Holds Q (accepted m) = P m
  Holds Q (refused p) = Q p

  -- a token whose acts keep P, at a place of Q
  abbrev pub Keeper : (ℕ → Type 0) → Token → Type 0
  Keeper Q t = Q t.start × ((a : Act) → At t.kind (place t) a → (m : M) → P m → P (act a m))

  module _ (n : ℕ) (Q : ℕ → Type 0) (at_end : Q n) (puts : (f : Draft) (m : M) → P m → P (act (out f) m)) where
    finish-keeps : (s : List Sym) (m : M) → Outs s → P m → Holds Q (finish M act n s m)
    unfolding finish
    finish-keeps [] m o h = h
    finish-keeps (unit d ∷ s) m o h = at_end
    finish-keeps (ands d ∷ s) m o h = finish-keeps s m o h
    finish-keeps (ors d ∷ s) m o h = finish-keeps s m o h
    finish-keeps (arrow d ∷ s) m o h = finish-keeps s m o h
    finish-keeps (factor d ∷ s) m o h = at_end
    finish-keeps (muls d ∷ s) m o h = finish-keeps s m o h
    finish-keeps (adds d ∷ s) m o h = finish-keeps s m o h
    finish-keeps (rel d ∷ s) m o h = at_end
    finish-keeps (want x ∷ s) m o h = at_end
    finish-keeps (name_of r ∷ s) m o h = at_end
    finish-keeps (names_of r ∷ s) m o h = finish-keeps s m o h
    finish-keeps (clause ∷ s) m o h = finish-keeps s m o h
    finish-keeps (clause_number ∷ s) m o h = at_end
    finish-keeps (ref_event e ∷ s) m o h = at_end
    finish-keeps (ref_index e i ∷ s) m o h = at_end
    finish-keeps (ref_shift e i f ∷ s) m o h = finish-keeps s _ o (puts (ref e i f Unshifted) m h)
    finish-keeps (ref_by e i f g ∷ s) m o h = at_end
    finish-keeps (doing (out f) ∷ s) m o h = finish-keeps s _ o.1 (puts f m h)
    finish-keeps (doing (declare r p) ∷ s) m o h = absurd o.0
    finish-keeps (doing (uses r p) ∷ s) m o h = absurd o.0
    finish-keeps (doing (sized l p) ∷ s) m o h = absurd o.0
    finish-keeps (doing (enter d) ∷ s) m o h = absurd o.0

    pub run-keeps : (ts : List Token) → All (Keeper Q) ts → (s : List Sym) (m : M) → Outs s → P m → Holds Q (run M act n s m ts)
    unfolding run
    run-keeps [] ks s m o h = finish-keeps s m o h
    run-keeps (t ∷ ts) ks s m o h = go (run-keeps ts ks.1) (step M act s m t.kind (place t)) (step_keeps t.kind (place t) ks.0.1 s m o h)
      where
        go : ((s' : List Sym) (m' : M) → Outs s' → P m' → Holds Q (run M act n s' m' ts)) → (x : Next M) → Ok x → Holds Q (resume x t.start (λ s' m'. run M act n s' m' ts))
        go ih stuck y = ks.0.0
        go ih (on s' m') y = ih s' m' y.0 y.1
