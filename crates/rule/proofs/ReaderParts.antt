-- Laws of `ReadsPart`: how readers of parts are put together. Assumes nothing.
use mathlib.Core.Path.{◌≡◌, refl, ap, sym, ◌∙◌, subst}
use mathlib.Core.Bool.{Bool, true, false}
use mathlib.Core.List.{List, [], ◌∷◌}
use Prim.Native.Nat.{ℕ, suc, ◌+◌, ◌%◌, ◌≤◌, ◌<◌}
use native.Mathlib.Omega.{arith}
use borrow.Author.Tests.{ne_eqb, eqb-true, eqb-false}
use lib.Dec.{eqb}
use lib.ListN.{length}
use Rattle.std.proofs.Common.{Result, Ok, Err, OnOk, IsErr, IsErrAnd}
use Rattle.rule.specs.Token.{Mode, declares, body, next, scale_kind, clause_at, token_at, token_in, tokens_from}
use Rattle.rule.specs.Class.{semicolon}
use Rattle.rule.specs.Grammar.{place}
use Rattle.rule.specs.Machine.{Act, out, Sym, want, clause, doing, stuck, on, refused, step, finish, run}
use Rattle.rule.specs.Frames.{scale_byte}
use Rattle.rule.specs.Draft.{head, lit, index_var, plain}
use Rattle.rule.specs.Memory.{Mem, acts, with_frame, value_at, decimals_at}
use Rattle.rule.specs.ReadsPart.{run_from, remembered, left, reading, read_on, SameText, ReadsPart, Takes, Recalls, Acts, Stands, Taken, Misses, TookKind, Eats, Inside, Reads, in_declarations, in_clause, in_body}
use Rattle.rule.specs.Reading.{reader_answer}
use Rattle.rule.specs.declared.Token.{Token}
use Rattle.rule.specs.declared.parts.Place.{Place}
use Rattle.rule.specs.declared.text.Unexpected.{Unexpected}
use Rattle.rule.specs.declared.text.Reader.{Reader}
use Rattle.numbers.proofs.Bools.{true-false}
use Rattle.rule.proofs.TokenModes.{never-scale, no_clause}
use Rattle.rule.proofs.TokenLists.{none_left, one_more_lem, moves, spans-of, moves_in, spans_in, at_end_in}

abbrev pub Part : Type 0
Part = List Sym → List Sym

-- the next token of a text stands there
pub stands : (x : Reader) (t : Token) → t ≡ token_at x.points x.text.now x.at → Stands x t
stands x t e =
    let s = spans-of x.points x.text.now x.at t x.within e in
    record { is = e; ends = s.2; begins = s.0; moves = λ h. rw e (moves x.points x.text.now x.at x.within (λ q. some h (ap (λ (z : Token). z.kind) e ∙ q))).0 }
  where
    some : 0 < t.kind → t.kind ≡ 0 → ⊥
    some h q = omega arith

-- what stands next at a mode with points or without
reads_next : {md : Mode} {points : Bool} → Reads md points → (text : List ℕ) (at : ℕ) → token_at points text at ≡ token_in md text at
reads_next in_declarations text at = refl
reads_next in_clause text at = refl
reads_next in_body text at = refl

-- which is the one at the mode
pub stands-in : {md : Mode} {x : Reader} {t : Token} → Reads md x.points → Stands x t → t ≡ token_in md x.text.now x.at
stands-in {x = x} m st = st.is ∙ reads_next m x.text.now x.at

-- no points are taken before the condition
pub in-names : {b : Bool} (n : ℕ) → b ≡ false → Reads (declares (suc n)) b
in-names n e = subst (λ (z : Bool). Reads (declares (suc n)) z) (sym e) in_declarations

pub in-clause : {b : Bool} → b ≡ false → Reads Mode.clause b
in-clause e = subst (λ (z : Bool). Reads Mode.clause z) (sym e) in_clause

-- a token of a list of names does not end it
pub stays : (n k : ℕ) → k < semicolon → next (declares (suc n)) k ≡ declares (suc n)
stays n k h = rw (ne_eqb k semicolon (λ e. omega arith))

run-doing : (text : List ℕ) (a : Act) (s : List Sym) (m : Mem) (n : ℕ) (ts : List Token) → run Mem (acts text) n (doing a ∷ s) m ts ≡ run Mem (acts text) n s (acts text a m) ts
unfolding run step finish
run-doing text a s m n [] = refl
run-doing text a s m n (t ∷ ts) = refl

nearer : (a b c i j k : ℕ) (r : Result Unit Unexpected) → a + i ≤ b → OnOk r (c + j ≤ a) → k ≤ i + j → OnOk r (c + k ≤ b)
nearer a b c i j k (Ok v) h e l = omega arith
nearer a b c i j k (Err v) h e l = tt

-- one part and then another
pub then : {md md' md'' : Mode} {f g : Part} {i j k : ℕ} {x y z : Reader} {u : Unit} {r : Result Unit Unexpected}
    → ReadsPart md md' i f x y (Ok u) → ReadsPart md' md'' j g y z r → k ≤ i + j → ReadsPart md md'' k (λ s. f (g s)) x z r
unfolding read_on
then {g = g} {r = r} a b h = record {
  runs = λ s. a.runs (g s) ∙ b.runs s;
  took = nearer _ _ _ _ _ _ r a.took b.took h;
  same = record { same_text = b.same.same_text ∙ a.same.same_text; same_points = b.same.same_points ∙ a.same.same_points };
}

-- an error that is handed on
handed : (r : Result Unit Unexpected) (e : Unexpected) → IsErr r × IsErrAnd r (λ z. z ≡ e) → Err e ≡ r
handed (Ok u) e h = absurd h.1
handed (Err z) e h = rw h.1

-- the first part stopped
pub stop : {md md' md'' : Mode} {f : Part} (g : Part) {i k : ℕ} {x y : Reader} {e : Unexpected} {r : Result Unit Unexpected}
    → ReadsPart md md' i f x y (Err e) → IsErr r × IsErrAnd r (λ z. z ≡ e) → ReadsPart md md'' k (λ s. f (g s)) x y r
unfolding read_on
stop {md = md} {md'' = md''} {f = f} g {k = k} {x = x} {y = y} {e = e} {r = r} a h = subst (λ (z : Result Unit Unexpected). ReadsPart md md'' k (λ s. f (g s)) x y z) (handed r e h) (record { runs = λ s. a.runs (g s); took = tt; same = a.same })

-- and so did the reader of the whole
pub halted : {md md' : Mode} {f : Part} {i : ℕ} {x y : Reader} {e : Unexpected} (r : Result Unit Unexpected)
    → ReadsPart md md' i f x y (Err e) → IsErr r × IsErrAnd r (λ z. z ≡ e) → (s : List Sym) → reading md x (f s) ≡ reader_answer y r
unfolding read_on
halted {y = y} {e = e} r a h s = a.runs s ∙ ap (reader_answer y) (handed r e h)

-- a part, then an act
pub then-does : {f : Part} {i : ℕ} {x y z : Reader} {u : Unit} (a : Act)
    → Takes i f x y (Ok u) → Acts a y z → Takes i (λ s. f (doing a ∷ s)) x z (Ok u)
unfolding read_on run_from
then-does {x = x} {y = y} {z = z} a p q = record {
  runs = λ s. rw (q.recalls, q.same_at, q.same.same_text, q.same.same_points)
      (p.runs (doing a ∷ s) ∙ run-doing y.text.now a s (remembered y) (length y.text.now) (tokens_from (body y.points) y.text.now y.at));
  took = rw (q.same_at, q.same.same_text) p.took;
  same = record { same_text = q.same.same_text ∙ p.same.same_text; same_points = q.same.same_points ∙ p.same.same_points };
}

-- nothing
pub idle : {md : Mode} {x : Reader} {u : Unit} → ReadsPart md md 0 (λ s. s) x x (Ok u)
unfolding read_on
idle = record { runs = λ s. refl; took = omega arith; same = record { same_text = refl; same_points = refl } }

-- not all that it took
lessen : (b c i : ℕ) (r : Result Unit Unexpected) → OnOk r (c + i ≤ b) → OnOk r (c + 0 ≤ b)
lessen b c i (Ok u) h = omega arith
lessen b c i (Err e) h = tt

pub fewer : {md md' : Mode} {f : Part} {i : ℕ} {x y : Reader} {r : Result Unit Unexpected} → ReadsPart md md' i f x y r → ReadsPart md md' 0 f x y r
fewer {x = x} {y = y} {r = r} a = record { runs = a.runs; took = lessen _ _ _ r a.took; same = a.same }

-- another part that steps and ends alike
pub same : {md md' : Mode} {f f' : Part} {i : ℕ} {x y : Reader} {t : Token} {r : Result Unit Unexpected}
    → t ≡ token_in md x.text.now x.at → ReadsPart md md' i f' x y r
    → ((s : List Sym) → step Mem (acts x.text.now) (f s) (remembered x) t.kind (place t) ≡ step Mem (acts x.text.now) (f' s) (remembered x) t.kind (place t))
    → ((s : List Sym) → finish Mem (acts x.text.now) (length x.text.now) (f s) (remembered x) ≡ finish Mem (acts x.text.now) (length x.text.now) (f' s) (remembered x))
    → ReadsPart md md' i f x y r
unfolding run run_from
same {md} {md'} {f} {f'} {x = x} {t = t} is d p q = record { runs = λ s. alike s (eqb (token_in md x.text.now x.at).kind 0) refl ∙ d.runs s; took = d.took; same = d.same }
  where
    alike : (s : List Sym) (b : Bool) → eqb (token_in md x.text.now x.at).kind 0 ≡ b → run Mem (acts x.text.now) (length x.text.now) (f s) (remembered x) (tokens_from md x.text.now x.at) ≡ run Mem (acts x.text.now) (length x.text.now) (f' s) (remembered x) (tokens_from md x.text.now x.at)
    alike s true e = rw (none_left md x.text.now x.at (eqb-true _ _ e)) (q s)
    alike s false e = rw (one_more_lem md x.text.now x.at x.within (eqb-false _ _ e), ← is, p s)

-- no step, and no end
pub fail : {md md' : Mode} {f : Part} {i : ℕ} {x y : Reader} {t : Token} {e : Unexpected}
    → t ≡ token_in md x.text.now x.at → SameText x y → e.at ≡ t.start
    → ((s : List Sym) → step Mem (acts x.text.now) (f s) (remembered x) t.kind (place t) ≡ stuck)
    → ((s : List Sym) → finish Mem (acts x.text.now) (length x.text.now) (f s) (remembered x) ≡ refused (length x.text.now))
    → ReadsPart md md' i f x y (Err e)
unfolding run run_from read_on
fail {md} {md'} {f} {x = x} {t = t} {e = e} is k z p q = record { runs = λ s. rw z (refuse s (eqb (token_in md x.text.now x.at).kind 0) refl); took = tt; same = k }
  where
    refuse : (s : List Sym) (b : Bool) → eqb (token_in md x.text.now x.at).kind 0 ≡ b → run Mem (acts x.text.now) (length x.text.now) (f s) (remembered x) (tokens_from md x.text.now x.at) ≡ refused t.start
    refuse s true e = rw (none_left md x.text.now x.at (eqb-true _ _ e), is, at_end_in x.text.now x.at md x.within (eqb-true _ _ e)) (q s)
    refuse s false e = rw (one_more_lem md x.text.now x.at x.within (eqb-false _ _ e), ← is, p s)

-- another token stands there, and the error is handed on
pub missed : {md md' : Mode} {f : Part} {i k : ℕ} {x y : Reader} {e : Unexpected} {r : Result Unit Unexpected}
    → Reads md x.points → Misses k x y e → IsErr r × IsErrAnd r (λ z. z ≡ e)
    → ((t : Token) → (t.kind ≡ k → ⊥) → (s : List Sym) → step Mem (acts x.text.now) (f s) (remembered x) t.kind (place t) ≡ stuck)
    → ((s : List Sym) → finish Mem (acts x.text.now) (length x.text.now) (f s) (remembered x) ≡ refused (length x.text.now))
    → ReadsPart md md' i f x y r
missed {md} {md'} {f} {i} {x = x} {y = y} {e = e} {r = r} m a h p q =
    subst (λ (z : Result Unit Unexpected). ReadsPart md md' i f x y z) (handed r e h)
    (fail {t = token_at x.points x.text.now x.at} (reads_next m x.text.now x.at) a.same a.says (p (token_at x.points x.text.now x.at) a.other) q)

-- what `eat` took
pub ate : {k : ℕ} {x y : Reader} {b : Bool} → Eats k x y b → b ≡ true → TookKind k x y (token_at x.points x.text.now x.at)
ate {b = true} h e = h
ate {b = false} h e = absurd (true-false (sym e))

-- `eat` took nothing, and neither does the part
pub passed : {f : Part} {k : ℕ} {x y : Reader} {b : Bool} {u : Unit} → Eats k x y b → b ≡ false
    → ((t : Token) → (t.kind ≡ k → ⊥) → (s : List Sym) → step Mem (acts x.text.now) (f s) (remembered x) t.kind (place t) ≡ step Mem (acts x.text.now) s (remembered x) t.kind (place t))
    → ((s : List Sym) → finish Mem (acts x.text.now) (length x.text.now) (f s) (remembered x) ≡ finish Mem (acts x.text.now) (length x.text.now) s (remembered x))
    → Takes 0 f x y (Ok u)
passed {b = true} h e p q = absurd (true-false e)
passed {f} {x = x} {b = false} {u = u} h e p q =
    subst (λ (z : Reader). Takes 0 f x z (Ok u)) (sym h.same) (same {t = token_at x.points x.text.now x.at} refl idle (p (token_at x.points x.text.now x.at) h.other) q)

-- only what is remembered has changed
pub recalled : {m : Mem} {x y : Reader} → remembered y ≡ m → y.at ≡ x.at → y.text ≡ x.text → y.points ≡ x.points → Recalls m x y
recalled e f g h = record { recalls = e; same_at = f; same = record { same_text = g; same_points = h } }

-- the same in other words
pub retold : {m m' : Mem} {x y : Reader} → Recalls m x y → m ≡ m' → Recalls m' x y
retold p e = record { recalls = p.recalls ∙ e; same_at = p.same_at; same = p.same }

-- and as much of the text is left
pub same-left : {m : Mem} {x y : Reader} → Recalls m x y → left y ≡ left x
same-left p = rw (p.same_at, p.same.same_text)

-- one change after another
pub chained : {m m' m'' : Mem} {x y z : Reader} → Recalls m x y → Recalls m' y z → m' ≡ m'' → Recalls m'' x z
chained p q e = record {
  recalls = q.recalls ∙ e;
  same_at = q.same_at ∙ p.same_at;
  same = record { same_text = q.same.same_text ∙ p.same.same_text; same_points = q.same.same_points ∙ p.same.same_points };
}

-- ---- behind a token
-- the place is set there
pub here : {t : Token} {x : Reader} {w : t.end ≤ length x.text.now}
    → Taken t (remembered x) x (record { text = x.text; at = t.end; points = x.points; memory = x.memory; names = x.names; frames = x.frames; within = w })
here = record { recalls = refl; behind = refl; same = record { same_text = refl; same_points = refl } }

-- then an act
pub acted : {t : Token} {m : Mem} {x y z : Reader} (a : Act) → Taken t m x y → Acts a y z → Taken t (acts x.text.now a m) x z
acted a p q = record {
  recalls = rw (q.recalls, p.recalls, p.same.same_text);
  behind = q.same_at ∙ p.behind;
  same = record { same_text = q.same.same_text ∙ p.same.same_text; same_points = q.same.same_points ∙ p.same.same_points };
}

-- or two
pub acted-twice : {t : Token} {m : Mem} {x y z : Reader} (a b : Act) → Taken t m x y → Recalls (acts y.text.now b (acts y.text.now a (remembered y))) y z
    → Taken t (acts x.text.now b (acts x.text.now a m)) x z
acted-twice a b p q = record {
  recalls = rw (q.recalls, p.recalls, p.same.same_text);
  behind = q.same_at ∙ p.behind;
  same = record { same_text = q.same.same_text ∙ p.same.same_text; same_points = q.same.same_points ∙ p.same.same_points };
}

-- a token is taken, what it does is done, and the mode is known
pub take-to : {md md₁ md' : Mode} {f f' : Part} {m : Mem} {x y z : Reader} {t : Token} {r : Result Unit Unexpected}
    → t ≡ token_in md x.text.now x.at → 0 < t.kind → Taken t m x y → next md t.kind ≡ md₁ → ReadsPart md₁ md' 0 f' y z r
    → ((s : List Sym) → step Mem (acts x.text.now) (f s) (remembered x) t.kind (place t) ≡ on (f' s) m) → ReadsPart md md' 1 f x z r
unfolding run run_from
take-to {md} {md₁} {f = f} {f' = f'} {x = x} {y = y} {t = t} {r = r} is some k n d p = record {
  runs = λ s. rw (one_more_lem md x.text.now x.at x.within ne, ← is, p s, n) (rw (k.recalls, k.behind, k.same.same_text) at (d.runs s));
  took = nearer _ _ _ _ _ _ r nearest d.took (omega arith);
  same = record { same_text = d.same.same_text ∙ k.same.same_text; same_points = d.same.same_points ∙ k.same.same_points };
}
  where
    ne : (token_in md x.text.now x.at).kind ≡ 0 → ⊥
    ne q = let e : t.kind ≡ 0 = ap (λ (q : Token). q.kind) is ∙ q in omega arith

    nearest : left y + 1 ≤ left x
    nearest =
        let h = x.within in
        let m = moves_in x.text.now x.at md h ne in
        let s = spans_in x.text.now x.at md h in
        let a : t.end ≡ (token_in md x.text.now x.at).end = ap (λ (q : Token). q.end) is in
        let b : length y.text.now ≡ length x.text.now = ap (λ (q : _). length q.now) k.same.same_text in
        let e = k.behind in
        omega arith

-- the same in a body, whose mode does not change
pub take : {f f' : Part} {m : Mem} {x y z : Reader} {t : Token} {r : Result Unit Unexpected}
    → Stands x t → 0 < t.kind → Taken t m x y → Takes 0 f' y z r
    → ((s : List Sym) → step Mem (acts x.text.now) (f s) (remembered x) t.kind (place t) ≡ on (f' s) m) → Takes 1 f x z r
take st some k d p = take-to st.is some k (ap body (sym k.same.same_points)) d p

-- a token of one kind, in a body
pub expected : {k : ℕ} {x y : Reader} {r : Result Unit Unexpected}
    → ((md : Mode) → Reads md x.points → ReadsPart md (next md k) 1 (λ s. want k ∷ s) x y r) → Takes 1 (λ s. want k ∷ s) x y r
expected {k} {x} {y} {r} h = let d = h (body x.points) in_body in subst (λ (z : Mode). ReadsPart (body x.points) z 1 (λ s. want k ∷ s) x y r) (ap body (sym d.same.same_points)) d

-- a place of the text is one still, once that was read on
pub still : {x y : Reader} {p : Place} → SameText x y → Inside (length x.text.now) p → Inside (length y.text.now) p
still k h = rw k.same_text h

-- the clause does not stand there
pub no_scale : {x : Reader} {u : Unit} → clause_at x.text.now x.at ≡ false → ReadsPart (declares 0) (body false) 0 (λ s. clause ∷ s) x x (Ok u)
unfolding read_on run_from run step finish
no_scale {x} e = record {
  runs = λ s. rw (no_clause x.text.now x.at x.within e) (go s (eqb (token_at false x.text.now x.at).kind 0) refl);
  took = omega arith;
  same = record { same_text = refl; same_points = refl };
}
  where
    go : (s : List Sym) (q : Bool) → eqb (token_at false x.text.now x.at).kind 0 ≡ q
        → run Mem (acts x.text.now) (length x.text.now) (clause ∷ s) (remembered x) (tokens_from (body false) x.text.now x.at)
        ≡ run Mem (acts x.text.now) (length x.text.now) s (remembered x) (tokens_from (body false) x.text.now x.at)
    go s true f = rw (none_left (body false) x.text.now x.at (eqb-true _ _ f))
    go s false f = rw (one_more_lem (body false) x.text.now x.at x.within (eqb-false _ _ f), ne_eqb (token_at false x.text.now x.at).kind scale_kind (never-scale false x.text.now x.at))

-- ---- what frames that go out do
pub plain-out : (text : List ℕ) (k : ℕ) (m : Mem) → with_frame (record { kind = k; event = 0; note = 0; factor = 0; word = 0 }) m ≡ acts text (out (plain k)) m
unfolding acts
plain-out text k m = refl

pub head-out : (text : List ℕ) (p : Place) (m : Mem) → with_frame (record { kind = scale_byte; event = value_at text p % 256; note = 0; factor = 0; word = 0 }) m ≡ acts text (out (head p)) m
unfolding acts
head-out text p m = refl

pub lit-out : (text : List ℕ) (p : Place) (m : Mem) → with_frame (record { kind = 1; event = decimals_at text p % 256; note = 0; factor = 0; word = value_at text p }) m ≡ acts text (out (lit p)) m
unfolding acts
lit-out text p m = refl

-- the frame of i uses its kind alone
pub instance-out : {x y : Reader} → Acts (out (plain 2)) x y → Acts (out index_var) x y
unfolding acts
instance-out h = h
