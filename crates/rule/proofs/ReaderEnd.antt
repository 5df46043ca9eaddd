-- The end of a rule's reading: what is left once the stack is empty, the buffer's length, and the bounds of places. Assumes nothing.
use mathlib.Core.Path.{◌≡◌, refl, ap, sym, ◌∙◌}
use mathlib.Core.Bool.{Bool, true, false, cond}
use mathlib.Core.List.{List, [], ◌∷◌}
use Prim.Native.Nat.{ℕ, ◌+◌, ◌*◌, ◌/◌, ◌%◌, ◌≤◌, ◌<◌}
use native.Mathlib.Omega.{arith}
use lib.Dec.{ltb, eqb}
use lib.ListN.{length, set, length-set}
use Rattle.rule.specs.Token.{body, token_at, Rising}
use Rattle.rule.specs.Grammar.{place}
use Rattle.rule.specs.Measure.{sized_by}
use Rattle.rule.specs.Machine.{Act, declare, uses, sized, enter, out, Sym, MachineAnswer, accepted, refused, step, finish, run}
use Rattle.rule.specs.Memory.{Mem, table, first, blame, enlist, put, misnamed, code_at, value_at, decimals_at, acts, is_declared, bad-number, many-decimals}
use Rattle.rule.specs.ReadsPart.{run_from}
use Rattle.rule.specs.declared.Token.{Token}
use Rattle.rule.specs.declared.parts.Place.{Place}
use Rattle.rule.specs.declared.parts.Role.{Role}
use Rattle.rule.specs.declared.parts.Role.TheVariants.{Event, Note}
use Rattle.rule.specs.declared.memory.RawFrame.{RawFrame}
use Rattle.rule.proofs.FrameDrafts.{All}
use Rattle.rule.proofs.GrammarKeeps.{At, Outs, Holds, Keeper, run-keeps}
use Rattle.rule.proofs.TokenLists.{none_left, one_more_lem}

module _ (points : Bool) (text : List ℕ) (at : ℕ) (m : Mem) {t : Token} (is : t ≡ token_at points text at) where
  pub nothing_left : t.kind ≡ 0 → run_from (body points) text [] m at ≡ accepted m
  unfolding run_from run finish
  nothing_left e = rw (none_left (body points) text at (sym (ap (λ (q : Token). q.kind) is) ∙ e))

  pub something_left : at ≤ length text → (t.kind ≡ 0 → ⊥) → run_from (body points) text [] m at ≡ refused t.start
  unfolding run_from run step
  something_left h ne = rw (one_more_lem (body points) text at h (λ e. ne (ap (λ (q : Token). q.kind) is ∙ e)), ← is)

put-long : (b : List ℕ) (k : ℕ) (f : RawFrame) → length (put b k f) ≡ length b
unfolding put
put-long b k f = go (ltb k 64)
  where
    go : (q : Bool)
        → length (cond q (set (set (set (set (set (set (set (set b (k * 8) f.kind) (k * 8 + 1) f.event) (k * 8 + 2) f.note) (k * 8 + 3) f.factor) (k * 8 + 4) (f.word / 256 / 256 / 256)) (k * 8 + 5) (f.word / 256 / 256 % 256)) (k * 8 + 6) (f.word / 256 % 256)) (k * 8 + 7) (f.word % 256)) b) ≡ length b
    go true = simp length-set
    go false = refl

-- the places in the registers are within the text, of n bytes, and the buffer has its length
pub record Kept (n : ℕ) (m : Mem) : Type 0 where
  pub name-within : m.name ≤ n
  pub number-within : m.number ≤ n
  pub decimals-within : m.decimals ≤ n
  pub long : length m.bytes ≡ 512

-- a name or a number of an act starts below n
abbrev Below : ℕ → Act → Type 0
Below n (declare r p) = p.start < n
Below n (uses r p) = p.start < n
Below n (sized l p) = p.start < n
Below n (enter d) = Unit
Below n (out f) = Unit

-- as does the token that it is at
below : (n k : ℕ) (p : Place) → p.start < n → (a : Act) → At k p a → Below n a
below n k p l (declare r q) h = rw h.1 l
below n k p l (uses r q) h = rw h.1 l
below n k p l (sized b q) h = rw h.1 l
below n k p l (enter d) h = tt
below n k p l (out f) h = tt

module _ (text : List ℕ) (n : ℕ) where
  first-within : (z : ℕ) (p : Place) → z ≤ n → p.start < n → first z p ≤ n
  first-within z p h l = go (eqb z 0)
    where
      go : (q : Bool) → cond q (p.start + 1) z ≤ n
      go true = omega arith
      go false = h

  blamed : (p : Place) (m : Mem) → p.start < n → Kept n m → Kept n (blame p m)
  blamed p m l h = record { name-within = first-within m.name p h.name-within l; number-within = h.number-within; decimals-within = h.decimals-within; long = h.long }

  enlisted : (r : Role) (c : ℕ) (m : Mem) → Kept n m → Kept n (enlist r c m)
  enlisted Event c m h = record { name-within = h.name-within; number-within = h.number-within; decimals-within = h.decimals-within; long = h.long }
  enlisted Note c m h = record { name-within = h.name-within; number-within = h.number-within; decimals-within = h.decimals-within; long = h.long }

  either : (q : Bool) (x y : Mem) → Kept n x → Kept n y → Kept n (cond q x y)
  either true x y hx hy = hx
  either false x y hx hy = hy

  act_kept : (a : Act) (m : Mem) → Below n a → Kept n m → Kept n (acts text a m)
  unfolding acts
  act_kept (declare r p) m l h = either (misnamed (code_at text) (value_at text) (decimals_at text) r p m) (blame p m) (enlist r (code_at text p) m) (blamed p m l h) (enlisted r (code_at text p) m h)
  act_kept (uses r p) m l h = either (is_declared (code_at text p) (table r m)) m (blame p m) h (blamed p m l h)
  act_kept (sized b p) m l h = record { name-within = h.name-within; number-within = go m.number h.number-within (bad-number (code_at text) (value_at text) (decimals_at text) (sized_by b p)); decimals-within = go m.decimals h.decimals-within (many-decimals (code_at text) (value_at text) (decimals_at text) (sized_by b p)); long = h.long }
    where
      go : (z : ℕ) → z ≤ n → (q : Bool) → cond q (first z p) z ≤ n
      go z k true = first-within z p k l
      go z k false = k
  act_kept (enter d) m l h = record { name-within = h.name-within; number-within = h.number-within; decimals-within = h.decimals-within; long = h.long }
  act_kept (out f) m l h = record { name-within = h.name-within; number-within = h.number-within; decimals-within = h.decimals-within; long = put-long m.bytes m.count _ ∙ h.long }

  rising_le : (lo : ℕ) (ts : List Token) → Rising lo n ts → lo ≤ n
  rising_le lo [] r = r
  rising_le lo (t ∷ ts) r = let q = rising_le t.end ts r.2 in let a = r.0 in let b = r.1 in omega arith

  keepers : (ts : List Token) (lo : ℕ) → Rising lo n ts → All (Keeper Mem (acts text) (Kept n) (λ p. p ≤ n)) ts
  keepers [] lo r = tt
  keepers (t ∷ ts) lo r =
      let e = rising_le t.end ts r.2 in
      let b = r.1 in
      let z : t.start < n = omega arith in
      ((omega arith, λ a h m. act_kept a m (below n t.kind (place t) z a h)), keepers ts t.end r.2)

  own : n ≤ n
  own = omega arith

  abbrev pub OkA : MachineAnswer Mem → Type 0
  OkA a = Holds Mem (acts text) (Kept n) (λ p. p ≤ n) a

  -- an answer of the machine to tokens of a text of n bytes has its places within it, and a buffer of the same length
  pub run_ok : (ts : List Token) (lo : ℕ) → Rising lo n ts → (s : List Sym) (m : Mem) → Outs s → Kept n m → OkA (run Mem (acts text) n s m ts)
  run_ok ts lo r = run-keeps Mem (acts text) (Kept n) n (λ p. p ≤ n) own (λ f m. act_kept (out f) m tt) ts (keepers ts lo r)
