-- Laws of the occurrence that a reference means, and of what it is found to be, over any lookup. Assumes nothing.
use mathlib.Core.Path.{◌≡◌, refl, ap}
use mathlib.Core.Bool.{Bool, true, false, cond}
use mathlib.Core.Logic.{inl, inr}
use Prim.Native.Nat.{ℕ, suc, ◌+◌, ◌*◌, ◌-◌, ◌≤◌, ◌<◌}
use native.Mathlib.Omega.{arith}
use lib.Dec.{ltb}
use lib.IntN.{ℤ, pos, negsuc, nat_abs, ◌+ℤ◌}
use borrow.Author.Tests.{ltb-true, lt-ltb, le-ltb}
use Rattle.rule.specs.Tree.{Reference}
use Rattle.verdict.specs.Found.{meant_by, present, pending, Lookup, found_at, found_by, resolve}
use Rattle.verdict.specs.Later.{Gains}
use Rattle.std.specs.Prelude.{Option, Some, None}
use Rattle.verdict.specs.declared.Occurrence.{Occurrence}

-- ---- an occurrence in two lookups, with the counts c and d and the values y and z
at_same : (c d : ℕ) (y z : ℤ) (k : ℕ) → c ≡ d → (k < d → y ≡ z) → found_at c y k ≡ found_at d z k
at_same c d y z k e h = rw e (go (ltb k d) refl)
  where
    go : (t : Bool) → ltb k d ≡ t → cond t (present y) pending ≡ cond t (present z) pending
    go true q = ap present (h (ltb-true k d q))
    go false q = refl

at-gains : (c d : ℕ) (y z : ℤ) (k : ℕ) → (k < c → (k < d) × (y ≡ z)) → Gains (found_at c y k) (found_at d z k)
at-gains c d y z k h = go (ltb k c) refl
  where
    go : (t : Bool) → ltb k c ≡ t → Gains (cond t (present y) pending) (found_at d z k)
    go true q = let w = h (ltb-true k c q) in inl (rw (lt-ltb k d w.0) (ap present w.1))
    go false q = inr refl

-- ---- a reference in two lookups
module _ (l l' : Lookup) (e n : ℕ) where
  -- the same where as many lines are accepted, with the same note at the occurrence that is meant
  pub found-same : l.count e ≡ l'.count e → (m : Option Occurrence)
      → ((k : Occurrence) → m ≡ Some k → k.0 < l'.count e → l.note_at e n k.0 ≡ l'.note_at e n k.0)
      → found_by l e n m ≡ found_by l' e n m
  found-same c None h = refl
  found-same c (Some k) h = at_same (l.count e) (l'.count e) (l.note_at e n k.0) (l'.note_at e n k.0) k.0 c (h k refl)

  -- the same or it was pending, where the lines of one are among the other's
  pub found-gains : ((k : ℕ) → k < l.count e → (k < l'.count e) × (l.note_at e n k ≡ l'.note_at e n k)) → (m : Option Occurrence)
      → Gains (found_by l e n m) (found_by l' e n m)
  found-gains h None = inl refl
  found-gains h (Some k) = at-gains (l.count e) (l'.count e) (l.note_at e n k.0) (l'.note_at e n k.0) k.0 (h k.0)

-- ---- an instance so late that its occurrence has not come
late-at : (l : Lookup) (e n : ℕ) (z : ℤ) (a : ℕ) → l.count e + nat_abs z ≤ a → found_by l e n (meant_by (pos a +ℤ z)) ≡ pending
late-at l e n (pos k) a h = rw (le-ltb (a + k) (l.count e) (omega arith))
late-at l e n (negsuc k) a h =
    let s : l.count e + suc k ≤ a = h in
    rw (le-ltb a (suc k) (omega arith)) (rw (le-ltb (a - suc k) (l.count e) (omega arith)))

pub resolve-late : (l : Lookup) (i : ℕ) (r : Reference) → l.count r.event + nat_abs r.offset ≤ r.factor * i → resolve l i r ≡ pending
resolve-late l i r h = late-at l r.event r.note r.offset (r.factor * i) h
