-- Laws of the table of declared names: a place among names, and one name more. Assumes nothing.
use mathlib.Core.Path.{◌≡◌, refl, ap, sym, subst, ◌∙◌}
use mathlib.Core.Bool.{Bool, true, false, cond}
use mathlib.Core.List.{List, [], ◌∷◌, ◌++◌}
use Prim.Native.Nat.{ℕ, zero, suc, ◌+◌, ◌-◌, ◌/◌, ◌%◌, ◌≤◌, ◌<◌, min}
use native.Mathlib.Numerals.{add-one}
use native.Mathlib.Omega.{arith}
use borrow.Author.Tests.{ltb-false, leb-false, eq-eqb, ne_eqb, eqb-true, eqb-false}
use lib.Dec.{ltb, leb, eqb}
use lib.ListN.{length, get_or, set, take, drop}
use lib.Seq.{get_or-set_same, get_or-set_other, drop-cons}
use Rattle.std.proofs.Common.{Option, Some, None, ◌||◌, take-take}
use Rattle.std.specs.List.{list_any, position_or_len}
use Rattle.std.specs.List as list
use Rattle.std.specs.Option.{unwrap_or}
use Rattle.std.specs.Int.{w32, to_be_bytes}
use borrow.Rule.Slice.PartMut.{put_mid}
use Rattle.std.proofs.lemmas.List.Recursion.{is_position_or_len}
use Rattle.rule.specs.Name.{long_name}
use Rattle.rule.specs.Spelling.{room}
use Rattle.rule.specs.Memory.{position, table, enlist, listed, mem, is_declared}
use Rattle.rule.specs.declared.parts.Role.{Role}
use Rattle.rule.specs.declared.parts.Role.TheVariants.{Event, Note}
use Rattle.rule.specs.declared.memory.Registers.{Registers}

pub length-listed : (tb : List ℕ) (from n : ℕ) → length (listed tb from n) ≡ n
unfolding listed
length-listed tb from zero = refl
length-listed tb from (suc n) = ap suc (length-listed tb (suc from) n)

-- the places of a table from one on, as the names that it lists
pub listed-is : (tb : List ℕ) (from n : ℕ) → from + n ≤ length tb → take n (drop from tb) ≡ listed tb from n
unfolding listed
listed-is tb from zero h = take-zero (drop from tb)
  where
    take-zero : (l : List ℕ) → take 0 l ≡ []
    take-zero [] = refl
    take-zero (x ∷ l) = refl
listed-is tb from (suc n) h = rw (drop-cons tb from 0 (omega arith)) (ap (λ (l : List ℕ). get_or tb from 0 ∷ l) (listed-is tb (suc from) n (omega arith)))

pub listed-part : (tb : List ℕ) (from n k : ℕ) → n ≤ k → from + k ≤ length tb → take n (take k (drop from tb)) ≡ listed tb from n
listed-part tb from n k h l = take-take n k (drop from tb) h ∙ listed-is tb from n (omega arith)

same-test : (a b : ℕ) → eqb a b ≡ eqb b a
same-test a b = go (eqb b a) refl
  where
    go : (t : Bool) → eqb b a ≡ t → eqb a b ≡ t
    go true e = eq-eqb a b (sym (eqb-true b a e))
    go false e = ne_eqb a b (λ q. eqb-false b a e (sym q))

-- the library's words for a name among names, and for its place
pub any-declared : (c : ℕ) (l : List ℕ) → list_any (λ y. eqb y c) l ≡ is_declared c l
any-declared c [] = refl
any-declared c (x ∷ l) = rw (same-test x c) (go (eqb c x) (any-declared c l))
  where
    go : (t : Bool) → list_any (λ y. eqb y c) l ≡ is_declared c l → (t || list_any (λ y. eqb y c) l) ≡ cond t true (is_declared c l)
    go true h = refl
    go false h = h

place-none : (c : ℕ) → position c [] ≡ 0
unfolding position
place-none c = refl

place-more : (c x : ℕ) (xs : List ℕ) → position c (x ∷ xs) ≡ cond (eqb x c) 0 (1 + position c xs)
unfolding position
place-more c x xs = rw (same-test x c) (go (eqb c x))
  where
    go : (t : Bool) → cond t 0 (suc (position c xs)) ≡ cond t 0 (1 + position c xs)
    go true = refl
    go false = omega arith

pub place-among : (c : ℕ) (l : List ℕ) → position_or_len (λ y. eqb y c) l ≡ position c l
place-among c l = sym (is_position_or_len (position c) (λ y. eqb y c) (place-none c) (place-more c) l)

pub position-short : (c : ℕ) (l : List ℕ) → position c l ≤ length l
unfolding position
position-short c [] = omega arith
position-short c (x ∷ l) = go (eqb c x) (position-short c l)
  where
    go : (t : Bool) → position c l ≤ length l → cond t 0 (suc (position c l)) ≤ suc (length l)
    go true h = omega arith
    go false h = omega arith

pub found : (c : ℕ) (l : List ℕ) (r : Option ℕ) → r ≡ list.position (λ y. eqb y c) l → unwrap_or r (length l) ≡ position c l
found c l r e = rw (e, place-among c l) (go (ltb (position c l) (length l)) refl)
  where
    go : (t : Bool) → ltb (position c l) (length l) ≡ t → unwrap_or (cond t (Some (position c l)) None) (length l) ≡ position c l
    go true h = refl
    go false h = let k : length l ≤ position c l = ltb-false _ _ h in let m = position-short c l in omega arith

-- ---- one name more
listed_snoc : (tb : List ℕ) (from n : ℕ) → listed tb from (n + 1) ≡ listed tb from n ++ get_or tb (from + n) 0 ∷ []
unfolding listed
listed_snoc tb from zero = let e : from + 0 ≡ from = omega arith in rw e
listed_snoc tb from (suc n) =
    let e : from + suc n ≡ suc from + n = omega arith in
    let ih = listed_snoc tb (suc from) n in
    rw (e, add-one (suc n)) (ap (λ (l : List ℕ). get_or tb from 0 ∷ l) (rw add-one at ih))

-- a store elsewhere
pub listed-other : (tb : List ℕ) (k c from n : ℕ) → ((j : ℕ) → j < n → from + j ≡ k → ⊥) → listed (set tb k c) from n ≡ listed tb from n
unfolding listed
listed-other tb k c from zero h = refl
listed-other tb k c from (suc n) h =
    rw (get_or-set_other tb k from c 0 (λ e. h 0 (omega arith) (omega arith)), listed-other tb k c (suc from) n (λ j l e. h (suc j) (omega arith) (omega arith)))

pub listed_more : (tb : List ℕ) (c from n : ℕ) → from + n < length tb → listed (set tb (from + n) c) from (n + 1) ≡ listed tb from n ++ c ∷ []
listed_more tb c from n h =
    listed_snoc (set tb (from + n) c) from n
    ∙ rw (get_or-set_same tb (from + n) c 0 h, listed-other tb (from + n) c from n (λ j l e. omega arith))

-- ---- the tables that a memory has
abbrev pub tallied : Role → Registers → ℕ
tallied Event m = m.events
tallied Note m = m.notes

room-left : (c r : ℕ) (l : List ℕ) → cond (leb long_name c) true (cond (is_declared c l) true (leb r (length l))) ≡ false → length l < r
room-left c r l = go (leb long_name c) (is_declared c l)
  where
    Is : Bool → Type 0
    Is true = Unit {0}
    Is false = ⊥

    go : (s t : Bool) → cond s true (cond t true (leb r (length l))) ≡ false → length l < r
    go true t e = absurd (subst Is e tt)
    go false true e = absurd (subst Is e tt)
    go false false e = leb-false r (length l) e

-- a declaration that is not bad leaves its table within its room
pub few : (role : Role) (m : Registers) (tb b : List ℕ) (c : ℕ)
    → cond (leb long_name c) true (cond (is_declared c (table role (mem m tb b))) true (leb (room role) (length (table role (mem m tb b))))) ≡ false → tallied role m < room role
unfolding mem
few Event m tb b c e = let h = room-left c 8 (listed tb 0 (min 8 m.events)) e in let l = length-listed tb 0 (min 8 m.events) in omega arith
few Note m tb b c e = let h = room-left c 4 (listed tb 8 (min 4 m.notes)) e in let l = length-listed tb 8 (min 4 m.notes) in omega arith

abbrev pub with_event : Registers → Registers
with_event m = record { count = m.count; deep = m.deep; number = m.number; decimals = m.decimals; name = m.name; events = m.events + 1; notes = m.notes }

abbrev pub with_note : Registers → Registers
with_note m = record { count = m.count; deep = m.deep; number = m.number; decimals = m.decimals; name = m.name; events = m.events; notes = m.notes + 1 }

pub one-event : (m : Registers) (tb b : List ℕ) (c : ℕ) → length tb ≡ 12 → m.events < 8 → mem (with_event m) (set tb m.events c) b ≡ enlist Event c (mem m tb b)
unfolding mem
one-event m tb b c h l =
    let e : min 8 (m.events + 1) ≡ m.events + 1 = omega arith in
    let f : min 8 m.events ≡ m.events = omega arith in
    let g : 0 + m.events ≡ m.events = omega arith in
    rw (e, f, rw g at (listed_more tb c 0 m.events (omega arith)), listed-other tb m.events c 8 (min 4 m.notes) (λ j q z. omega arith))

pub one-note : (m : Registers) (tb b : List ℕ) (c : ℕ) → length tb ≡ 12 → m.notes < 4 → mem (with_note m) (set tb (8 + m.notes) c) b ≡ enlist Note c (mem m tb b)
unfolding mem
one-note m tb b c h l =
    let e : min 4 (m.notes + 1) ≡ m.notes + 1 = omega arith in
    let f : min 4 m.notes ≡ m.notes = omega arith in
    rw (e, f, listed_more tb c 8 m.notes (omega arith), listed-other tb (8 + m.notes) c 0 (min 8 m.events) (λ j q z. omega arith))

-- ---- a word's four bytes, put at a place
put-at : (a p q r s : ℕ) (b : List ℕ) → a + 4 ≤ length b → put_mid a 4 b (p ∷ q ∷ r ∷ s ∷ []) ≡ set (set (set (set b a p) (suc a) q) (suc (suc a)) r) (suc (suc (suc a))) s
put-at zero p q r s [] h = absurd (omega arith)
put-at zero p q r s (w ∷ []) h = absurd (omega arith)
put-at zero p q r s (w ∷ x ∷ []) h = absurd (omega arith)
put-at zero p q r s (w ∷ x ∷ y ∷ []) h = absurd (omega arith)
put-at zero p q r s (w ∷ x ∷ y ∷ z ∷ b) h = refl
put-at (suc a) p q r s [] h = absurd (omega arith)
put-at (suc a) p q r s (x ∷ b) h = ap (λ (l : List ℕ). x ∷ l) (put-at a p q r s b (omega arith))

big-endian : (w : ℕ) → w < 4294967296 → to_be_bytes w32 w ≡ (w / 256 / 256 / 256) ∷ (w / 256 / 256 % 256) ∷ (w / 256 % 256) ∷ (w % 256) ∷ []
big-endian w h =
    let a : w / 16777216 % 256 ≡ w / 256 / 256 / 256 = omega arith in
    let b : w / 65536 ≡ w / 256 / 256 = omega arith in
    rw (a, b)

pub word-put : (b : List ℕ) (p w : ℕ) (ys : List ℕ) → p + 8 ≤ length b → w < 4294967296 → ys ≡ to_be_bytes w32 w
    → put_mid (p + 4) (p + 8 - (p + 4)) b ys ≡ set (set (set (set b (p + 4) (w / 256 / 256 / 256)) (p + 5) (w / 256 / 256 % 256)) (p + 6) (w / 256 % 256)) (p + 7) (w % 256)
word-put b p w ys h k e =
    let l : p + 8 - (p + 4) ≡ 4 = omega arith in
    let f : p + 5 ≡ suc (p + 4) = omega arith in
    let g : p + 6 ≡ suc (suc (p + 4)) = omega arith in
    let i : p + 7 ≡ suc (suc (suc (p + 4))) = omega arith in
    let z : ys ≡ (w / 256 / 256 / 256) ∷ (w / 256 / 256 % 256) ∷ (w / 256 % 256) ∷ (w % 256) ∷ [] = e ∙ big-endian w k in
    rw (l, z, f, g, i) (put-at (p + 4) _ _ _ _ b (omega arith))
