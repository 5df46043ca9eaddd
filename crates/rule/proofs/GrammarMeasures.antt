-- What a register holds after the reading of a tree is that function of the tree. Assumes nothing.
use Rattle.std.proofs.lemmas.Bool.Decides.{nat_tests}
use mathlib.Core.Path.{◌≡◌, refl, ap, sym, ◌∙◌}
use mathlib.Core.List.{List, [], ◌∷◌, ◌++◌, append-nil, append_assoc}
use Prim.Native.Nat.{ℕ, zero, suc, ◌+◌, max, min, ◌≤◌}
use native.Mathlib.Omega.{arith}
use Rattle.rule.specs.declared.parts.Place.{Place}
use Rattle.rule.specs.declared.parts.Role.{Role}
use Rattle.rule.specs.declared.parts.Role.TheVariants.{Event, Note}
use Rattle.rule.specs.declared.parts.Limit.{Limit}
use Rattle.rule.specs.Grammar.{Rule, rule}
use Rattle.rule.specs.Draft.{Draft}
use Rattle.rule.specs.Items.{Item, enters, puts, items}
use Rattle.rule.specs.Measure.{deepest, depth, frames_in, frames, Named, declared, used, Sized, sized_by, flat, names_of, numbers_of}
use Rattle.rule.specs.Measure.{declares, names, numbers}
use Rattle.rule.specs.Machine.{Act, declare, uses, sized, enter, out, deeper}
use Rattle.rule.proofs.GrammarWalk.{down, read_each, read_name, read_number, read_draft, read_items, read_names, read_rule}

-- ---- the part of a reading that concerns frames, names, numbers, depth
abbrev pub note-frame : Act → List Draft → List Draft
note-frame (declare r p) l = l
note-frame (uses r p) l = l
note-frame (sized b p) l = l
note-frame (enter d) l = l
note-frame (out f) l = l ++ f ∷ []

abbrev pub note-name : Act → List Named → List Named
note-name (declare r p) l = l ++ declared r p ∷ []
note-name (uses r p) l = l ++ used r p ∷ []
note-name (sized b p) l = l
note-name (enter d) l = l
note-name (out f) l = l

abbrev pub note-number : Act → List Sized → List Sized
note-number (declare r p) l = l
note-number (uses r p) l = l
note-number (sized b p) l = l ++ sized_by b p ∷ []
note-number (enter d) l = l
note-number (out f) l = l

abbrev pub note-depth : Act → ℕ → ℕ
note-depth (declare r p) l = l
note-depth (uses r p) l = l
note-depth (sized b p) l = l
note-depth (enter d) l = max l d
note-depth (out f) l = l

-- ---- names and numbers that a register leaves
module _ {L : Type 0} (note : Act → L → L) where
  idle-names : ((r : Role) (p : Place) (l : L) → note (declare r p) l ≡ l) → ((r : Role) (p : Place) (l : L) → note (uses r p) l ≡ l)
      → (ns : List Named) (l : L) → read_each (read_name L note) ns l ≡ l
  idle-names d u [] l = refl
  idle-names d u (declared r p ∷ ns) l = idle-names d u ns (note (declare r p) l) ∙ d r p l
  idle-names d u (used r p ∷ ns) l = idle-names d u ns (note (uses r p) l) ∙ u r p l

  idle-numbers : ((b : Limit) (p : Place) (l : L) → note (sized b p) l ≡ l) → (vs : List Sized) (l : L) → read_each (read_number L note) vs l ≡ l
  idle-numbers h [] l = refl
  idle-numbers h (sized_by b p ∷ vs) l = idle-numbers h vs (note (sized b p) l) ∙ h b p l

-- ---- items of which each frame adds h of it
module _ {B : Type 0} (note : Act → List B → List B) (h : Draft → List B) (still : (k : ℕ) (l : List B) → note (enter k) l ≡ l)
    (adds : (f : Draft) (l : List B) → read_draft (List B) note f l ≡ l ++ h f) where
  noted : (d : ℕ) (is : List Item) (l : List B) → read_items (List B) note d is l ≡ l ++ flat h (frames_in is)
  noted d [] l = sym (append-nil l)
  noted d (enters k ∷ is) l = grind (arith, still (down k d) l, noted d is l)
  noted d (puts f ∷ is) l = grind (arith, append_assoc, adds f l, noted d is (read_draft (List B) note f l))

-- frames
abbrev own : Draft → List Draft
own f = f ∷ []

flat-own : (fs : List Draft) → flat own fs ≡ fs
flat-own [] = refl
flat-own (f ∷ fs) = grind (arith, flat-own fs)

no_name_frame : (ns : List Named) (l : List Draft) → read_each (read_name (List Draft) note-frame) ns l ≡ l
no_name_frame = idle-names note-frame (λ r p l. refl) (λ r p l. refl)

adds-frame : (f : Draft) (l : List Draft) → read_draft (List Draft) note-frame f l ≡ l ++ own f
adds-frame f l = ap (λ (m : List Draft). m ++ own f) (idle-numbers note-frame (λ b p m. refl) (numbers_of f) _ ∙ no_name_frame (names_of f) l)

pub frames-items : (d : ℕ) (is : List Item) (l : List Draft) → read_items (List Draft) note-frame d is l ≡ l ++ frames_in is
frames-items d is l = grind (arith, noted note-frame own (λ k m. refl) adds-frame d is l, flat-own (frames_in is))

pub frames-read : (x : Rule) → read_rule (List Draft) note-frame x [] ≡ frames x
frames-read (rule e es n ns k c) =
    frames-items 0 (items (rule e es n ns k c)) _
    ∙ ap (λ (l : List Draft). l ++ frames_in (items (rule e es n ns k c))) (no_name_frame (declares Note (n ∷ ns)) _ ∙ no_name_frame (declares Event (e ∷ es)) [])

-- names
names-listed : (ns l : List Named) → read_each (read_name (List Named) note-name) ns l ≡ l ++ ns
names-listed [] l = sym (append-nil l)
names-listed (declared r p ∷ ns) l = grind (arith, append_assoc, names-listed ns (l ++ declared r p ∷ []))
names-listed (used r p ∷ ns) l = grind (arith, append_assoc, names-listed ns (l ++ used r p ∷ []))

adds-names : (f : Draft) (l : List Named) → read_draft (List Named) note-name f l ≡ l ++ names_of f
adds-names f l = idle-numbers note-name (λ b p m. refl) (numbers_of f) _ ∙ names-listed (names_of f) l

pub names-read : (x : Rule) → read_rule (List Named) note-name x [] ≡ names x
names-read (rule e es n ns k c) =
    noted note-name names_of (λ k m. refl) adds-names 0 (items (rule e es n ns k c)) _
    ∙ ap (λ (l : List Named). l ++ flat names_of (frames_in (items (rule e es n ns k c))))
    (names-listed (declares Note (n ∷ ns)) (read_names (List Named) note-name Event (e ∷ es) [])
    ∙ ap (λ (l : List Named). l ++ declares Note (n ∷ ns)) (names-listed (declares Event (e ∷ es)) []))

-- numbers
numbers-listed : (vs l : List Sized) → read_each (read_number (List Sized) note-number) vs l ≡ l ++ vs
numbers-listed [] l = sym (append-nil l)
numbers-listed (sized_by b p ∷ vs) l = grind (arith, append_assoc, numbers-listed vs (l ++ sized_by b p ∷ []))

no_name_number : (ns : List Named) (l : List Sized) → read_each (read_name (List Sized) note-number) ns l ≡ l
no_name_number = idle-names note-number (λ r p l. refl) (λ r p l. refl)

adds-numbers : (f : Draft) (l : List Sized) → read_draft (List Sized) note-number f l ≡ l ++ numbers_of f
adds-numbers f l = numbers-listed (numbers_of f) _ ∙ ap (λ (m : List Sized). m ++ numbers_of f) (no_name_number (names_of f) l)

pub numbers-read : (x : Rule) → read_rule (List Sized) note-number x [] ≡ numbers x
numbers-read (rule e es n ns k c) =
    noted note-number numbers_of (λ k m. refl) adds-numbers 0 (items (rule e es n ns k c)) _
    ∙ ap (λ (l : List Sized). l ++ flat numbers_of (frames_in (items (rule e es n ns k c)))) (no_name_number (declares Note (n ∷ ns)) _ ∙ no_name_number (declares Event (e ∷ es)) [])

-- ---- depth: the register stops at 17
deeper-is : (d : ℕ) → d ≤ 17 → deeper d ≡ min 17 (d + 1)
unfolding deeper
deeper-is d h = grind (arith, nat_tests)

down_is : (k d : ℕ) → d ≤ 17 → down k d ≡ min 17 (d + k)
down_is zero d h = omega arith
down_is (suc k) d h = grind (arith, deeper-is d h, down_is k (deeper d))

no_name_depth : (ns : List Named) (t : ℕ) → read_each (read_name ℕ note-depth) ns t ≡ t
no_name_depth = idle-names note-depth (λ r p t. refl) (λ r p t. refl)

keeps-depth : (f : Draft) (t : ℕ) → read_draft ℕ note-depth f t ≡ t
keeps-depth f t = idle-numbers note-depth (λ b p u. refl) (numbers_of f) _ ∙ no_name_depth (names_of f) t

cap_max : (a b : ℕ) → min 17 (max a b) ≡ max (min 17 a) (min 17 b)
cap_max a b = omega arith

max-three : (t a b : ℕ) → max (max t a) b ≡ max t (max a b)
max-three t a b = omega arith

depth-items : (is : List Item) (t : ℕ) → read_items ℕ note-depth 0 is t ≡ max t (min 17 (deepest is))
depth-items [] t = omega arith
depth-items (enters k ∷ is) t = grind (arith, down_is k 0, depth-items is (max t (down k 0)))
depth-items (puts f ∷ is) t = grind (arith, keeps-depth f t, depth-items is t)

-- the greatest depth entered, which stops at 17, is the tree's
pub depth-read : (x : Rule) → read_rule ℕ note-depth x 0 ≡ min 17 (depth x)
depth-read (rule e es n ns k c) =
    rw (no_name_depth (declares Event (e ∷ es)) 0, no_name_depth (declares Note (n ∷ ns)) 0) (let q = depth-items (items (rule e es n ns k c)) 0 in omega arith)
