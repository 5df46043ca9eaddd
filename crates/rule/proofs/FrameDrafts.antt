-- A frame before its names and numbers are looked up, and after: within the limits if they are, and the same where they are.
-- Assumes nothing.
use mathlib.Core.Path.{◌≡◌, refl, ap, ap₂}
use mathlib.Core.Bool.{Bool, true, false, cond}
use mathlib.Core.List.{List, [], ◌∷◌, ◌++◌}
use Prim.Native.Nat.{ℕ, zero, suc, ◌≤◌, ◌<◌}
use native.Mathlib.Omega.{arith}
use lib.Dec.{ltb, eqb}
use lib.IntN.{pos, neg_ℤ, nat_abs}
use lib.ListN.{length}
use borrow.Author.Tests.{ltb-false, eqb-false}
use Rattle.numbers.proofs.Ints.{nat_abs_neg}
use Rattle.rule.specs.Limits.{event_limit, note_limit, factor_limit, offset_limit, literal_limit, decimal_limit}
use Rattle.rule.specs.Frames.{Source, Kind, kind_byte, scale_byte, frame, bare}
use Rattle.rule.specs.Grammar.{index}
use Rattle.rule.specs.Tree.{LimitsR}
use Rattle.rule.specs.Draft.{Draft, head, lit, index_var, ref, plain}
use Rattle.rule.specs.Measure.{Named, declared, used, Sized, sized_by, multiple_numbers, shift_numbers, names_of, numbers_of}
use Rattle.rule.specs.Spelling.{beyond}
use Rattle.rule.specs.Meaning.{factor_at, offset_at, reference_at}
use Rattle.rule.specs.declared.Frame.{Frame}
use Rattle.rule.specs.declared.parts.Place.{Place}
use Rattle.rule.specs.declared.parts.Role.{Role}
use Rattle.rule.specs.declared.parts.Role.TheVariants.{Event, Note}
use Rattle.rule.specs.declared.parts.Limit.TheVariants.{OfClause, OfLiteral, OfFactor, OfOffset}
use Rattle.rule.specs.declared.parts.Sign.TheVariants.{Plus, Minus}
use Rattle.rule.specs.declared.parts.Multiple.{Multiple}
use Rattle.rule.specs.declared.parts.Multiple.TheVariants.{Once, Times}
use Rattle.rule.specs.declared.parts.Shift.{Shift}
use Rattle.rule.specs.declared.parts.Shift.TheVariants.{Unshifted, By}
use Rattle.rule.proofs.ReaderFrames.{each}

-- ---- lists
pub each_append : {A B : Type 0} (g : A → B) (xs ys : List A) → each g (xs ++ ys) ≡ each g xs ++ each g ys
each_append g [] ys = refl
each_append g (x ∷ xs) ys = ap (λ z. g x ∷ z) (each_append g xs ys)

pub length-each : {A B : Type 0} (g : A → B) (xs : List A) → length (each g xs) ≡ length xs
length-each g [] = refl
length-each g (x ∷ xs) = rw (length-each g xs)

-- what holds of every element
abbrev pub All : {A : Type 0} → (A → Type 0) → List A → Type 0
All P [] = Unit {0}
All P (x ∷ xs) = P x × All P xs

pub all_join : {A : Type 0} (P : A → Type 0) (xs ys : List A) → All P xs → All P ys → All P (xs ++ ys)
all_join P [] ys p q = q
all_join P (x ∷ xs) ys p q = (p.0, all_join P xs ys p.1 q)

pub all_left : {A : Type 0} (P : A → Type 0) (xs ys : List A) → All P (xs ++ ys) → All P xs
all_left P [] ys p = tt
all_left P (x ∷ xs) ys p = (p.0, all_left P xs ys p.1)

pub all_right : {A : Type 0} (P : A → Type 0) (xs ys : List A) → All P (xs ++ ys) → All P ys
all_right P [] ys p = p
all_right P (x ∷ xs) ys p = all_right P xs ys p.1

-- ---- the names of a frame are used, not declared
abbrev pub Used : Named → Type 0
Used (declared r p) = ⊥
Used (used r p) = Unit {0}

pub names_used : (d : Draft) → All Used (names_of d)
names_used (head p) = tt
names_used (lit p) = tt
names_used index_var = tt
names_used (ref n e f o) = (tt, (tt, tt))
names_used (plain k) = tt

-- decimals within their limits: at most 6 in the clause, at most z in a literal
abbrev pub DecimalsFit : (value decimals : Place → ℕ) → ℕ → Sized → Type 0
DecimalsFit value decimals z (sized_by OfClause p) = value p ≤ decimal_limit
DecimalsFit value decimals z (sized_by OfLiteral p) = decimals p ≤ z
DecimalsFit value decimals z (sized_by OfFactor p) = Unit {0}
DecimalsFit value decimals z (sized_by OfOffset p) = Unit {0}

-- a number within its limits
abbrev pub Fine : (value decimals : Place → ℕ) → ℕ → Sized → Type 0
Fine value decimals z (sized_by l p) = (beyond l (value p) ≡ false) × DecimalsFit value decimals z (sized_by l p)

module _ (event_of note_of value decimals : Place → ℕ) where
  -- a frame with its names and numbers looked up
  abbrev pub frame_of : Draft → Frame
  frame_of (head p) = frame scale_byte (value p) 0 0 (pos 0)
  frame_of (lit p) = frame (kind_byte (Kind.operand Source.literal)) (decimals p) 0 0 (pos (value p))
  frame_of index_var = bare (Kind.operand Source.instance)
  frame_of (ref n e f o) = frame (kind_byte (Kind.operand Source.reference)) (event_of e) (note_of n) (factor_at event_of note_of value decimals f) (offset_at event_of note_of value decimals o)
  frame_of (plain k) = frame k 0 0 0 (pos 0)

  -- a name that has a number
  abbrev pub NameFits : Named → Type 0
  NameFits (declared r p) = Unit {0}
  NameFits (used Event p) = event_of p < event_limit
  NameFits (used Note p) = note_of p < note_limit

  -- a frame within the limits: its names and numbers are; z is the most decimals that a literal may have
  abbrev pub LimitsD : ℕ → Draft → Type 0
  LimitsD z d = All NameFits (names_of d) × All (Fine value decimals z) (numbers_of d)

  pub head-fits : (z : ℕ) (p : Place) → LimitsD z (head p) → value p ≤ decimal_limit
  head-fits z p l = l.1.0.1

  pub literal-fits : (z : ℕ) (p : Place) → LimitsD z (lit p) → (decimals p ≤ z) × (value p ≤ literal_limit)
  literal-fits z p l = (l.1.0.1, ltb-false literal_limit (value p) l.1.0.0)

  factor-fits : (z : ℕ) (f : Multiple) → All (Fine value decimals z) (multiple_numbers f) → (1 ≤ factor_at event_of note_of value decimals f) × (factor_at event_of note_of value decimals f ≤ factor_limit)
  factor-fits z Once h = (omega arith, omega arith)
  factor-fits z (Times p) h = go (eqb (value p) 0) refl h.0.0
    where
      go : (b : Bool) → eqb (value p) 0 ≡ b → cond b true (ltb factor_limit (value p)) ≡ false → (1 ≤ value p) × (value p ≤ factor_limit)
      go true e f = let z : ◌≡◌ {A = ℕ} 0 1 = cc in absurd (omega arith)
      go false e f = (some-value (value p) (eqb-false (value p) 0 e), ltb-false factor_limit (value p) f)
        where
          some-value : (v : ℕ) → (v ≡ 0 → ⊥) → 1 ≤ v
          some-value zero h = absurd (h refl)
          some-value (suc v) h = omega arith

  offset-fits : (z : ℕ) (o : Shift) → All (Fine value decimals z) (shift_numbers o) → nat_abs (offset_at event_of note_of value decimals o) ≤ offset_limit
  offset-fits z Unshifted h = omega arith
  offset-fits z (By Plus p) h = ltb-false offset_limit (value p) h.0.0
  offset-fits z (By Minus p) h = rw nat_abs_neg (ltb-false offset_limit (value p) h.0.0)

  pub reference-fits : (z : ℕ) (n e : Place) (f : Multiple) (o : Shift) → LimitsD z (ref n e f o) → LimitsR (reference_at event_of note_of value decimals n e (index f o))
  reference-fits z n e f o l =
      let h = factor-fits z f (all_left (Fine value decimals z) (multiple_numbers f) (shift_numbers o) l.1) in
      let k = offset-fits z o (all_right (Fine value decimals z) (multiple_numbers f) (shift_numbers o) l.1) in
      record { event = l.0.1.0; note = l.0.0; least = h.0; factor = h.1; offset = k }

-- ---- two ways to number names and to value numbers, with one count of decimals, which agree on those that the tree has
module _ (number number' : Role → Place → ℕ) (value value' decimals : Place → ℕ) where
  abbrev pub Numbered : Named → Type 0
  Numbered (declared r p) = Unit {0}
  Numbered (used r p) = number r p ≡ number' r p

  abbrev pub Valued : Sized → Type 0
  Valued (sized_by l p) = value p ≡ value' p

  factor-alike : (f : Multiple) → All Valued (multiple_numbers f) → factor_at (number Event) (number Note) value decimals f ≡ factor_at (number' Event) (number' Note) value' decimals f
  factor-alike Once k = refl
  factor-alike (Times p) k = k.0

  offset-alike : (o : Shift) → All Valued (shift_numbers o) → offset_at (number Event) (number Note) value decimals o ≡ offset_at (number' Event) (number' Note) value' decimals o
  offset-alike Unshifted k = refl
  offset-alike (By Plus p) k = ap pos k.0
  offset-alike (By Minus p) k = ap (λ (v : ℕ). neg_ℤ (pos v)) k.0

  -- each frame is one frame by both
  abbrev pub Alike : Draft → Type 0
  Alike d = frame_of (number Event) (number Note) value decimals d ≡ frame_of (number' Event) (number' Note) value' decimals d

  pub alike : (d : Draft) → All Numbered (names_of d) → All Valued (numbers_of d) → Alike d
  alike (head p) h k = ap (λ (v : ℕ). frame scale_byte v 0 0 (pos 0)) k.0
  alike (lit p) h k = ap (λ (v : ℕ). frame (kind_byte (Kind.operand Source.literal)) (decimals p) 0 0 (pos v)) k.0
  alike index_var h k = refl
  alike (ref n e f o) h k = rw (h.0, h.1.0, factor-alike f (all_left Valued (multiple_numbers f) (shift_numbers o) k), offset-alike o (all_right Valued (multiple_numbers f) (shift_numbers o) k))
  alike (plain k) h l = refl

  pub all_alike : (ds : List Draft) → All Alike ds → each (frame_of (number Event) (number Note) value decimals) ds ≡ each (frame_of (number' Event) (number' Note) value' decimals) ds
  all_alike [] h = refl
  all_alike (d ∷ ds) h = ap₂ (λ (x : Frame) (l : List Frame). x ∷ l) h.0 (all_alike ds h.1)
