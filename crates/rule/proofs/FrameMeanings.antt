-- The frames of what a tree means are the tree's frames with names and numbers looked up, in the same order; and it is within
-- the limits where they are. Assumes nothing.
use mathlib.Core.Path.{◌≡◌, refl, ap, ap₂, sym, subst, ◌∙◌}
use mathlib.Core.Option.{Option, none, some}
use mathlib.Core.List.{List, [], ◌∷◌, ◌++◌}
use Prim.Native.Nat.{ℕ}
use lib.IntN.{pos}
use Rattle.rule.specs.Frames.{Arithmetic, Connective, Kind, scale_byte, frame, bare}
use Rattle.rule.specs.Grammar
use Rattle.rule.specs.Tree.{LimitsS, LimitsC, Limits, postfix_s, postfix_c, postfix}
use Rattle.rule.specs.Limits.{decimal_limit}
use Rattle.rule.specs.Scale.{literal_decimals}
use Rattle.rule.specs.Draft.{Draft, alone, relation_of, sign_of}
use Rattle.rule.specs.Items.{Item, enters, puts, inside, operates}
use Rattle.rule.specs.Items.{items_cond, items_disj, items_conj, items_unit, items_sum, items_prod, items_factor}
use Rattle.rule.specs.Measure.{frames_in, frames}
use Rattle.rule.specs.Meaning.{meaning_sum, meaning_prod, meaning_factor, meaning_cond, meaning_disj, meaning_conj, meaning_unit, meaning_of}
use Rattle.rule.specs.declared.Frame.{Frame}
use Rattle.rule.specs.declared.parts.Place.{Place}
use Rattle.rule.proofs.ReaderFrames.{each}
use Rattle.rule.proofs.FrameDrafts.{each_append, All, all_left, all_right, frame_of, LimitsD, head-fits, literal-fits, reference-fits}

-- ---- the frames of items
frames_append : (a b : List Item) → frames_in (a ++ b) ≡ frames_in a ++ frames_in b
frames_append [] b = refl
frames_append (enters d ∷ a) b = frames_append a b
frames_append (puts f ∷ a) b = ap (λ (l : List Draft). f ∷ l) (frames_append a b)

-- one level further in
frames_in_lem : (a : List Item) → frames_in (inside a) ≡ frames_in a
frames_in_lem [] = refl
frames_in_lem (enters d ∷ a) = frames_in_lem a
frames_in_lem (puts f ∷ a) = ap (λ (l : List Draft). f ∷ l) (frames_in_lem a)

-- the most decimals that a literal of a rule may have
abbrev pub most_decimals : Grammar.Rule → ℕ
most_decimals (Grammar.rule e es n ns none c) = 0
most_decimals (Grammar.rule e es n ns (some p) c) = decimal_limit

module _ (event_of note_of value decimals : Place → ℕ) (z : Option ℕ) where
  abbrev looked_up : Draft → Frame
  looked_up d = frame_of event_of note_of value decimals d

  abbrev Fits : Draft → Type 0
  Fits d = LimitsD event_of note_of value decimals (literal_decimals z) d

  -- ---- t is what the items mean: it has their frames, and is within the limits where they are
  record Means {T : Type 0} (post : T → List Frame) (Lim : T → Type 0) (l : List Item) (t : T) : Type 0 where
    its-frames : post t ≡ each looked_up (frames_in l)
    its-limits : All Fits (frames_in l) → Lim t

  within : {T : Type 0} {post : T → List Frame} {Lim : T → Type 0} {t : T} (l : List Item) → Means post Lim l t → Means post Lim (inside l) t
  within l q = record { its-frames = q.its-frames ∙ ap (each looked_up) (sym (frames_in_lem l)); its-limits = λ h. q.its-limits (subst (All Fits) (frames_in_lem l) h) }

  module _ {T U : Type 0} {post : T → List Frame} {post' : U → List Frame} {Lim : T → Type 0} {Lim' : U → Type 0} where
    -- an operation on t, and on two
    one : (x : List Item) (k : Kind) {t : T} {u : U} → Means post Lim x t → post' u ≡ post t ++ (bare k ∷ []) → (Lim t → Lim' u)
        → Means post' Lim' (x ++ operates k) u
    one x k p e f =
        record {
          its-frames = e ∙ (ap (λ (a : List Frame). a ++ (bare k ∷ [])) p.its-frames ∙ sym (ap (each looked_up) (frames_append x (operates k)) ∙ each_append looked_up (frames_in x) (alone k ∷ [])));
          its-limits = λ h. f (p.its-limits (all_left Fits (frames_in x) (alone k ∷ []) (subst (All Fits) (frames_append x (operates k)) h)));
        }

  module _ {T U : Type 0} {post : T → List Frame} {post' : U → List Frame} {Lim : T → Type 0} {Lim' : U → Type 0} where
    two : (x y : List Item) (k : Kind) {s t : T} {u : U} → Means post Lim x s → Means post Lim y t → post' u ≡ (post s ++ post t) ++ (bare k ∷ [])
        → (Lim s × Lim t → Lim' u) → Means post' Lim' (x ++ y ++ operates k) u
    two x y k {s} {t} p q e f = one {T = T × T} {post = λ (a : T × T). post a.0 ++ post a.1} {Lim = λ (a : T × T). Lim a.0 × Lim a.1} (x ++ y) k {t = (s, t)} both e f
      where
        both : Means (λ (a : T × T). post a.0 ++ post a.1) (λ (a : T × T). Lim a.0 × Lim a.1) (x ++ y) (s, t)
        both =
            record {
              its-frames = ap₂ (λ (a b : List Frame). a ++ b) p.its-frames q.its-frames ∙ sym (ap (each looked_up) (frames_append x y) ∙ each_append looked_up (frames_in x) (frames_in y));
              its-limits = λ h. let g = subst (All Fits) (frames_append x y) h in (p.its-limits (all_left Fits (frames_in x) (frames_in y) g), q.its-limits (all_right Fits (frames_in x) (frames_in y) g));
            }

  mutual
    in_sum : (x : Grammar.Sum) → Means postfix_s (LimitsS z) (items_sum x) (meaning_sum event_of note_of value decimals x)
    in_sum (Grammar.a_prod x) = in_prod x
    in_sum (Grammar.add x g y) = two (items_sum x) (items_prod y) (Kind.arithmetic (sign_of g)) (in_sum x) (in_prod y) refl (λ h. h)

    in_prod : (x : Grammar.Prod) → Means postfix_s (LimitsS z) (items_prod x) (meaning_prod event_of note_of value decimals x)
    in_prod (Grammar.a_factor x) = in_factor x
    in_prod (Grammar.multiply x y) = two (items_prod x) (items_factor y) (Kind.arithmetic Arithmetic.multiply) (in_prod x) (in_factor y) refl (λ h. h)

    in_factor : (x : Grammar.Factor) → Means postfix_s (LimitsS z) (items_factor x) (meaning_factor event_of note_of value decimals x)
    in_factor (Grammar.literal p) = record { its-frames = refl; its-limits = λ h. literal-fits event_of note_of value decimals (literal_decimals z) p h.0 }
    in_factor (Grammar.Factor.decimal p) = record { its-frames = refl; its-limits = λ h. literal-fits event_of note_of value decimals (literal_decimals z) p h.0 }
    in_factor Grammar.var = record { its-frames = refl; its-limits = λ h. tt }
    in_factor (Grammar.parens x) = within (items_sum x) (in_sum x)
    in_factor (Grammar.absolute x) = one (inside (items_sum x)) Kind.absolute (within (items_sum x) (in_sum x)) refl (λ h. h)
    in_factor (Grammar.reference n e (Grammar.index f o)) = record { its-frames = refl; its-limits = λ h. reference-fits event_of note_of value decimals (literal_decimals z) n e f o h.0 }

  mutual
    in_cond : (x : Grammar.Cond) → Means postfix_c (LimitsC z) (items_cond x) (meaning_cond event_of note_of value decimals x)
    in_cond (Grammar.a_disj x) = in_disj x
    in_cond (Grammar.implies x y) = two (items_disj x) (inside (items_cond y)) (Kind.connective Connective.implies) (in_disj x) (within (items_cond y) (in_cond y)) refl (λ h. h)

    in_disj : (x : Grammar.Disj) → Means postfix_c (LimitsC z) (items_disj x) (meaning_disj event_of note_of value decimals x)
    in_disj (Grammar.a_conj x) = in_conj x
    in_disj (Grammar.or x y) = two (items_disj x) (items_conj y) (Kind.connective Connective.or) (in_disj x) (in_conj y) refl (λ h. h)

    in_conj : (x : Grammar.Conj) → Means postfix_c (LimitsC z) (items_conj x) (meaning_conj event_of note_of value decimals x)
    in_conj (Grammar.a_unit x) = in_unit x
    in_conj (Grammar.and x y) = two (items_conj x) (items_unit y) (Kind.connective Connective.and) (in_conj x) (in_unit y) refl (λ h. h)

    in_unit : (x : Grammar.CUnit) → Means postfix_c (LimitsC z) (items_unit x) (meaning_unit event_of note_of value decimals x)
    in_unit (Grammar.not x) = one (inside (items_unit x)) Kind.negation (within (items_unit x) (in_unit x)) refl (λ h. h)
    in_unit (Grammar.group x) = within (items_cond x) (in_cond x)
    in_unit (Grammar.relation x c y) = two (items_sum x) (items_sum y) (Kind.relation (relation_of c)) (in_sum x) (in_sum y) refl (λ h. h)

module _ (event_of note_of value decimals : Place → ℕ) where
  pub postfix-frames : (x : Grammar.Rule) → postfix (meaning_of event_of note_of value decimals x) ≡ each (frame_of event_of note_of value decimals) (frames x)
  postfix-frames (Grammar.rule e es n ns none c) = (in_cond event_of note_of value decimals none c).its-frames
  postfix-frames (Grammar.rule e es n ns (some p) c) = ap (λ (l : List Frame). frame scale_byte (value p) 0 0 (pos 0) ∷ l) (in_cond event_of note_of value decimals none c).its-frames

  pub limits-frames : (x : Grammar.Rule) → All (LimitsD event_of note_of value decimals (most_decimals x)) (frames x) → Limits (meaning_of event_of note_of value decimals x)
  limits-frames (Grammar.rule e es n ns none c) h = (tt, (in_cond event_of note_of value decimals none c).its-limits h)
  limits-frames (Grammar.rule e es n ns (some p) c) h =
      (head-fits event_of note_of value decimals decimal_limit p h.0, (in_cond event_of note_of value decimals (some (value p)) c).its-limits h.1)
