-- What reading a tree does to a memory: what its items do, in the order of the text. Assumes nothing.
use mathlib.Core.Path.{◌≡◌, refl, ap, ◌∙◌}
use mathlib.Core.List.{List, [], ◌∷◌, ◌++◌}
use Prim.Native.Nat.{ℕ, zero, suc}
use Rattle.rule.specs.declared.parts.Place.{Place}
use Rattle.rule.specs.declared.parts.Role.{Role}
use Rattle.rule.specs.declared.parts.Role.TheVariants.{Event, Note}
use Rattle.rule.specs.Frames.{Kind}
use Rattle.rule.specs.Grammar.{Rule, rule}
use Rattle.rule.specs.Draft.{Draft, alone}
use Rattle.rule.specs.Items.{Item, enters, puts, deepened, inside, operates, items}
use Rattle.rule.specs.Measure.{Named, declared, used, Sized, sized_by, names_of, numbers_of, declares}
use Rattle.rule.specs.Machine.{Act, declare, uses, sized, enter, out, deeper}

-- k levels deeper than d, as the machine counts
abbrev pub down : ℕ → ℕ → ℕ
down zero d = d
down (suc k) d = down k (deeper d)

-- f of each member, one after the other
abbrev pub read_each : {A M : Type 0} → (A → M → M) → List A → M → M
read_each f [] m = m
read_each f (x ∷ xs) m = read_each f xs (f x m)

module _ (M : Type 0) (act : Act → M → M) where
  abbrev pub read_name : Named → M → M
  read_name (declared r p) m = act (declare r p) m
  read_name (used r p) m = act (uses r p) m

  abbrev pub read_number : Sized → M → M
  read_number (sized_by l p) m = act (sized l p) m

  -- a frame: its names and numbers, then the frame itself
  abbrev pub read_draft : Draft → M → M
  read_draft f m = act (out f) (read_each read_number (numbers_of f) (read_each read_name (names_of f) m))

  -- items that stand at depth d
  abbrev pub read_items : ℕ → List Item → M → M
  read_items d [] m = m
  read_items d (enters k ∷ l) m = read_items d l (act (enter (down k d)) m)
  read_items d (puts f ∷ l) m = read_items d l (read_draft f m)

  abbrev pub read_names : Role → List Place → M → M
  read_names r ps m = read_each read_name (declares r ps) m

  abbrev pub read_rule : Rule → M → M
  read_rule (rule e es n ns k c) m = read_items 0 (items (rule e es n ns k c)) (read_names Note (n ∷ ns) (read_names Event (e ∷ es) m))

  -- items and then others
  read_append : (d : ℕ) (a b : List Item) (m : M) → read_items d (a ++ b) m ≡ read_items d b (read_items d a m)
  read_append d [] b m = refl
  read_append d (enters k ∷ a) b m = read_append d a b (act (enter (down k d)) m)
  read_append d (puts f ∷ a) b m = read_append d a b (read_draft f m)

  -- one level further in
  pub read_in : (d : ℕ) (a : List Item) (m : M) → read_items d (inside a) m ≡ read_items (deeper d) a (act (enter (deeper d)) m)
  read_in d a m = go a (act (enter (deeper d)) m)
    where
      go : (l : List Item) (m₁ : M) → read_items d (deepened l) m₁ ≡ read_items (deeper d) l m₁
      go [] m₁ = refl
      go (enters k ∷ l) m₁ = go l (act (enter (down k (deeper d))) m₁)
      go (puts f ∷ l) m₁ = go l (read_draft f m₁)

  -- an operation, after one operand and after two
  read_one : (d : ℕ) (a : List Item) (k : Kind) (m : M) → read_items d (a ++ operates k) m ≡ act (out (alone k)) (read_items d a m)
  read_one d a k m = read_append d a (operates k) m

  pub read-two : (d : ℕ) (a b : List Item) (k : Kind) (m : M)
      → read_items d (a ++ b ++ operates k) m ≡ act (out (alone k)) (read_items d b (read_items d a m))
  read-two d a b k m = read_one d (a ++ b) k m ∙ ap (act (out (alone k))) (read_append d a b m)

  -- the last operand one level further in
  pub read_one_in : (d : ℕ) (a : List Item) (k : Kind) (m : M)
      → read_items d (inside a ++ operates k) m ≡ act (out (alone k)) (read_items (deeper d) a (act (enter (deeper d)) m))
  read_one_in d a k m = read_one d (inside a) k m ∙ ap (act (out (alone k))) (read_in d a m)

  pub read_two_in : (d : ℕ) (a b : List Item) (k : Kind) (m : M)
      → read_items d (a ++ inside b ++ operates k) m ≡ act (out (alone k)) (read_items (deeper d) b (act (enter (deeper d)) (read_items d a m)))
  read_two_in d a b k m = read-two d a (inside b) k m ∙ ap (act (out (alone k))) (read_in d b (read_items d a m))
