-- What a tree holds: its depth, its frames, its names and its numbers, each in the order of the text.
-- From 'From rule text to frames' of document 01 and point 1 of document 02. Assumes nothing: definitions.
use Rattle.std.specs.Prelude.{ℕ, max, List, [], ◌∷◌, ◌++◌}
use Rattle.rule.specs.Grammar.{Rule, rule}
use Rattle.rule.specs.Draft.{Draft, head, lit, index_var, ref, plain}
use Rattle.rule.specs.Items.{Item, enters, puts, items}
use Rattle.rule.specs.declared.parts.Place.{Place}
use Rattle.rule.specs.declared.parts.Role.{Role}
use Rattle.rule.specs.declared.parts.Role.TheVariants.{Event, Note}
use Rattle.rule.specs.declared.parts.Limit.{Limit}
use Rattle.rule.specs.declared.parts.Limit.TheVariants.{OfClause, OfLiteral, OfFactor, OfOffset}
use Rattle.rule.specs.declared.parts.Multiple.{Multiple}
use Rattle.rule.specs.declared.parts.Multiple.TheVariants.{Once, Times}
use Rattle.rule.specs.declared.parts.Shift.{Shift}
use Rattle.rule.specs.declared.parts.Shift.TheVariants.{Unshifted, By}

-- ---- depth
-- the greatest depth that is entered, 0 if none is
abbrev pub deepest : List Item → ℕ
deepest [] = 0
deepest (enters d ∷ l) = max d (deepest l)
deepest (puts f ∷ l) = deepest l

-- "Depth at a point": the greatest at a point of the rule
abbrev pub depth : Rule → ℕ
depth x = deepest (items x)

-- ---- frames
-- the frames among the items
abbrev pub frames_in : List Item → List Draft
frames_in [] = []
frames_in (enters d ∷ l) = frames_in l
frames_in (puts f ∷ l) = f ∷ frames_in l

-- "in postfix order, left operand first", before names and numbers are looked up
abbrev pub frames : Rule → List Draft
frames x = frames_in (items x)

-- ---- names and numbers, in the order of the text
-- a name, declared or used, in its role
pub data Named : Type 0 where
  declared used : Role → Place → Named

-- a number, with the limit that it has
pub data Sized : Type 0 where
  sized_by : Limit → Place → Sized

-- what each member has, one after the other
abbrev pub flat : {A B : Type 0} → (A → List B) → List A → List B
flat g [] = []
flat g (x ∷ xs) = g x ++ flat g xs

-- [number "*"]: the factor of i
abbrev pub multiple_numbers : Multiple → List Sized
multiple_numbers Once = []
multiple_numbers (Times p) = sized_by OfFactor p ∷ []

-- [("+" or "-") number]: the offset
abbrev pub shift_numbers : Shift → List Sized
shift_numbers Unshifted = []
shift_numbers (By g p) = sized_by OfOffset p ∷ []

-- the names in a frame: of a reference "the note first, then the event"
abbrev pub names_of : Draft → List Named
names_of (head p) = []
names_of (lit p) = []
names_of index_var = []
names_of (ref n e f o) = used Note n ∷ used Event e ∷ []
names_of (plain k) = []

-- the numbers in a frame, each with its limit
abbrev pub numbers_of : Draft → List Sized
numbers_of (head p) = sized_by OfClause p ∷ []
numbers_of (lit p) = sized_by OfLiteral p ∷ []
numbers_of index_var = []
numbers_of (ref n e f o) = multiple_numbers f ++ shift_numbers o
numbers_of (plain k) = []

-- names declared in a role
abbrev pub declares : Role → List Place → List Named
declares r [] = []
declares r (p ∷ ps) = declared r p ∷ declares r ps

-- of the first line of a rule: events, then notes
abbrev pub header : Rule → List Named
header (rule e es n ns k c) = declares Event (e ∷ es) ++ declares Note (n ∷ ns)

-- of a rule: those declared, then those of its frames
abbrev pub names : Rule → List Named
names x = header x ++ flat names_of (frames x)

-- of a rule: those of its frames
abbrev pub numbers : Rule → List Sized
numbers x = flat numbers_of (frames x)
