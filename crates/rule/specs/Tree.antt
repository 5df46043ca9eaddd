-- A rule as a tree: sums and conditions, their limits, their frames in postfix order, their references and magnitudes.
-- From document 01, "From rule text to frames", and document 02, point 1. Assumes nothing: definitions.
use Rattle.std.specs.Prelude.{◌≡◌, List, [], ◌∷◌, ◌++◌, ℕ, ◌+◌, ◌*◌, ◌/◌, ◌%◌, ◌≤◌, ◌<◌}
use Rattle.std.specs.Prelude.{ℤ, pos, nat_abs}
use Rattle.std.proofs.Math.Option.{Option}
use Rattle.std.specs.Int.{w32}
use Rattle.std.proofs.Common.{of_z}
use Rattle.rule.specs.Limits.{event_limit, note_limit, factor_limit, offset_limit, literal_limit, instance_magnitude}
use Rattle.rule.specs.Limits.{reference_magnitude, magnitude_limit}
use Rattle.rule.specs.Frames.{Source, Arithmetic, add, subtract, multiply, Relation, Connective}
use Rattle.rule.specs.Frames.{Kind, kind_byte, frame, bare}
use Rattle.rule.specs.Scale.{note_decimals, literal_decimals, ScaleFits, head_of}
use Rattle.rule.specs.Decimals.{Term, term, joined, multiplied, left_side, right_side}
use Rattle.rule.specs.declared.Frame.{Frame}

-- ---- trees
-- a reference: a note of an event's occurrence factor × i + offset
pub record Reference : Type 0 where
  pub event : ℕ
  pub note : ℕ
  pub factor : ℕ
  pub offset : ℤ

-- sums; instance is the document's i, and a literal's value is that of "its digits without the point"
pub data Sum : Type 0 where
  literal : (decimals value : ℕ) → Sum
  instance : Sum
  reference : Reference → Sum
  arithmetic : Arithmetic → Sum → Sum → Sum
  abs : Sum → Sum

-- conditions; connective joins two by and, or, implies
pub data Cond : Type 0 where
  relation : Relation → Sum → Sum → Cond
  not : Cond → Cond
  connective : Connective → Cond → Cond → Cond

-- a rule: its scale, none without the clause, and its condition
pub record RuleTree : Type 0 where
  pub scale : Option ℕ
  pub condition : Cond

-- ---- the fields' limits: "Events and notes are numbered from 0 .. The factor of i is 1 to 9"
pub record LimitsR (r : Reference) : Type 0 where
  pub event : r.event < event_limit
  pub note : r.note < note_limit
  pub least : 1 ≤ r.factor
  pub factor : r.factor ≤ factor_limit
  pub offset : nat_abs r.offset ≤ offset_limit

-- "a literal at most 2,147,483,647", and the decimals that the scale lets it have
module _ (z : Option ℕ) where
  abbrev pub LimitsS : Sum → Type 0
  LimitsS (literal d n) = (d ≤ literal_decimals z) × (n ≤ literal_limit)
  LimitsS instance = Unit {0}
  LimitsS (reference r) = LimitsR r
  LimitsS (arithmetic o a b) = LimitsS a × LimitsS b
  LimitsS (abs a) = LimitsS a

  -- of every sum in a condition
  abbrev pub LimitsC : Cond → Type 0
  LimitsC (relation r a b) = LimitsS a × LimitsS b
  LimitsC (not p) = LimitsC p
  LimitsC (connective j p q) = LimitsC p × LimitsC q

-- of a rule
abbrev pub Limits : RuleTree → Type 0
Limits t = ScaleFits t.scale × LimitsC t.scale t.condition

-- ---- "frames of 8 bytes in postfix order, left operand first"
abbrev pub postfix_s : Sum → List Frame
postfix_s (literal d n) = frame (kind_byte (Kind.operand Source.literal)) d 0 0 (pos n) ∷ []
postfix_s instance = bare (Kind.operand Source.instance) ∷ []
postfix_s (reference r) = frame (kind_byte (Kind.operand Source.reference)) r.event r.note r.factor r.offset ∷ []
postfix_s (arithmetic o a b) = (postfix_s a ++ postfix_s b) ++ (bare (Kind.arithmetic o) ∷ [])
postfix_s (abs a) = postfix_s a ++ (bare Kind.absolute ∷ [])

-- of a condition
abbrev pub postfix_c : Cond → List Frame
postfix_c (relation r a b) = (postfix_s a ++ postfix_s b) ++ (bare (Kind.relation r) ∷ [])
postfix_c (not p) = postfix_c p ++ (bare Kind.negation ∷ [])
postfix_c (connective j p q) = (postfix_c p ++ postfix_c q) ++ (bare (Kind.connective j) ∷ [])

-- of a rule, with "A frame of kind 04 at the head"
abbrev pub postfix : RuleTree → List Frame
postfix t = head_of t.scale ++ postfix_c t.condition

-- a word's four bytes, the first the most significant, before others
abbrev pub word_bytes : ℕ → List ℕ → List ℕ
word_bytes w s = w / 256 / 256 / 256 ∷ (w / 256 / 256 % 256 ∷ (w / 256 % 256 ∷ (w % 256 ∷ s)))

-- "Bytes: 0 kind, 1 event, 2 note, 3 factor, 4 to 7 offset or literal, signed, big-endian"
abbrev pub bytes_of : List Frame → List ℕ
bytes_of [] = []
bytes_of (x ∷ fs) = x.kind ∷ (x.event ∷ (x.note ∷ (x.factor ∷ word_bytes (of_z w32 x.value) (bytes_of fs))))

-- the bytes are the frames of a tree within the limits
pub record IsRule (s : List ℕ) : Type 0 where
  pub tree : RuleTree
  pub limits : Limits tree
  pub bytes : s ≡ bytes_of (postfix tree)

-- ---- the references that a rule names, in frame order
abbrev pub references_s : Sum → List Reference
references_s (literal d n) = []
references_s instance = []
references_s (reference r) = r ∷ []
references_s (arithmetic o a b) = references_s a ++ references_s b
references_s (abs a) = references_s a

-- of a condition
abbrev pub references_c : Cond → List Reference
references_c (relation r a b) = references_s a ++ references_s b
references_c (not p) = references_c p
references_c (connective j p q) = references_c p ++ references_c q

-- of a rule
abbrev pub references : RuleTree → List Reference
references t = references_c t.condition

-- ---- magnitude, the document's word for a bound on a sum's value: a term, taken after both sides are brought to one count
-- "add and subtract sum both sides', multiply multiplies"
abbrev pub grown : Arithmetic → Term ℕ → Term ℕ → Term ℕ
grown add x y = joined ◌*◌ ◌+◌ x y
grown subtract x y = joined ◌*◌ ◌+◌ x y
grown multiply x y = multiplied ◌*◌ x y

-- of each note's decimals
module _ (k : ℕ) where
  -- "a literal its own value, i 2^20, a reference 2^31 .. abs keeps it"; "i has none", a note k decimals
  abbrev pub magnitude : Sum → Term ℕ
  magnitude (literal d n) = term n d
  magnitude instance = term instance_magnitude 0
  magnitude (reference r) = term reference_magnitude k
  magnitude (arithmetic o a b) = grown o (magnitude a) (magnitude b)
  magnitude (abs a) = magnitude a

  -- "a count of decimals"
  abbrev pub decimals : Sum → ℕ
  decimals a = (magnitude a).decimals

  -- the magnitudes of a sum and of every sum in it
  abbrev pub magnitudes_s : Sum → List ℕ
  magnitudes_s (literal d n) = (magnitude (literal d n)).amount ∷ []
  magnitudes_s instance = (magnitude instance).amount ∷ []
  magnitudes_s (reference r) = (magnitude (reference r)).amount ∷ []
  magnitudes_s (arithmetic o a b) = (magnitude (arithmetic o a b)).amount ∷ (magnitudes_s a ++ magnitudes_s b)
  magnitudes_s (abs a) = (magnitude (abs a)).amount ∷ magnitudes_s a

  -- "Magnitudes, those of a relation's sides too, are taken after that"
  abbrev pub sides : Sum → Sum → List ℕ
  sides a b = left_side ◌*◌ (magnitude a) (magnitude b) ∷ right_side ◌*◌ (magnitude a) (magnitude b) ∷ []

  -- of a condition
  abbrev pub magnitudes_c : Cond → List ℕ
  magnitudes_c (relation r a b) = (magnitudes_s a ++ magnitudes_s b) ++ sides a b
  magnitudes_c (not p) = magnitudes_c p
  magnitudes_c (connective j p q) = magnitudes_c p ++ magnitudes_c q

-- of a rule
abbrev pub magnitudes : RuleTree → List ℕ
magnitudes t = magnitudes_c (note_decimals t.scale) t.condition

-- "None exceeds 2^62"
abbrev pub NoneExceeds : List ℕ → Type 0
NoneExceeds [] = Unit {0}
NoneExceeds (m ∷ rest) = (m ≤ magnitude_limit) × NoneExceeds rest
