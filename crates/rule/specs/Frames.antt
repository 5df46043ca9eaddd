-- Frames, the document's word for a step of a rule in 8 bytes: kinds and fields.
-- From document 01, "From rule text to frames" and "What is turned down", 10. Assumes nothing: definitions.
use Rattle.std.specs.Prelude.{Bool, ◌&&◌, cond, List, [], ◌∷◌, ℕ, ◌+◌, ◌*◌, ◌/◌, ◌<◌, leb, ltb, eqb}
use Rattle.std.specs.Prelude.{ℤ, pos, nat_abs, get_or, length}
use Rattle.std.specs.Int.Signed.{le_z}
use Rattle.numbers.specs.Word.{signed_word}
use Rattle.rule.specs.Limits.{event_limit, note_limit, factor_limit, offset_limit, frame_bytes}
use Rattle.rule.specs.declared.Frame.{Frame}

-- ---- kinds
-- operands; instance is the document's i
pub data Source : Type 0 where
  literal instance reference : Source

-- on two sums
pub data Arithmetic : Type 0 where
  add subtract multiply : Arithmetic

-- = != < <= > >=
pub data Relation : Type 0 where
  equal unequal less at_most more at_least : Relation

-- of two conditions
pub data Connective : Type 0 where
  and or implies : Connective

-- operands make a sum; absolute is abs, negation is not; none stands for every other byte
pub data Kind : Type 0 where
  operand : Source → Kind
  arithmetic : Arithmetic → Kind
  absolute : Kind
  relation : Relation → Kind
  negation : Kind
  connective : Connective → Kind
  none : Kind

-- "Kinds are 01 literal, 02 i, 03 reference, 11 add, .."; none has 0
abbrev pub kind_byte : Kind → ℕ
kind_byte (operand literal) = 0x01
kind_byte (operand instance) = 0x02
kind_byte (operand reference) = 0x03
kind_byte (arithmetic add) = 0x11
kind_byte (arithmetic subtract) = 0x12
kind_byte (arithmetic multiply) = 0x13
kind_byte absolute = 0x14
kind_byte (relation equal) = 0x21
kind_byte (relation unequal) = 0x22
kind_byte (relation less) = 0x23
kind_byte (relation at_most) = 0x24
kind_byte (relation more) = 0x25
kind_byte (relation at_least) = 0x26
kind_byte negation = 0x31
kind_byte (connective and) = 0x32
kind_byte (connective or) = 0x33
kind_byte (connective implies) = 0x34
kind_byte none = 0

-- "A frame of kind 04 at the head": the kind of no operation (document 02, point 1)
abbrev pub scale_byte : ℕ
scale_byte = 0x04

-- all of them, in this order
abbrev pub kinds : List Kind
kinds =
    operand literal ∷ operand instance ∷ operand reference
    ∷ arithmetic add ∷ arithmetic subtract ∷ arithmetic multiply ∷ absolute
    ∷ relation equal ∷ relation unequal ∷ relation less ∷ relation at_most ∷ relation more ∷ relation at_least
    ∷ negation ∷ connective and ∷ connective or ∷ connective implies ∷ []

-- the first of some kinds that has the byte
abbrev pub kind_in : List Kind → ℕ → Kind
kind_in [] b = none
kind_in (k ∷ ks) b = cond (eqb b (kind_byte k)) k (kind_in ks b)

-- the kind that has the byte, or none
unfoldable pub kind_of : ℕ → Kind
kind_of b = kind_in kinds b

-- what a byte asks for among operations of one sort: the first that has the byte, or else the last
module _ {A : Type 0} (kind : A → Kind) where
  abbrev pub asked_in : List A → A → ℕ → A
  asked_in [] last b = last
  asked_in (x ∷ xs) last b = cond (eqb b (kind_byte (kind x))) x (asked_in xs last b)

-- "11 add, 12 subtract, 13 multiply"
abbrev pub arithmetic_at : ℕ → Arithmetic
arithmetic_at = asked_in arithmetic (add ∷ subtract ∷ []) multiply

-- "21 to 26 the relations as listed"
abbrev pub relation_at : ℕ → Relation
relation_at = asked_in relation (equal ∷ unequal ∷ less ∷ at_most ∷ more ∷ []) at_least

-- "32 and, 33 or, 34 implies"
abbrev pub connective_at : ℕ → Connective
connective_at = asked_in connective (and ∷ or ∷ []) implies

-- what a frame takes and leaves: a sum of so many sums; a condition of the two sums that there are; a condition of so many
-- conditions, where no sum is left; or nothing, where no rule has it
pub data Effect : Type 0 where
  sum_of cond_of : ℕ → Effect
  relates no_rule : Effect

-- 10: "each operand a sum or a condition as the grammar has it"
abbrev pub effect : Kind → Effect
effect (operand s) = sum_of 0
effect (arithmetic o) = sum_of 2
effect absolute = sum_of 1
effect (relation r) = relates
effect negation = cond_of 1
effect (connective j) = cond_of 2
effect none = no_rule

-- ---- frames
-- a frame of its fields
abbrev pub frame : ℕ → ℕ → ℕ → ℕ → ℤ → Frame
frame k e n f v = record { kind = k; event = e; note = n; factor = f; value = v }

-- a frame that uses its kind alone: "unused bytes 0"
abbrev pub bare : Kind → Frame
bare k = frame (kind_byte k) 0 0 0 (pos 0)

-- the k-th frame: "0 kind, 1 event, 2 note, 3 factor, 4 to 7 offset or literal, signed, big-endian"
abbrev pub frame_at : List ℕ → ℕ → Frame
frame_at s k =
    frame (get_or s (k * frame_bytes) 0) (get_or s (k * frame_bytes + 1) 0)
    (get_or s (k * frame_bytes + 2) 0) (get_or s (k * frame_bytes + 3) 0)
    (signed_word (get_or s (k * frame_bytes + 4) 0) (get_or s (k * frame_bytes + 5) 0)
    (get_or s (k * frame_bytes + 6) 0) (get_or s (k * frame_bytes + 7) 0))

-- how many whole frames the bytes hold
abbrev pub frame_count : List ℕ → ℕ
frame_count s = length s / frame_bytes

-- every element is a byte
pub data Bytes : List ℕ → Type 0 where
  empty : Bytes []
  byte : {b : ℕ} {s : List ℕ} → b < 256 → Bytes s → Bytes (b ∷ s)

-- ---- the fields that a frame of a kind may have: 10, "with the fields above"
-- event, note and factor are 0
abbrev pub unused : Frame → Bool
unused x = eqb x.event 0 && eqb x.note 0 && eqb x.factor 0

-- "a literal its decimals in byte 1", at most so many; "literals not negative"
abbrev pub literal_fields : ℕ → Frame → Bool
literal_fields most x = (leb x.event most && (eqb x.note 0 && eqb x.factor 0)) && le_z (pos 0) x.value

-- event and note below their limits, factor 1 to 9, offset −9,999 to 9,999
abbrev pub reference_fields : Frame → Bool
reference_fields x =
    (ltb x.event event_limit && ltb x.note note_limit) && (leb 1 x.factor && leb x.factor factor_limit)
    && leb (nat_abs x.value) offset_limit

-- all unused bytes are 0
abbrev pub bare_fields : Frame → Bool
bare_fields x = unused x && eqb (nat_abs x.value) 0

-- by the kind, where a literal has at most so many decimals
abbrev pub fields_of : ℕ → Kind → Frame → Bool
fields_of most (operand literal) x = literal_fields most x
fields_of most (operand instance) x = bare_fields x
fields_of most (operand reference) x = reference_fields x
fields_of most (arithmetic o) x = bare_fields x
fields_of most absolute x = bare_fields x
fields_of most (relation r) x = bare_fields x
fields_of most negation x = bare_fields x
fields_of most (connective j) x = bare_fields x
fields_of most none x = bare_fields x
