-- What the reader remembers, and what each act does to it. A place is kept plus 1, 0 for none. Assumes nothing: definitions.
use Rattle.std.specs.Prelude.{ℕ, zero, suc, ◌+◌, ◌-◌, ◌*◌, ◌/◌, ◌%◌, min, Bool, true, false, cond, List, []}
use Rattle.std.specs.Prelude.{◌∷◌, ◌++◌, length, get_or, set, ltb, leb, eqb, Option, Some, None}
use Rattle.rule.specs.Limits.{event_limit, note_limit, frame_limit, frame_bytes, decimal_limit}
use Rattle.rule.specs.ReadLimits.{depth_limit}
use Rattle.rule.specs.Frames.{Source, Kind, kind_byte, scale_byte}
use Rattle.rule.specs.Name.{long_name, name_code}
use Rattle.rule.specs.Number.{number_value}
use Rattle.rule.specs.Measure.{Sized, sized_by}
use Rattle.rule.specs.Draft.{Draft, head, lit, index_var, ref, plain}
use Rattle.rule.specs.Spelling as spelling
use Rattle.rule.specs.Spelling.{letters, room, beyond}
use Rattle.rule.specs.Machine.{Act, declare, uses, sized, enter, out}
use Rattle.rule.specs.declared.parts.Place.{Place}
use Rattle.rule.specs.declared.parts.Role.{Role}
use Rattle.rule.specs.declared.parts.Role.TheVariants.{Event, Note}
use Rattle.rule.specs.declared.parts.Limit.TheVariants.{OfClause, OfLiteral, OfFactor, OfOffset}
use Rattle.rule.specs.declared.parts.Sign.TheVariants.{Plus, Minus}
use Rattle.rule.specs.declared.parts.Multiple.{Multiple}
use Rattle.rule.specs.declared.parts.Multiple.TheVariants.{Once, Times}
use Rattle.rule.specs.declared.parts.Shift.{Shift}
use Rattle.rule.specs.declared.parts.Shift.TheVariants.{Unshifted, By}
use Rattle.rule.specs.declared.memory.Registers.{Registers}
use Rattle.rule.specs.declared.memory.RawFrame.{RawFrame}

-- frames so far, at most 65; whether a depth was over 16; the first bad number, the first of too many decimals and the first bad
-- name; the names declared; the bytes
pub record Mem : Type 0 where
  pub count : ℕ
  pub deep : Bool
  pub number : ℕ
  pub decimals : ℕ
  pub name : ℕ
  pub events : List ℕ
  pub notes : List ℕ
  pub bytes : List ℕ

-- before the text, with the bytes b
abbrev pub fresh : List ℕ → Mem
fresh b = record { count = 0; deep = false; number = 0; decimals = 0; name = 0; events = []; notes = []; bytes = b }

-- the names declared in a role
abbrev pub table : Role → Mem → List ℕ
table Event m = m.events
table Note m = m.notes

-- one name more, "numbered from 0 as declared"
abbrev pub enlist : Role → ℕ → Mem → Mem
enlist Event c m =
    record {
      count = m.count;
      deep = m.deep;
      number = m.number;
      decimals = m.decimals;
      name = m.name;
      events = m.events ++ c ∷ [];
      notes = m.notes;
      bytes = m.bytes;
    }
enlist Note c m =
    record {
      count = m.count;
      deep = m.deep;
      number = m.number;
      decimals = m.decimals;
      name = m.name;
      events = m.events;
      notes = m.notes ++ c ∷ [];
      bytes = m.bytes;
    }

-- "place the first": a place is kept if there was none
abbrev pub first : ℕ → Place → ℕ
first z p = cond (eqb z 0) (p.start + 1) z

-- a bad name at p
abbrev pub blame : Place → Mem → Mem
blame p m =
    record {
      count = m.count;
      deep = m.deep;
      number = m.number;
      decimals = m.decimals;
      name = first m.name p;
      events = m.events;
      notes = m.notes;
      bytes = m.bytes;
    }

-- c is one of the list
abbrev pub is_declared : ℕ → List ℕ → Bool
is_declared c [] = false
is_declared c (x ∷ xs) = cond (eqb c x) true (is_declared c xs)

-- ---- a frame's bytes
-- the number of the first name that has the number c, counted from 0; how many there are if none has
unfoldable pub position : ℕ → List ℕ → ℕ
position c [] = 0
position c (x ∷ xs) = cond (eqb c x) 0 (suc (position c xs))

-- v below 0, as a word: 2^32 less v
unfoldable pub negated : ℕ → ℕ
negated v = (4294967296 - v) % 4294967296

-- the fields of a frame put at its place among 64 frames: 0 kind, 1 event or decimals, 2 note, 3 factor, 4 to 7 the word,
-- big-endian
unfoldable pub put : List ℕ → ℕ → RawFrame → List ℕ
put b k f =
    cond (ltb k frame_limit)
    (set (set (set (set (set (set (set (set b
    (k * frame_bytes) f.kind)
    (k * frame_bytes + 1) f.event)
    (k * frame_bytes + 2) f.note)
    (k * frame_bytes + 3) f.factor)
    (k * frame_bytes + 4) (f.word / 256 / 256 / 256))
    (k * frame_bytes + 5) (f.word / 256 / 256 % 256))
    (k * frame_bytes + 6) (f.word / 256 % 256))
    (k * frame_bytes + 7) (f.word % 256))
    b

-- a frame is counted, up to 65, and put
abbrev pub with_frame : RawFrame → Mem → Mem
with_frame f m =
    record {
      count = cond (ltb m.count frame_limit) (m.count + 1) (suc frame_limit);
      deep = m.deep;
      number = m.number;
      decimals = m.decimals;
      name = m.name;
      events = m.events;
      notes = m.notes;
      bytes = put m.bytes m.count f;
    }

module _ (code value decimals : Place → ℕ) where
  -- the factor of i, "1 if absent"; a frame has a byte for it
  abbrev pub factor_of : Multiple → ℕ
  factor_of Once = 1
  factor_of (Times p) = value p % 256

  -- the offset, as a word of 32 bits
  abbrev pub offset_of : Shift → ℕ
  offset_of Unshifted = 0
  offset_of (By Plus p) = value p
  offset_of (By Minus p) = negated (value p)

  -- the fields of a frame, with E the declared events and N the notes
  abbrev pub fields : List ℕ → List ℕ → Draft → RawFrame
  fields E N (head p) = record { kind = scale_byte; event = value p % 256; note = 0; factor = 0; word = 0 }
  fields E N (lit p) =
      record {
        kind = kind_byte (Kind.operand Source.literal);
        event = decimals p % 256;
        note = 0;
        factor = 0;
        word = value p;
      }
  fields E N index_var = record { kind = kind_byte (Kind.operand Source.instance); event = 0; note = 0; factor = 0; word = 0 }
  fields E N (ref n e f o) =
      record {
        kind = kind_byte (Kind.operand Source.reference);
        event = position (code e) E;
        note = position (code n) N;
        factor = factor_of f;
        word = offset_of o;
      }
  fields E N (plain k) = record { kind = k; event = 0; note = 0; factor = 0; word = 0 }

  -- 5: "a number beyond its limit"
  abbrev pub bad-number : Sized → Bool
  bad-number (sized_by l p) = beyond l (value p)

  -- 18: "more than 6 decimals in the clause or in a literal"
  abbrev pub many-decimals : Sized → Bool
  many-decimals (sized_by OfClause p) = ltb decimal_limit (value p)
  many-decimals (sized_by OfLiteral p) = ltb decimal_limit (decimals p)
  many-decimals (sized_by OfFactor p) = false
  many-decimals (sized_by OfOffset p) = false

  -- 4, of a name that is declared: "over 12 letters, twice in its list, a 9th event, a 5th note"
  abbrev pub misnamed : Role → Place → Mem → Bool
  misnamed r p m =
      cond (leb long_name (code p)) true (cond (is_declared (code p) (table r m)) true (leb (room r) (length (table r m))))

  -- what each act does
  abbrev pub remember : Act → Mem → Mem
  remember (declare r p) m = cond (misnamed r p m) (blame p m) (enlist r (code p) m)
  remember (uses r p) m = cond (is_declared (code p) (table r m)) m (blame p m)
  remember (sized b p) m =
      record {
        count = m.count;
        deep = m.deep;
        number = cond (bad-number (sized_by b p)) (first m.number p) m.number;
        decimals = cond (many-decimals (sized_by b p)) (first m.decimals p) m.decimals;
        name = m.name;
        events = m.events;
        notes = m.notes;
        bytes = m.bytes;
      }
  remember (enter d) m =
      record {
        count = m.count;
        deep = cond (ltb depth_limit d) true m.deep;
        number = m.number;
        decimals = m.decimals;
        name = m.name;
        events = m.events;
        notes = m.notes;
        bytes = m.bytes;
      }
  remember (out f) m = with_frame (fields m.events m.notes f) m

-- the answer that the registers give, as two numbers: refusals 4, 5, 18 and 6 with the place, or 0 and the number of frames
abbrev pub memory_answer : Mem → ℕ × ℕ
memory_answer m =
    cond (eqb m.name 0)
    (cond (eqb m.number 0)
    (cond (eqb m.decimals 0)
    (cond m.deep (6, 0) (cond (ltb frame_limit m.count) (6, 0) (0, m.count)))
    (18, m.decimals - 1))
    (5, m.number - 1))
    (4, m.name - 1)

-- ---- over a text
-- the number of the name at p
abbrev pub code_at : List ℕ → Place → ℕ
code_at text p = name_code (letters text p)

-- the value of the number at p
abbrev pub value_at : List ℕ → Place → ℕ
value_at text p = number_value (letters text p)

-- how many decimals the number at p has
abbrev pub decimals_at : List ℕ → Place → ℕ
decimals_at text p = spelling.decimals (letters text p)

-- what each act does, by the text's letters and digits
unfoldable pub acts : List ℕ → Act → Mem → Mem
acts text = remember (code_at text) (value_at text) (decimals_at text)

-- ---- the code's registers and tables as a memory: events have the first 8 places of the table, notes the 4 after them
unfoldable pub listed : List ℕ → ℕ → ℕ → List ℕ
listed tb from zero = []
listed tb from (suc n) = get_or tb from 0 ∷ listed tb (suc from) n

-- a first place as a memory keeps it: plus 1, 0 for none
abbrev pub spot : Option ℕ → ℕ
spot None = 0
spot (Some at) = at + 1

-- the memory that the registers t, the table tb and the buffer b are
unfoldable pub mem : Registers → List ℕ → List ℕ → Mem
mem t tb b =
    record {
      count = t.count;
      deep = t.deep;
      number = spot t.number;
      decimals = spot t.decimals;
      name = spot t.name;
      events = listed tb 0 (min event_limit t.events);
      notes = listed tb event_limit (min note_limit t.notes);
      bytes = b;
    }
