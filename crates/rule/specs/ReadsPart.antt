-- What a reader of a part does: it takes the part off the machine's stack. Assumes nothing: definitions.
use Rattle.std.specs.Prelude.{◌≡◌, Bool, true, false, List, ℕ, suc, ◌+◌, ◌-◌, ◌≤◌, ◌<◌, length}
use Rattle.std.specs.Prelude.{Option, Some, None, Result, Ok, Err, OnOk}
use Rattle.rule.specs.Frames.{Kind, kind_byte}
use Rattle.rule.specs.Token.{Mode, declares, clause, body, tokens_from, token_at}
use Rattle.rule.specs.Grammar.{rel_mark, rels, sign_mark, signs, by_mark}
use Rattle.rule.specs.Draft.{relation_of, sign_of}
use Rattle.rule.specs.Machine.{Act, Sym, MachineAnswer, refused, run}
use Rattle.rule.specs.Memory.{Mem, acts, mem}
use Rattle.rule.specs.declared.Token.{Token}
use Rattle.rule.specs.declared.parts.Place.{Place}
use Rattle.rule.specs.declared.parts.Multiple.{Multiple}
use Rattle.rule.specs.declared.parts.Multiple.TheVariants.{Once, Times}
use Rattle.rule.specs.declared.parts.Shift.{Shift}
use Rattle.rule.specs.declared.parts.Shift.TheVariants.{Unshifted, By}
use Rattle.rule.specs.declared.text.Unexpected.{Unexpected}
use Rattle.rule.specs.declared.text.Reader.{Reader}

-- the machine's answer from the stack s, at the place `at` of the text, where the reading of tokens stands at md
unfoldable pub run_from : Mode → List ℕ → List Sym → Mem → ℕ → MachineAnswer Mem
run_from md text s m at = run Mem (acts text) (length text) s m (tokens_from md text at)

-- what a reader remembers
abbrev pub remembered : Reader → Mem
remembered x = mem x.memory x.names x.frames

-- the machine's answer from the stack s, where the reader x stands, at md
abbrev pub reading : Mode → Reader → List Sym → MachineAnswer Mem
reading md x s = run_from md x.text.now s (remembered x) x.at

-- the machine's answer from the stack s, after a reader of a part that answered r and left x, at md
unfoldable pub read_on : Mode → Reader → List Sym → Result Unit Unexpected → MachineAnswer Mem
read_on md x s (Ok u) = reading md x s
read_on md x s (Err e) = refused e.at

-- the modes whose next token is the one with points or without
pub data Reads : Mode → Bool → Type 0 where
  in_declarations : {n : ℕ} → Reads (declares (suc n)) false
  in_clause : Reads clause false
  in_body : {points : Bool} → Reads (body points) points

-- how many bytes of the text are left
abbrev pub left : Reader → ℕ
left x = length x.text.now - x.at

-- the text, and whether points are taken, stay as they are
pub record SameText (x y : Reader) : Type 0 where
  pub same_text : y.text ≡ x.text
  pub same_points : y.points ≡ x.points

-- from the reader x and the mode md, a reader of the part `top` answered r and left y, at the mode md'; it took some bytes at least
pub record ReadsPart (md md' : Mode) (some : ℕ) (top : List Sym → List Sym) (x y : Reader)
    (r : Result Unit Unexpected) : Type 0 where
  pub runs : (s : List Sym) → reading md x (top s) ≡ read_on md' y s r
  pub took : OnOk r (left y + some ≤ left x)
  pub same : SameText x y

-- the same of a part of a condition
abbrev pub Takes : ℕ → (List Sym → List Sym) → Reader → Reader → Result Unit Unexpected → Type 0
Takes some top x y r = ReadsPart (body x.points) (body y.points) some top x y r

-- the reader y stands where x does, and remembers m
pub record Recalls (m : Mem) (x y : Reader) : Type 0 where
  pub recalls : remembered y ≡ m
  pub same_at : y.at ≡ x.at
  pub same : SameText x y

-- y is x after an act
abbrev pub Acts : Act → Reader → Reader → Type 0
Acts a x y = Recalls (acts x.text.now a (remembered x)) x y

-- t is the next token where the reader x stands: if it isn't the end, it has a byte at least
pub record Stands (x : Reader) (t : Token) : Type 0 where
  pub is : t ≡ token_at x.points x.text.now x.at
  pub ends : t.end ≤ length x.text.now
  pub begins : x.at ≤ t.start
  pub moves : 0 < t.kind → t.start < t.end

-- the reader y stands behind the token t, and remembers m
pub record Taken (t : Token) (m : Mem) (x y : Reader) : Type 0 where
  pub recalls : remembered y ≡ m
  pub behind : y.at ≡ t.end
  pub same : SameText x y

-- the next token is none of the kind k, e says where it starts, and the reader y has the text of x
pub record Misses (k : ℕ) (x y : Reader) (e : Unexpected) : Type 0 where
  pub other : (token_at x.points x.text.now x.at).kind ≡ k → ⊥
  pub says : e.at ≡ (token_at x.points x.text.now x.at).start
  pub same : SameText x y

-- the next token t, of the kind k, was taken
pub record TookKind (k : ℕ) (x y : Reader) (t : Token) : Type 0 where
  pub stands : Stands x t
  pub kind : t.kind ≡ k
  pub taken : Taken t (remembered x) x y

-- a token of the kind k is taken and handed on; or another stands there
abbrev pub TakesKind : ℕ → Reader → Reader → Result Token Unexpected → Type 0
TakesKind k x y (Ok t) = TookKind k x y t
TakesKind k x y (Err e) = Misses k x y e

-- the next token is none of the kind k, and the reader y is x
pub record Passes (k : ℕ) (x y : Reader) : Type 0 where
  pub other : (token_at x.points x.text.now x.at).kind ≡ k → ⊥
  pub same : y ≡ x

-- the next token is taken, if it is of the kind k
abbrev pub Eats : ℕ → Reader → Reader → Bool → Type 0
Eats k x y true = TookKind k x y (token_at x.points x.text.now x.at)
Eats k x y false = Passes k x y

-- a place of a token: it has a byte at least, and lies within the text
pub record Inside (n : ℕ) (p : Place) : Type 0 where
  pub some : p.start < p.end
  pub ends : p.end ≤ n

-- of the number in a factor of i, if there is one
abbrev pub InsideMultiple : ℕ → Multiple → Type 0
InsideMultiple n Once = Unit
InsideMultiple n (Times p) = Inside n p

-- and in an offset
abbrev pub InsideShift : ℕ → Shift → Type 0
InsideShift n Unshifted = Unit
InsideShift n (By g p) = Inside n p

-- the kind of frame that a token stands for: of "+" and "-"
unfoldable pub sign_byte : ℕ → Option ℕ
sign_byte k = by_mark sign_mark k (λ g. Some (kind_byte (Kind.arithmetic (sign_of g)))) None signs

-- and of the relations
unfoldable pub rel_byte : ℕ → Option ℕ
rel_byte k = by_mark rel_mark k (λ c. Some (kind_byte (Kind.relation (relation_of c)))) None rels
