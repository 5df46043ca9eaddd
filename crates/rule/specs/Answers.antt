-- The answer of `read`, in the words of trees: each answer, with what holds of the text and what the earlier checks leave.
-- From document 01, "What is turned down", 1 to 8, and document 02, point 1: 18, "after 5". Assumes nothing: definitions.
use Rattle.std.specs.Prelude.{◌≡◌, ◌⊎◌, List, [], ◌++◌, ℕ, ◌-◌, ◌*◌, ◌≤◌, ◌<◌, length}
use Rattle.std.specs.Prelude.{replicate}
use Rattle.std.proofs.Math.Option.{none, some}
use Rattle.rule.specs.Limits.{frame_limit, frame_bytes, buffer_bytes}
use Rattle.rule.specs.ReadLimits.{text_limit, depth_limit}
use Rattle.rule.specs.Token.{tokens}
use Rattle.rule.specs.Grammar.{Rule, yield, words, Wrong-at}
use Rattle.rule.specs.Tree.{postfix, bytes_of, references, magnitudes, NoneExceeds}
use Rattle.rule.specs.Measure.{depth, names, numbers}
use Rattle.rule.specs.Spelling.{first_name, first_number, first_decimals}
use Rattle.rule.specs.Meaning.{meaning}
use Rattle.rule.specs.ReadTold.{ReadAnswer, frames, refused}
use Rattle.rule.specs.declared.parts.Place.{Place}

-- "The text has 1 to 1,024 bytes"
pub record LengthFits (n : ℕ) : Type 0 where
  pub some_bytes : n ≡ 0 → ⊥
  pub few_bytes : n ≤ text_limit

-- a tree that spells the text
pub record Spelled (text : List ℕ) (x : Rule) : Type 0 where
  pub sized : LengthFits (length text)
  pub spells : yield x ≡ words (tokens text)

-- its first bad name starts at p: 4
pub record BadName (text : List ℕ) (x : Rule) (p : ℕ) : Type 0 where
  pub name : Place
  pub first : first_name text [] (names x) ≡ some name
  pub starts : name.start ≡ p

-- no name of it is bad
abbrev pub NamesGood : List ℕ → Rule → Type 0
NamesGood text x = first_name text [] (names x) ≡ none

-- its first number beyond its limit starts at p: 5
pub record BadNumber (text : List ℕ) (x : Rule) (p : ℕ) : Type 0 where
  pub number : Place
  pub first : first_number text (numbers x) ≡ some number
  pub starts : number.start ≡ p

-- no number of it is beyond its limit
abbrev pub NumbersGood : List ℕ → Rule → Type 0
NumbersGood text x = first_number text (numbers x) ≡ none

-- the first of "more than 6 decimals in the clause or in a literal" starts at p: 18
pub record BadDecimals (text : List ℕ) (x : Rule) (p : ℕ) : Type 0 where
  pub number : Place
  pub first : first_decimals text (numbers x) ≡ some number
  pub starts : number.start ≡ p

-- it has not more than 6 decimals anywhere
abbrev pub DecimalsGood : List ℕ → Rule → Type 0
DecimalsGood text x = first_decimals text (numbers x) ≡ none

-- "depth over 16 or over 64 frames": 6
abbrev pub Oversized : List ℕ → Rule → Type 0
Oversized text x = (depth_limit < depth x) ⊎ (frame_limit < length (postfix (meaning text x)))

-- no name, no number and no decimals of it are bad, its depth and its frames are within the limits: 4, 5, 18 and 6 leave it
pub record Within (text : List ℕ) (x : Rule) : Type 0 where
  pub spelled : Spelled text x
  pub names_good : NamesGood text x
  pub numbers_good : NumbersGood text x
  pub decimals_good : DecimalsGood text x
  pub shallow : depth x ≤ depth_limit
  pub few_frames : length (postfix (meaning text x)) ≤ frame_limit

-- the text is that of a tree that 4, 5, 18 and 6 leave, and 7 and 8 what it means; n counts the frames of what it means, and s is a
-- buffer that holds them, "zero after the last frame"
pub record ReadAs (text : List ℕ) (n : ℕ) (s : List ℕ) : Type 0 where
  pub tree : Rule
  pub within : Within text tree
  pub named : references (meaning text tree) ≡ [] → ⊥
  pub exact : NoneExceeds (magnitudes (meaning text tree))
  pub count : n ≡ length (postfix (meaning text tree))
  pub bytes : s ≡ bytes_of (postfix (meaning text tree)) ++ replicate (buffer_bytes - n * frame_bytes) 0

-- the answer of `read` to a text, with the buffer b, and what the buffer holds then: b itself where it refuses
pub data Answered (text b : List ℕ) : ReadAnswer × List ℕ → Type 0 where
  refused_1 : (length b ≡ buffer_bytes → ⊥) → Answered text b (refused 1 0, b)
  refused_2 : length b ≡ buffer_bytes → (LengthFits (length text) → ⊥) → Answered text b (refused 2 0, b)
  refused_3 : {p : ℕ} → length b ≡ buffer_bytes → LengthFits (length text) → Wrong-at (length text) (tokens text) p
      → Answered text b (refused 3 p, b)
  refused_4 : {x : Rule} {p : ℕ} → length b ≡ buffer_bytes → Spelled text x → BadName text x p
      → Answered text b (refused 4 p, b)
  refused_5 : {x : Rule} {p : ℕ} → length b ≡ buffer_bytes → Spelled text x → NamesGood text x → BadNumber text x p
      → Answered text b (refused 5 p, b)
  refused_18 : {x : Rule} {p : ℕ} → length b ≡ buffer_bytes → Spelled text x → NamesGood text x → NumbersGood text x
      → BadDecimals text x p → Answered text b (refused 18 p, b)
  refused_6 : {x : Rule} → length b ≡ buffer_bytes → Spelled text x → NamesGood text x → NumbersGood text x
      → DecimalsGood text x → Oversized text x → Answered text b (refused 6 0, b)
  refused_7 : {x : Rule} → length b ≡ buffer_bytes → Within text x → references (meaning text x) ≡ []
      → Answered text b (refused 7 0, b)
  refused_8 : {x : Rule} → length b ≡ buffer_bytes → Within text x → (references (meaning text x) ≡ [] → ⊥)
      → (NoneExceeds (magnitudes (meaning text x)) → ⊥)
      → Answered text b (refused 8 0, b)
  accepted : {n : ℕ} {s : List ℕ} → length b ≡ buffer_bytes → ReadAs text n s → Answered text b (frames n, s)
