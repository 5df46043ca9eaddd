-- The headline statements of this crate, each proved where it is cited from. Assumes nothing.
use mathlib.Core.Path.{◌≡◌}
use mathlib.Core.Logic.{◌⊎◌, ◌↔◌}
use mathlib.Core.Bool.{Bool, true}
use mathlib.Core.List.{List}
use Prim.Native.Nat.{ℕ, ◌≤◌, ◌<◌, zero-le}
use lib.ListN.{length, get_or}
use Rattle.std.specs.Prelude.{Result}
use Rattle.rule.specs.Class.{letter, digit, blank, mark, foreign, point, class_of, Letters, OfClass}
use Rattle.rule.specs.Token.{end_kind, name_kind, number_kind, events_kind, notes_kind, index_kind, abs_kind, events_word, notes_word, index_word, abs_word, word_kind, token_at, spelling, tokens, IsWord, Rising}
use Rattle.rule.specs.Token.{decimal_kind, scale_kind, Mode, declares, takes_points, token_in, PointBetween, DecimalsBehind}
use Rattle.rule.specs.Token.{scale_word, AfterNotes, first_kind}
use Rattle.rule.specs.Token.{foreign_kind, LongestMatch, OfToken}
use Rattle.rule.specs.Name.{long_name, name_code}
use Rattle.rule.specs.Number.{most, number_value}
use Rattle.rule.specs.Frames.{Bytes}
use Rattle.rule.specs.Tree.{Limits, postfix, IsRule, references, magnitudes, NoneExceeds}
use Rattle.rule.specs.References.{reference_count}
use Rattle.rule.specs.Build.{tree_of}
use Rattle.rule.specs.Check.{checked_of}
use Rattle.rule.specs.Opening.{Whole, PlaceOf10, Opening, Proper}
use Rattle.rule.specs.CheckTold.{CheckAnswer, check_told}
use Rattle.rule.specs.CheckTold as checking
use Rattle.rule.proofs.TokenWords as words
use Rattle.rule.proofs.TokenCodes as codes
use Rattle.rule.proofs.TokenDecimals as decimals
use Rattle.rule.proofs.TokenLists as lexing
use Rattle.rule.proofs.TokenRuns as runs
use Rattle.rule.proofs.TokenMatches as matching
use Rattle.rule.proofs.TokenModes as modes
use Rattle.rule.proofs.TokenClause as clauses
use Rattle.rule.proofs.TokenModes.{Found}
use Rattle.rule.proofs.GrammarTrees
use Rattle.rule.proofs.ToldAnswers as told
use Rattle.rule.proofs.FrameHeads
use Rattle.rule.proofs.FrameReferences
use Rattle.rule.proofs.CheckAnswers
use Rattle.rule.proofs.CheckExactly
use mathlib.Core.List.{[], ◌∷◌, ◌++◌, Memᴰ}
use Prim.Native.Nat.{◌+◌, ◌*◌}
use lib.ListN.{take}
use Rattle.rule.specs.Limits.{frame_bytes, buffer_bytes}
use Rattle.rule.specs.Grammar.{Word, Rule, yield, Wrong-at}
use Rattle.rule.specs.Grammar.{words as spelled}
use Rattle.rule.specs.Measure.{frames, Named, names, Sized, numbers}
use Rattle.rule.specs.Spelling.{TokenOf, NumberOf, name_at, decimal, letters}
use Rattle.rule.specs.Reading.{read_of}
use Rattle.rule.specs.Meaning.{meaning}
use Rattle.rule.specs.Answers.{Spelled, BadName, NamesGood, BadNumber, NumbersGood, BadDecimals, DecimalsGood, Oversized, Within, ReadAs, Answered}
use Rattle.rule.specs.Answers as answers
use Rattle.rule.specs.declared.Token.{Token}
use Rattle.rule.specs.ReadTold.{ReadAnswer, read_told}
use Rattle.rule.specs.ReadTold as reading
use Rattle.rule.specs.declared.Refusal.{Refusal}
use Rattle.rule.proofs.SpellSame
use Rattle.rule.proofs.SpellTrees
use Rattle.rule.proofs.FrameTrees
use Rattle.rule.proofs.ReadText
use Rattle.rule.proofs.ReadExactly
use Rattle.rule.proofs.ReadAnswers
use Rattle.rule.proofs.ReadPlaces

-- ---- text

-- Tokens: places rise, each token has a byte at least and lies within the text.
pub tokens-rise : (text : List ℕ) → Rising 0 (length text) (tokens text)
tokens-rise text = lexing.rising (declares 2) text 0 zero-le

-- Each is the next one from some place on, at some mode; and but for the clause's word it is the next one with points or without.
pub tokens-found : (text : List ℕ) (t : Token) → Memᴰ t (tokens text) → Found text t
tokens-found = modes.found

pub tokens-plain : (text : List ℕ) (at : ℕ) (md : Mode) → ((token_in md text at).kind ≡ scale_kind → ⊥) → token_in md text at ≡ token_at (takes_points md) text at
tokens-plain = modes.plain

-- The end of a text has its length as its place.
pub end-of-text : (points : Bool) (text : List ℕ) (at : ℕ) → at ≤ length text → (token_at points text at).kind ≡ end_kind → (token_at points text at).start ≡ length text
end-of-text = lexing.at_end

-- Nothing but blanks stands between two tokens.
pub blanks_between : (points : Bool) (text : List ℕ) (at k : ℕ) → at ≤ k → k < (token_at points text at).start → class_of (get_or text k 0) ≡ blank
blanks_between = lexing.gap_blank

-- A word is a run of letters, as long as can be.
pub word-letters : (points : Bool) (text : List ℕ) (at : ℕ) → IsWord (token_at points text at).kind → OfClass letter (spelling text (token_at points text at))
word-letters = runs.word-letters

pub word-longest : (points : Bool) (text : List ℕ) (at : ℕ) → (token_at points text at).end < length text → IsWord (token_at points text at).kind → class_of (get_or text (token_at points text at).end 0) ≡ letter → ⊥
word-longest = runs.word-longest

-- Marks take the longest match: of the quoted marks that stand there the token is the longest; where none does, it is the byte alone,
-- a token that no rule has. So is a lone `|` or `&`.
pub marks-longest : (points : Bool) (text : List ℕ) (at : ℕ) → (token_at points text at).start < length text
    → class_of (get_or text (token_at points text at).start 0) ≡ mark → LongestMatch text (token_at points text at)
marks-longest points text = matching.marks-longest text points

-- A foreign byte is a token by itself.
pub foreign-alone : (points : Bool) (text : List ℕ) (at : ℕ) → (token_at points text at).start < length text
    → class_of (get_or text (token_at points text at).start 0) ≡ foreign → ((token_at points text at).kind ≡ foreign_kind) × ((token_at points text at).end ≡ (token_at points text at).start + 1)
foreign-alone points text = matching.foreign-alone text points

-- No rule has it, nor begins with tokens of which one is such.
pub no_rule_has : (x : Rule) (ts : List Token) (ws : List Word) (t : Token) → Memᴰ t ts → t.kind ≡ foreign_kind → yield x ≡ spelled ts ++ ws → ⊥
no_rule_has = GrammarTrees.no_rule_has

-- The tokens and the blanks together are the whole text: a byte of it is a token's exactly where it is no blank.
pub whole-text : (text : List ℕ) (k : ℕ) → k < length text → OfToken (tokens text) k ↔ (class_of (get_or text k 0) ≡ blank → ⊥)
whole-text = matching.whole-text

-- A number is a run of digits, as long as can be; where points are taken, no point with a digit after it follows.
pub number_digits : (points : Bool) (text : List ℕ) (at : ℕ) → (token_at points text at).kind ≡ number_kind → OfClass digit (spelling text (token_at points text at))
number_digits = runs.number_digits

pub number-longest : (points : Bool) (text : List ℕ) (at : ℕ) → (token_at points text at).end < length text → (token_at points text at).kind ≡ number_kind → class_of (get_or text (token_at points text at).end 0) ≡ digit → ⊥
number-longest = runs.number-longest

pub number-alone : (text : List ℕ) (at : ℕ) → (token_at true text at).kind ≡ number_kind → get_or text (token_at true text at).end 0 ≡ point → class_of (get_or text ((token_at true text at).end + 1) 0) ≡ digit → ⊥
number-alone = runs.number-alone

-- A decimal is digits, a point and digits, as long as can be, and stands only where points are taken.
pub decimal-digits : (points : Bool) (text : List ℕ) (at : ℕ) → (token_at points text at).kind ≡ decimal_kind → (points ≡ true) × PointBetween (spelling text (token_at points text at))
decimal-digits = runs.decimal-digits

pub decimal-longest : (points : Bool) (text : List ℕ) (at : ℕ) → (token_at points text at).end < length text → (token_at points text at).kind ≡ decimal_kind → class_of (get_or text (token_at points text at).end 0) ≡ digit → ⊥
decimal-longest = runs.decimal-longest

-- Any other point is a token by itself, which no rule has.
pub point-alone : (points : Bool) (text : List ℕ) (at k : ℕ) → (token_at points text at).start ≤ k → k < (token_at points text at).end → get_or text k 0 ≡ point
    → (((token_at points text at).kind ≡ foreign_kind) × ((token_at points text at).start ≡ k) × ((token_at points text at).end ≡ k + 1)) ⊎ ((token_at points text at).kind ≡ decimal_kind)
point-alone = matching.point-alone

-- The clause's word: right behind the second ";", `scale`, with a number after it; elsewhere the word is a name.
pub scale-word : (text : List ℕ) (us : List Token) (t : Token) (vs : List Token) → tokens text ≡ us ++ t ∷ vs
    → (t.kind ≡ scale_kind) ↔ (AfterNotes us × (spelling text t ≡ scale_word) × (first_kind vs ≡ number_kind))
scale-word = clauses.scale-word

-- Before the clause's word no token is a decimal.
pub decimals-behind-clause : (text : List ℕ) → DecimalsBehind (tokens text)
decimals-behind-clause = modes.decimals-behind

-- The reserved words are told apart, each from every other word.
pub reserved : (w : List ℕ) → ((word_kind w ≡ events_kind) ↔ (w ≡ events_word)) × ((word_kind w ≡ notes_kind) ↔ (w ≡ notes_word)) × ((word_kind w ≡ index_kind) ↔ (w ≡ index_word)) × ((word_kind w ≡ abs_kind) ↔ (w ≡ abs_word))
reserved = words.reserved

-- Two names of at most 12 letters have one number exactly if they are equal.
pub names_apart : (x y : List ℕ) → Letters x → Letters y → length x ≤ 12 → length y ≤ 12 → (name_code x ≡ name_code y) ↔ (x ≡ y)
names_apart = codes.names_apart

-- A word is over 12 letters exactly if its number is that of the long ones.
pub over_12 : (w : List ℕ) → Letters w → (12 < length w) ↔ (name_code w ≡ long_name)
over_12 = codes.over_12

-- The capped value decides every limit below the cap.
pub number_decides : (ds : List ℕ) (limit : ℕ) → limit < most → (number_value ds ≤ limit) ↔ (decimal ds ≤ limit)
number_decides = decimals.number_decides

-- ---- frames

-- accepted: exactly the frames of a tree within the limits, at most 64, with a reference, every magnitude at most 2^62
pub frames_exactly : {s : List ℕ} → Bytes s → (checked_of s ≡ checking.accepted) ↔ Proper s
frames_exactly = CheckExactly.accepted_iff

-- bytes are the frames of one tree only
pub one-tree : {s : List ℕ} (p q : IsRule s) → p.tree ≡ q.tree
one-tree = FrameHeads.one-tree

-- which a function finds
pub tree-of : {s : List ℕ} (r : IsRule s) → tree_of s ≡ r.tree
tree-of = FrameHeads.tree-of

-- refused with 10 at p: exactly where the frames before p begin some rule of some length, and with the frame at p none;
-- at their count, where only the end is wrong
pub place_10 : {s : List ℕ} → Bytes s → (p : ℕ) → (checked_of s ≡ checking.refused 10 p) ↔ (Whole (length s) × PlaceOf10 s p)
place_10 = CheckExactly.place_iff

-- at most 32 references in 64 frames
pub few-references : {s : List ℕ} → Bytes s → checked_of s ≡ checking.accepted → reference_count s ≤ 32
few-references = CheckExactly.few

-- and the count is of the references that the tree names
pub count-references : {s : List ℕ} (r : IsRule s) → reference_count s ≡ length (references r.tree)
count-references = FrameReferences.count-of

-- every answer, 9, 10, 7, 8 or accepted, in the words of trees
pub opening_iff : {s : List ℕ} → Bytes s → (o : CheckAnswer) → (checked_of s ≡ o) ↔ Opening s o
opening_iff = CheckAnswers.opening_iff

-- what is told of an answer fixes the answer, so that the contract of `check` allows one answer only
pub check_told_injective : (a b : Result Unit Refusal) → check_told a ≡ check_told b → a ≡ b
check_told_injective = told.check_told_injective

-- ---- reading

-- every answer of `read`, 1 to 8, 18 or accepted, with the buffer after it: exactly the one with what holds of the text and what the
-- earlier checks leave
pub read_iff : (text b : List ℕ) (a : ReadAnswer × List ℕ) → (read_of text b ≡ a) ↔ Answered text b a
read_iff = ReadPlaces.read_iff

-- what is told of an answer fixes the answer, so that the contract of `read` allows one answer only
pub read_told_injective : (a b : Result ℕ Refusal) → read_told a ≡ read_told b → a ≡ b
read_told_injective = told.read_told_injective

-- each answer of `read`, with what holds of the text and what the earlier checks leave: 1 to 5, 18 and 6 to 8 in this order
pub read-answers : (text b : List ℕ) → Answered text b (read_of text b)
read-answers = ReadAnswers.answered

-- accepted: exactly where a tree spells the text that 4 to 8 and 18 leave, and the buffer then holds the frames of the rule that it
-- means, zero after the last
pub reads_exactly : (text b : List ℕ) (n : ℕ) (s : List ℕ) → (read_of text b ≡ (reading.frames n, s)) ↔ ((length b ≡ buffer_bytes) × ReadAs text n s)
reads_exactly = ReadExactly.reads_exactly

-- what the frames that were read hold is what the text means, whichever tree spells it
pub read-tree : (text b : List ℕ) (n : ℕ) (s : List ℕ) → read_of text b ≡ (reading.frames n, s) → (x : Rule) → yield x ≡ spelled (tokens text) → tree_of (take (n * frame_bytes) s) ≡ meaning text x
read-tree = ReadExactly.read-tree

-- and each of their bytes is below 256
pub read-bytes : (text b : List ℕ) (n : ℕ) (s : List ℕ) → read_of text b ≡ (reading.frames n, s) → Bytes (take (n * frame_bytes) s)
read-bytes = ReadExactly.read-bytes

-- a text is spelled by one tree only, so that its names, numbers, depth and meaning are one too
pub unambiguous : (x y : Rule) (ts : List Token) → yield x ≡ spelled ts → yield y ≡ spelled ts → x ≡ y
unambiguous = SpellTrees.tree-unique

-- each name of it stands at a name token of the text, and its bytes are letters; each number at a number token, and they
-- are digits, or it is a literal and stands at a decimal: digits, a point and digits
pub names-lettered : (text : List ℕ) (x : Rule) → yield x ≡ spelled (tokens text) → (n : Named) → Memᴰ n (names x) → TokenOf text name_kind (name_at n) × Letters (letters text (name_at n))
names-lettered = SpellSame.names-lettered

pub numbers-digits : (text : List ℕ) (x : Rule) → yield x ≡ spelled (tokens text) → (n : Sized) → Memᴰ n (numbers x) → NumberOf text n
numbers-digits = SpellSame.numbers-digits

-- what a tree that 4, 5, 18 and 6 leave means is within the limits of frames
pub meaning-limits : (text : List ℕ) (x : Rule) → Within text x → Limits (meaning text x)
meaning-limits = FrameTrees.meaning-limits

-- and has as many frames as the tree
pub meaning-count : (text : List ℕ) (x : Rule) → length (postfix (meaning text x)) ≡ length (frames x)
meaning-count = FrameTrees.meaning-count

-- refused with 3 at p: exactly where p is the first token that with those before it begins no rule, or the length
pub place_3 : (text b : List ℕ) → length b ≡ buffer_bytes → answers.LengthFits (length text) → (p : ℕ) → ((read_of text b).0 ≡ reading.refused 3 p) ↔ Wrong-at (length text) (tokens text) p
place_3 = ReadPlaces.place_3

-- refused with 4 at p: exactly where p is the tree's first bad name
pub place_4 : (text b : List ℕ) → length b ≡ buffer_bytes → (x : Rule) → Spelled text x → (p : ℕ) → ((read_of text b).0 ≡ reading.refused 4 p) ↔ BadName text x p
place_4 = ReadPlaces.place_4

-- refused with 5 at p: exactly where no name is bad, and p is the tree's first number beyond its limit
pub place_5 : (text b : List ℕ) → length b ≡ buffer_bytes → (x : Rule) → Spelled text x → (p : ℕ) → ((read_of text b).0 ≡ reading.refused 5 p) ↔ (NamesGood text x × BadNumber text x p)
place_5 = ReadPlaces.place_5

-- refused with 18 at p: exactly where no name and no number is bad, and p is the first with more than 6 decimals, the clause's number or
-- a literal
pub place_18 : (text b : List ℕ) → length b ≡ buffer_bytes → (x : Rule) → Spelled text x → (p : ℕ)
    → ((read_of text b).0 ≡ reading.refused 18 p) ↔ (NamesGood text x × NumbersGood text x × BadDecimals text x p)
place_18 = ReadPlaces.place_18

-- refused with 6: exactly where no name, no number and no decimals are bad, and the tree is too deep or has too many frames
pub place_6 : (text b : List ℕ) → length b ≡ buffer_bytes → (x : Rule) → Spelled text x → ((read_of text b).0 ≡ reading.refused 6 0) ↔ (NamesGood text x × NumbersGood text x × DecimalsGood text x × Oversized text x)
place_6 = ReadPlaces.place_6

-- refused with 7: exactly where 4, 5, 18 and 6 leave the tree, and what it means has no reference
pub place_7 : (text b : List ℕ) → length b ≡ buffer_bytes → (x : Rule) → Spelled text x → ((read_of text b).0 ≡ reading.refused 7 0) ↔ (Within text x × (references (meaning text x) ≡ []))
place_7 = ReadPlaces.place_7

-- refused with 8: exactly where 4 to 7 and 18 leave the tree, and a magnitude of what it means is over 2^62
pub place_8 : (text b : List ℕ) → length b ≡ buffer_bytes → (x : Rule) → Spelled text x
    → ((read_of text b).0 ≡ reading.refused 8 0) ↔ (Within text x × (references (meaning text x) ≡ [] → ⊥) × (NoneExceeds (magnitudes (meaning text x)) → ⊥))
place_8 = ReadPlaces.place_8

-- what `read` fills, `check` accepts
pub read-opens : (text b : List ℕ) (n : ℕ) (s : List ℕ) → read_of text b ≡ (reading.frames n, s) → checked_of (take (n * frame_bytes) s) ≡ checking.accepted
read-opens = ReadText.read-opens

-- a refusal leaves the buffer as it was
pub refused_unchanged : (text b : List ℕ) (k p : ℕ) (s : List ℕ) → read_of text b ≡ (reading.refused k p, s) → s ≡ b
refused_unchanged = ReadText.refused_unchanged
