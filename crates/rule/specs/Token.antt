-- The tokens of a text, from 'From rule text to frames' of document 01. Assumes nothing: definitions.
use Rattle.std.specs.Prelude.{ℕ, zero, suc, ◌+◌, ◌-◌, ◌≤◌, ◌<◌, ◌≡◌, Bool, true, false, ◌&&◌, cond}
use Rattle.std.specs.Prelude.{length, get_or, take, drop, leb, eqb}
use mathlib.Core.List.{List, [], ◌∷◌, ◌++◌, Memᴰ}
use Rattle.rule.specs.Class.{letter, digit, blank, mark, among, one_byte_marks, class_of, span, OfClass}
use Rattle.rule.specs.Class.{semicolon, point, minus_mark, more_mark, bar, ampersand, bang, equal_mark, less_mark}
use Rattle.rule.specs.declared.Token.{Token}

-- Kinds of tokens; a mark of one byte has that byte for its kind.
-- the end of the text
abbrev pub end_kind : ℕ
end_kind = 0

-- a name
abbrev pub name_kind : ℕ
name_kind = 1

-- a number
abbrev pub number_kind : ℕ
number_kind = 2

-- the reserved words
abbrev pub events_kind : ℕ
events_kind = 3

abbrev pub notes_kind : ℕ
notes_kind = 4

abbrev pub index_kind : ℕ
index_kind = 5

abbrev pub abs_kind : ℕ
abs_kind = 6

-- "digits, a point and digits with nothing between are one token, only a literal" (document 02, point 1)
abbrev pub decimal_kind : ℕ
decimal_kind = 7

-- the word of the clause `scale k;` (document 02, point 1)
abbrev pub scale_kind : ℕ
scale_kind = 8

-- the marks of two bytes, -> || && != <= >=
abbrev pub arrow_kind : ℕ
arrow_kind = 130

abbrev pub bars_kind : ℕ
bars_kind = 131

abbrev pub ampersands_kind : ℕ
ampersands_kind = 132

abbrev pub unequal_kind : ℕ
unequal_kind = 133

abbrev pub at_most_kind : ℕ
at_most_kind = 134

abbrev pub at_least_kind : ℕ
at_least_kind = 135

-- a token that no rule has
abbrev pub foreign_kind : ℕ
foreign_kind = 255

-- two words are the same if their letters are
unfoldable pub same : List ℕ → List ℕ → Bool
same [] [] = true
same [] (y ∷ ys) = false
same (x ∷ xs) [] = false
same (x ∷ xs) (y ∷ ys) = eqb x y && same xs ys

-- "The words `events notes i abs` are reserved", each by its letters
abbrev pub events_word : List ℕ
events_word = 101 ∷ 118 ∷ 101 ∷ 110 ∷ 116 ∷ 115 ∷ []

abbrev pub notes_word : List ℕ
notes_word = 110 ∷ 111 ∷ 116 ∷ 101 ∷ 115 ∷ []

abbrev pub index_word : List ℕ
index_word = 105 ∷ []

abbrev pub abs_word : List ℕ
abs_word = 97 ∷ 98 ∷ 115 ∷ []

-- the clause's word, `scale`: "The word is the clause only before a number, and stays a name elsewhere"
abbrev pub scale_word : List ℕ
scale_word = 115 ∷ 99 ∷ 97 ∷ 108 ∷ 101 ∷ []

-- "any other is a name"
unfoldable pub word_kind : List ℕ → ℕ
word_kind w =
    cond (same w events_word) events_kind
    (cond (same w notes_word) notes_kind
    (cond (same w index_word) index_kind
    (cond (same w abs_word) abs_kind name_kind)))

-- a word's kind: that of a name, or of a reserved word
abbrev pub IsWord : ℕ → Type 0
IsWord k = (0 < k) × (k ≤ abs_kind) × (k ≡ number_kind → ⊥)

-- the quoted marks of two bytes, -> || && != <= >=; 0 where the two bytes are none
abbrev pub two_byte_mark : ℕ → ℕ → ℕ
two_byte_mark b n =
    cond (eqb b minus_mark && eqb n more_mark) arrow_kind
    (cond (eqb b bar && eqb n bar) bars_kind
    (cond (eqb b ampersand && eqb n ampersand) ampersands_kind
    (cond (eqb b bang && eqb n equal_mark) unequal_kind
    (cond (eqb b less_mark && eqb n equal_mark) at_most_kind
    (cond (eqb b more_mark && eqb n equal_mark) at_least_kind 0)))))

-- "a mark byte in no quoted mark is a token that no rule has"
abbrev pub one_byte_mark : ℕ → ℕ
one_byte_mark b = cond (among one_byte_marks b) b foreign_kind

-- "marks take the longest match": the mark that begins with the byte b, with n after it
unfoldable pub longest_mark : ℕ → ℕ → ℕ
longest_mark b n = cond (eqb (two_byte_mark b n) 0) (one_byte_mark b) (two_byte_mark b n)

-- the bytes of a mark of that kind
unfoldable pub mark_width : ℕ → ℕ
mark_width k = cond (leb arrow_kind k && leb k at_least_kind) 2 1

-- "a point and digits with nothing between": what follows a run of digits, how many bytes it has; 0 where it is none
unfoldable pub fraction : List ℕ → ℕ
fraction [] = 0
fraction (b ∷ bs) = cond (eqb b point && leb 1 (span digit bs)) (suc (span digit bs)) 0

-- so many of them belong to the token of the digits, which have bs after the first: none where no points are taken
abbrev pub fraction_of : Bool → List ℕ → ℕ
fraction_of points bs = cond points (fraction (drop (span digit bs) bs)) 0

-- "digits, a point and digits .. are one token, only a literal"
abbrev pub digits_kind : ℕ → ℕ
digits_kind w = cond (eqb w 0) number_kind decimal_kind

-- "A run of letters is a word, a run of digits a number"; "A foreign byte is a token that no rule has":
-- the kind of the token that begins with the byte b, with bs after it; where points are taken, of digits with a point too
unfoldable pub token_kind : Bool → ℕ → List ℕ → ℕ
token_kind points b bs =
    cond (eqb (class_of b) letter) (word_kind (b ∷ take (span letter bs) bs))
    (cond (eqb (class_of b) digit) (digits_kind (fraction_of points bs))
    (cond (eqb (class_of b) mark) (longest_mark b (get_or bs 0 0)) foreign_kind))

-- and how many bytes it has
unfoldable pub width_of : Bool → ℕ → List ℕ → ℕ
width_of points b bs =
    cond (eqb (class_of b) letter) (1 + span letter bs)
    (cond (eqb (class_of b) digit) (1 + span digit bs + fraction_of points bs)
    (cond (eqb (class_of b) mark) (mark_width (longest_mark b (get_or bs 0 0))) 1))

-- what stands at the place s, where the list is what is left of the text: the end or a token
unfoldable pub token_here : Bool → ℕ → List ℕ → Token
token_here points s [] = record { kind = end_kind; start = s; end = s }
token_here points s (b ∷ bs) = record { kind = token_kind points b bs; start = s; end = s + width_of points b bs }

-- where the first byte from at on stands that is no blank
abbrev pub past : List ℕ → ℕ → ℕ
past text at = at + span blank (drop at text)

-- the next token from at on; `points`: whether digits, a point and digits are one
unfoldable pub token_at : Bool → List ℕ → ℕ → Token
token_at points text at = token_here points (past text at) (drop (past text at) text)

-- the bytes of a token
abbrev pub spelling : List ℕ → Token → List ℕ
spelling text t = take (t.end - t.start) (drop t.start text)

-- ---- the clause: "After the clause digits, a point and digits with nothing between are one token, only a literal; any other
-- point is foreign"
-- where the reading of tokens stands: so many ";" of the declarations are still to come, 0 right after the notes; behind the
-- clause's word; in the condition, where points are taken if the clause stands before it
pub data Mode : Type 0 where
  declares : ℕ → Mode
  clause : Mode
  body : Bool → Mode

-- where it stands after a token of the kind k
abbrev pub next : Mode → ℕ → Mode
next (declares zero) k = cond (eqb k scale_kind) clause (body false)
next (declares (suc n)) k = cond (eqb k semicolon) (declares n) (declares (suc n))
next clause k = cond (eqb k semicolon) (body true) clause
next (body points) k = body points

-- whether points are taken there
abbrev pub takes_points : Mode → Bool
takes_points (declares n) = false
takes_points clause = false
takes_points (body points) = points

-- "The word is the clause only before a number": the next token from at on is the word `scale`, and the one after it a number
unfoldable pub clause_at : List ℕ → ℕ → Bool
clause_at text at =
    same (spelling text (token_at false text at)) scale_word
    && eqb (token_at false text (token_at false text at).end).kind number_kind

-- a word as that of the clause
abbrev pub as_scale : Token → Token
as_scale t = record { kind = scale_kind; start = t.start; end = t.end }

-- the next token from at on: right after the notes it may be the clause's word
abbrev pub token_in : Mode → List ℕ → ℕ → Token
token_in (declares zero) text at = cond (clause_at text at) (as_scale (token_at false text at)) (token_at false text at)
token_in (declares (suc n)) text at = token_at false text at
token_in clause text at = token_at false text at
token_in (body points) text at = token_at points text at

-- the tokens from at on, at most k of them: none at the end, else the next one and those from its end on
unfoldable pub tokens_in : ℕ → Mode → List ℕ → ℕ → List Token
tokens_in zero md text at = []
tokens_in (suc k) md text at =
    cond (eqb (token_in md text at).kind end_kind) []
    (token_in md text at ∷ tokens_in k (next md (token_in md text at).kind) text (token_in md text at).end)

-- the tokens from at on: each has at least one byte, so there are no more tokens than bytes
unfoldable pub tokens_from : Mode → List ℕ → ℕ → List Token
tokens_from md text at = tokens_in (length text - at) md text at

-- a text's tokens: the ";" of events and of notes are to come
abbrev pub tokens : List ℕ → List Token
tokens text = tokens_from (declares 2) text 0

-- ---- what is said of tokens, in the document's words
-- "marks (those quoted below)": the bytes of each, and the kind of its token
pub data Quoted : List ℕ → ℕ → Type 0 where
  of_one_byte : (b : ℕ) → among one_byte_marks b ≡ true → Quoted (b ∷ []) b
  arrow : Quoted (minus_mark ∷ more_mark ∷ []) arrow_kind
  bars : Quoted (bar ∷ bar ∷ []) bars_kind
  ampersands : Quoted (ampersand ∷ ampersand ∷ []) ampersands_kind
  unequal : Quoted (bang ∷ equal_mark ∷ []) unequal_kind
  at_most : Quoted (less_mark ∷ equal_mark ∷ []) at_most_kind
  at_least : Quoted (more_mark ∷ equal_mark ∷ []) at_least_kind

-- the bytes m stand in the text from s on
abbrev pub StandsAt : List ℕ → ℕ → List ℕ → Type 0
StandsAt text s m = take (length m) (drop s text) ≡ m

-- "marks (those quoted below) take the longest match. .. a mark byte in no quoted mark, is a token that no rule has"
pub data LongestMatch (text : List ℕ) (t : Token) : Type 0 where
  in_quoted : Quoted (spelling text t) t.kind
      → ((m : List ℕ) (k : ℕ) → Quoted m k → StandsAt text t.start m → length m ≤ t.end - t.start)
      → LongestMatch text t
  in_none : t.kind ≡ foreign_kind → t.end ≡ t.start + 1
      → ((m : List ℕ) (k : ℕ) → Quoted m k → StandsAt text t.start m → ⊥)
      → LongestMatch text t

-- "digits, a point and digits with nothing between"
pub record PointBetween (w : List ℕ) : Type 0 where
  pub whole : List ℕ
  pub rest : List ℕ
  pub is : w ≡ whole ++ point ∷ rest
  pub whole_digits : OfClass digit whole
  pub rest_digits : OfClass digit rest
  pub whole_some : 1 ≤ length whole
  pub rest_some : 1 ≤ length rest

-- "After the clause digits, a point and digits .. are one token": before the clause's word none is
abbrev pub DecimalsBehind : List Token → Type 0
DecimalsBehind [] = Unit
DecimalsBehind (t ∷ ts) = (t.kind ≡ decimal_kind → ⊥) × ((t.kind ≡ scale_kind → ⊥) → DecimalsBehind ts)

-- how many ";" there are
abbrev pub semicolons : List Token → ℕ
semicolons [] = 0
semicolons (t ∷ ts) = cond (eqb t.kind semicolon) (suc (semicolons ts)) (semicolons ts)

-- the kind of the first token
abbrev pub first_kind : List Token → ℕ
first_kind [] = end_kind
first_kind (t ∷ ts) = t.kind

-- and of the last one, k where there is none
abbrev pub last_kind : ℕ → List Token → ℕ
last_kind k [] = k
last_kind k (t ∷ ts) = last_kind t.kind ts

-- "after the notes": right behind the second ";"
abbrev pub AfterNotes : List Token → Type 0
AfterNotes ts = (semicolons ts ≡ 2) × (last_kind end_kind ts ≡ semicolon)

-- the byte at k is one of a token's
pub record OfToken (ts : List Token) (k : ℕ) : Type 0 where
  pub token : Token
  pub one : Memᴰ token ts
  pub starts : token.start ≤ k
  pub ends : k < token.end

-- places rise from lo on, up to hi: a token has a byte at least, and ends before the next one begins
abbrev pub Rising : ℕ → ℕ → List Token → Type 0
Rising lo hi [] = lo ≤ hi
Rising lo hi (t ∷ ts) = (lo ≤ t.start) × (t.start < t.end) × Rising t.end hi ts
