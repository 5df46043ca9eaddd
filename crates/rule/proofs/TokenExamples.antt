-- Worked tokens, names and numbers, computed from the definitions. Assumes nothing.
use mathlib.Core.Path.{◌≡◌, refl}
use mathlib.Core.Bool.{true, false}
use mathlib.Core.List.{[], ◌∷◌}
use Rattle.rule.specs.Class.{class_of, span}
use Rattle.rule.specs.Token.{same, word_kind, longest_mark, mark_width, fraction, token_kind, width_of, token_here, token_at, clause_at, tokens_in, tokens_from, tokens}
use Rattle.rule.specs.Token.{body}
use Rattle.rule.specs.Name.{code, long_name, name_code}
use Rattle.rule.specs.Number.{most, number_value}
use Rattle.rule.specs.Spelling.{decimal_from, decimal}
use Rattle.rule.proofs.TokenNext.{tok}

-- a rule's condition: a reference, a mark of two bytes, a number
rule-tokens : tokens (116 ∷ 40 ∷ 111 ∷ 117 ∷ 116 ∷ 91 ∷ 105 ∷ 93 ∷ 41 ∷ 32 ∷ 60 ∷ 61 ∷ 32 ∷ 50 ∷ 53 ∷ []) ≡ tok 1 0 1 ∷ tok 40 1 2 ∷ tok 1 2 5 ∷ tok 91 5 6 ∷ tok 5 6 7 ∷ tok 93 7 8 ∷ tok 41 8 9 ∷ tok 134 10 12 ∷ tok 2 13 15 ∷ []
unfolding class_of span same word_kind longest_mark mark_width fraction token_kind width_of token_here token_at clause_at tokens_in tokens_from
rule-tokens = refl

-- the reserved words, and a name that begins with one
reserved-tokens : tokens (101 ∷ 118 ∷ 101 ∷ 110 ∷ 116 ∷ 115 ∷ 32 ∷ 110 ∷ 111 ∷ 116 ∷ 101 ∷ 115 ∷ 32 ∷ 105 ∷ 32 ∷ 97 ∷ 98 ∷ 115 ∷ 32 ∷ 105 ∷ 105 ∷ []) ≡ tok 3 0 6 ∷ tok 4 7 12 ∷ tok 5 13 14 ∷ tok 6 15 18 ∷ tok 1 19 21 ∷ []
unfolding class_of span same word_kind longest_mark mark_width fraction token_kind width_of token_here token_at clause_at tokens_in tokens_from
reserved-tokens = refl

-- the longest match: ->, then > alone; <=, then =
marks-of-two : tokens (45 ∷ 62 ∷ 62 ∷ 60 ∷ 61 ∷ 61 ∷ 33 ∷ 61 ∷ 61 ∷ 62 ∷ 61 ∷ []) ≡ tok 130 0 2 ∷ tok 62 2 3 ∷ tok 134 3 5 ∷ tok 61 5 6 ∷ tok 133 6 8 ∷ tok 61 8 9 ∷ tok 135 9 11 ∷ []
unfolding class_of span same word_kind longest_mark mark_width fraction token_kind width_of token_here token_at clause_at tokens_in tokens_from
marks-of-two = refl

-- a mark byte alone and a foreign byte are tokens that no rule has
marks-of-one : tokens (124 ∷ 97 ∷ 38 ∷ 124 ∷ 124 ∷ 32 ∷ 65 ∷ []) ≡ tok 255 0 1 ∷ tok 1 1 2 ∷ tok 255 2 3 ∷ tok 131 3 5 ∷ tok 255 6 7 ∷ []
unfolding class_of span same word_kind longest_mark mark_width fraction token_kind width_of token_here token_at clause_at tokens_in tokens_from
marks-of-one = refl

-- blanks only
blank-text : tokens (32 ∷ 10 ∷ 32 ∷ []) ≡ []
unfolding class_of span same word_kind longest_mark mark_width fraction token_kind width_of token_here token_at clause_at tokens_in tokens_from
blank-text = refl

-- nothing
empty-text : tokens ([]) ≡ []
unfolding class_of span same word_kind longest_mark mark_width fraction token_kind width_of token_here token_at clause_at tokens_in tokens_from
empty-text = refl

-- ---- points and the clause
-- `1.`: the point is foreign
point-after : tokens_from (body true) (49 ∷ 46 ∷ []) 0 ≡ tok 2 0 1 ∷ tok 255 1 2 ∷ []
unfolding class_of span same word_kind longest_mark mark_width fraction token_kind width_of token_here token_at clause_at tokens_in tokens_from
point-after = refl

-- `.5`
point-before : tokens_from (body true) (46 ∷ 53 ∷ []) 0 ≡ tok 255 0 1 ∷ tok 2 1 2 ∷ []
unfolding class_of span same word_kind longest_mark mark_width fraction token_kind width_of token_here token_at clause_at tokens_in tokens_from
point-before = refl

-- `1.2.3`: the second point
second-point : tokens_from (body true) (49 ∷ 46 ∷ 50 ∷ 46 ∷ 51 ∷ []) 0 ≡ tok 7 0 3 ∷ tok 255 3 4 ∷ tok 2 4 5 ∷ []
unfolding class_of span same word_kind longest_mark mark_width fraction token_kind width_of token_here token_at clause_at tokens_in tokens_from
second-point = refl

-- `(1).5` and `1. 5`: nothing stands between
apart : tokens_from (body true) (49 ∷ 32 ∷ 46 ∷ 53 ∷ 32 ∷ 49 ∷ 46 ∷ 32 ∷ 53 ∷ []) 0 ≡ tok 2 0 1 ∷ tok 255 2 3 ∷ tok 2 3 4 ∷ tok 2 5 6 ∷ tok 255 6 7 ∷ tok 2 8 9 ∷ []
unfolding class_of span same word_kind longest_mark mark_width fraction token_kind width_of token_here token_at clause_at tokens_in tokens_from
apart = refl

-- `12.5` behind a clause, and without one
decimal-behind : tokens_from (body true) (49 ∷ 50 ∷ 46 ∷ 53 ∷ []) 0 ≡ tok 7 0 4 ∷ []
unfolding class_of span same word_kind longest_mark mark_width fraction token_kind width_of token_here token_at clause_at tokens_in tokens_from
decimal-behind = refl

-- without a clause
decimal-before : tokens_from (body false) (49 ∷ 50 ∷ 46 ∷ 53 ∷ []) 0 ≡ tok 2 0 2 ∷ tok 255 2 3 ∷ tok 2 3 4 ∷ []
unfolding class_of span same word_kind longest_mark mark_width fraction token_kind width_of token_here token_at clause_at tokens_in tokens_from
decimal-before = refl

-- in a rule with the clause, whose number has no point
clause-tokens : tokens (101 ∷ 118 ∷ 101 ∷ 110 ∷ 116 ∷ 115 ∷ 32 ∷ 97 ∷ 59 ∷ 32 ∷ 110 ∷ 111 ∷ 116 ∷ 101 ∷ 115 ∷ 32 ∷ 116 ∷ 59 ∷ 32 ∷ 115 ∷ 99 ∷ 97 ∷ 108 ∷ 101 ∷ 32 ∷ 49 ∷ 59 ∷ 32 ∷ 49 ∷ 50 ∷ 46 ∷ 53 ∷ []) ≡ tok 3 0 6 ∷ tok 1 7 8 ∷ tok 59 8 9 ∷ tok 4 10 15 ∷ tok 1 16 17 ∷ tok 59 17 18 ∷ tok 8 19 24 ∷ tok 2 25 26 ∷ tok 59 26 27 ∷ tok 7 28 32 ∷ []
unfolding class_of span same word_kind longest_mark mark_width fraction token_kind width_of token_here token_at clause_at tokens_in tokens_from
clause-tokens = refl

-- `scale 2.5;`: the point is foreign
clause-point : tokens (101 ∷ 118 ∷ 101 ∷ 110 ∷ 116 ∷ 115 ∷ 32 ∷ 97 ∷ 59 ∷ 32 ∷ 110 ∷ 111 ∷ 116 ∷ 101 ∷ 115 ∷ 32 ∷ 116 ∷ 59 ∷ 32 ∷ 115 ∷ 99 ∷ 97 ∷ 108 ∷ 101 ∷ 32 ∷ 50 ∷ 46 ∷ 53 ∷ 59 ∷ 32 ∷ 49 ∷ []) ≡ tok 3 0 6 ∷ tok 1 7 8 ∷ tok 59 8 9 ∷ tok 4 10 15 ∷ tok 1 16 17 ∷ tok 59 17 18 ∷ tok 8 19 24 ∷ tok 2 25 26 ∷ tok 255 26 27 ∷ tok 2 27 28 ∷ tok 59 28 29 ∷ tok 2 30 31 ∷ []
unfolding class_of span same word_kind longest_mark mark_width fraction token_kind width_of token_here token_at clause_at tokens_in tokens_from
clause-point = refl

-- in a rule without it
without_clause : tokens (101 ∷ 118 ∷ 101 ∷ 110 ∷ 116 ∷ 115 ∷ 32 ∷ 97 ∷ 59 ∷ 32 ∷ 110 ∷ 111 ∷ 116 ∷ 101 ∷ 115 ∷ 32 ∷ 116 ∷ 59 ∷ 32 ∷ 49 ∷ 50 ∷ 46 ∷ 53 ∷ []) ≡ tok 3 0 6 ∷ tok 1 7 8 ∷ tok 59 8 9 ∷ tok 4 10 15 ∷ tok 1 16 17 ∷ tok 59 17 18 ∷ tok 2 19 21 ∷ tok 255 21 22 ∷ tok 2 22 23 ∷ []
unfolding class_of span same word_kind longest_mark mark_width fraction token_kind width_of token_here token_at clause_at tokens_in tokens_from
without_clause = refl

-- `events scale 5`: a name
scale-event : tokens (101 ∷ 118 ∷ 101 ∷ 110 ∷ 116 ∷ 115 ∷ 32 ∷ 115 ∷ 99 ∷ 97 ∷ 108 ∷ 101 ∷ 32 ∷ 53 ∷ []) ≡ tok 3 0 6 ∷ tok 1 7 12 ∷ tok 2 13 14 ∷ []
unfolding class_of span same word_kind longest_mark mark_width fraction token_kind width_of token_here token_at clause_at tokens_in tokens_from
scale-event = refl

-- `notes t; scale` and the end: a name
scale-end : tokens (101 ∷ 118 ∷ 101 ∷ 110 ∷ 116 ∷ 115 ∷ 32 ∷ 97 ∷ 59 ∷ 32 ∷ 110 ∷ 111 ∷ 116 ∷ 101 ∷ 115 ∷ 32 ∷ 116 ∷ 59 ∷ 32 ∷ 115 ∷ 99 ∷ 97 ∷ 108 ∷ 101 ∷ []) ≡ tok 3 0 6 ∷ tok 1 7 8 ∷ tok 59 8 9 ∷ tok 4 10 15 ∷ tok 1 16 17 ∷ tok 59 17 18 ∷ tok 1 19 24 ∷ []
unfolding class_of span same word_kind longest_mark mark_width fraction token_kind width_of token_here token_at clause_at tokens_in tokens_from
scale-end = refl

-- `notes t; scale x`: a name
scale-name : tokens (101 ∷ 118 ∷ 101 ∷ 110 ∷ 116 ∷ 115 ∷ 32 ∷ 97 ∷ 59 ∷ 32 ∷ 110 ∷ 111 ∷ 116 ∷ 101 ∷ 115 ∷ 32 ∷ 116 ∷ 59 ∷ 32 ∷ 115 ∷ 99 ∷ 97 ∷ 108 ∷ 101 ∷ 32 ∷ 120 ∷ []) ≡ tok 3 0 6 ∷ tok 1 7 8 ∷ tok 59 8 9 ∷ tok 4 10 15 ∷ tok 1 16 17 ∷ tok 59 17 18 ∷ tok 1 19 24 ∷ tok 1 25 26 ∷ []
unfolding class_of span same word_kind longest_mark mark_width fraction token_kind width_of token_here token_at clause_at tokens_in tokens_from
scale-name = refl

-- a name of 12 letters has its own number, and one of 13 letters that of the long ones
twelve : name_code (122 ∷ 122 ∷ 122 ∷ 122 ∷ 122 ∷ 122 ∷ 122 ∷ 122 ∷ 122 ∷ 122 ∷ 122 ∷ 122 ∷ []) ≡ 150094635296999120
unfolding name_code code
twelve = refl

thirteen : name_code (122 ∷ 122 ∷ 122 ∷ 122 ∷ 122 ∷ 122 ∷ 122 ∷ 122 ∷ 122 ∷ 122 ∷ 122 ∷ 122 ∷ 122 ∷ []) ≡ long_name
unfolding name_code code
thirteen = refl

-- leading zeros count for nothing, and a value beyond all limits is capped
zeros : number_value (48 ∷ 48 ∷ 48 ∷ 49 ∷ 50 ∷ []) ≡ 12
unfolding number_value decimal decimal_from
zeros = refl

limit : number_value (50 ∷ 49 ∷ 52 ∷ 55 ∷ 52 ∷ 56 ∷ 51 ∷ 54 ∷ 52 ∷ 55 ∷ []) ≡ 2147483647
unfolding number_value decimal decimal_from
limit = refl

beyond : number_value (57 ∷ 57 ∷ 57 ∷ 57 ∷ 57 ∷ 57 ∷ 57 ∷ 57 ∷ 57 ∷ 57 ∷ 57 ∷ 57 ∷ 57 ∷ 57 ∷ 57 ∷ 57 ∷ 57 ∷ 57 ∷ 57 ∷ 57 ∷ []) ≡ most
unfolding number_value decimal decimal_from
beyond = refl
