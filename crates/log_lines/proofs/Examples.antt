-- Worked lines, computed. Bytes are given by value: 48 is the digit 0. Assumes nothing.
use mathlib.Core.Path.{◌≡◌, refl}
use mathlib.Core.Bool.{cond}
use mathlib.Core.List.{List, [], ◌∷◌, ◌++◌, map}
use Prim.Native.Nat.{ℕ, zero, suc, ◌-◌}
use lib.IntN.{pos, negsuc}
use lib.ListN.{replicate}
use Rattle.log_lines.specs.Digit.{digit_value, capital}
use Rattle.log_lines.specs.Line.{digits_at_front, bad_place, LineAnswer, line, refused, line_of}
use Rattle.log_lines.specs.Walk.{lines_of, to_lf, line_at, start_of, line_here, moved_on, at_log_end}
use Rattle.log_lines.specs.declared.walk.LogReader.{LogReader}

-- the bench log: 000000000A000000000000000000000000
bench_1 : line_of (replicate 9 48 ++ (65 ∷ []) ++ replicate 24 48) ≡ line 0 (pos 10) (pos 0) (pos 0) (pos 0)
unfolding digit_value digits_at_front bad_place line_of
bench_1 = refl

-- the bench log: 0100000028000000000000000000000000
bench_2 : line_of ((48 ∷ 49 ∷ []) ++ replicate 6 48 ++ (50 ∷ 56 ∷ []) ++ replicate 24 48) ≡ line 1 (pos 40) (pos 0) (pos 0) (pos 0)
unfolding digit_value digits_at_front bad_place line_of
bench_2 = refl

-- the bench log: 0000000032000000000000000000000000
bench_3 : line_of (replicate 8 48 ++ (51 ∷ 50 ∷ []) ++ replicate 24 48) ≡ line 0 (pos 50) (pos 0) (pos 0) (pos 0)
unfolding digit_value digits_at_front bad_place line_of
bench_3 = refl

-- the bench log: 010000004B000000000000000000000000
bench_4 : line_of ((48 ∷ 49 ∷ []) ++ replicate 6 48 ++ (52 ∷ 66 ∷ []) ++ replicate 24 48) ≡ line 1 (pos 75) (pos 0) (pos 0) (pos 0)
unfolding digit_value digits_at_front bad_place line_of
bench_4 = refl

-- FF800000007FFFFFFFFFFFFFFF00000001: the least note, the greatest, -1 and 1
extremes : line_of ((70 ∷ 70 ∷ 56 ∷ []) ++ replicate 7 48 ++ (55 ∷ []) ++ replicate 15 70 ++ replicate 7 48 ++ (49 ∷ []))
    ≡ line 255 (negsuc 2147483647) (pos 2147483647) (negsuc 0) (pos 1)
unfolding digit_value digits_at_front bad_place line_of
extremes = refl

-- no byte at all
pub empty : line_of [] ≡ refused 15 0
unfolding digit_value digits_at_front bad_place line_of
empty = refl

-- 35 digits
longer : line_of (replicate 35 48) ≡ refused 15 34
unfolding digit_value digits_at_front bad_place line_of
longer = refl

-- 33 digits
shorter : line_of (replicate 33 48) ≡ refused 15 33
unfolding digit_value digits_at_front bad_place line_of
shorter = refl

-- n numbers from a first one on
from : ℕ → ℕ → List ℕ
from first zero = []
from first (suc n) = first ∷ from (suc first) n

-- the value of each byte: 0 to 9 from 48 on, 10 to 15 from 65 and from 97 on, else 16, no digit
each-byte : map digit_value (from 0 256)
    ≡ replicate 48 16 ++ from 0 10 ++ replicate 7 16 ++ from 10 6 ++ replicate 26 16 ++ from 10 6 ++ replicate 153 16
unfolding digit_value from
each-byte = refl

-- the capital of each byte: from 97 on six capitals, else the byte itself
each-capital : map capital (from 0 256) ≡ from 0 97 ++ from 65 6 ++ from 103 153
unfolding capital from
each-capital = refl

-- 01, six letters, 09 and 24 times 0
lettered : List ℕ → List ℕ
lettered letters = (48 ∷ 49 ∷ []) ++ letters ++ (48 ∷ 57 ∷ []) ++ replicate 24 48

-- ABCDEF, abcdef, aBcDeF: both cases in any mixture, one reading
both_cases : map (λ (l : List ℕ). line_of (lettered l)) (from 65 6 ∷ from 97 6 ∷ (97 ∷ 66 ∷ 99 ∷ 68 ∷ 101 ∷ 70 ∷ []) ∷ [])
    ≡ replicate 3 (line 1 (negsuc 1412567286) (pos 0) (pos 0) (pos 0))
unfolding digit_value digits_at_front bad_place line_of from lettered
both_cases = refl

-- ff800000007fffffffffffffff00000001: the least note, the greatest, -1 and 1
extremes-small : line_of ((102 ∷ 102 ∷ 56 ∷ []) ++ replicate 7 48 ++ (55 ∷ []) ++ replicate 15 102 ++ replicate 7 48 ++ (49 ∷ []))
    ≡ line 255 (negsuc 2147483647) (pos 2147483647) (negsuc 0) (pos 1)
unfolding digit_value digits_at_front bad_place line_of
extremes-small = refl

-- the answer to 34 digits, those before a place a, those after it F, with a byte at that place
answer_with : ℕ → ℕ → LineAnswer
answer_with place b = line_of (replicate place 97 ++ (b ∷ []) ++ replicate (33 - place) 70)

-- the bytes beside the digits: / and :, @ and G, ` and g
beside : List ℕ
beside = 47 ∷ 58 ∷ 64 ∷ 71 ∷ 96 ∷ 103 ∷ []

-- each is refused with its place: the first, one in the middle, the last
beside_first : map (answer_with 0) beside ≡ replicate 6 (refused 15 0)
unfolding digit_value digits_at_front bad_place line_of answer_with beside
beside_first = refl

beside_middle : map (answer_with 17) beside ≡ replicate 6 (refused 15 17)
unfolding digit_value digits_at_front bad_place line_of answer_with beside
beside_middle = refl

beside-last : map (answer_with 33) beside ≡ replicate 6 (refused 15 33)
unfolding digit_value digits_at_front bad_place line_of answer_with beside
beside-last = refl

-- 34 digits and a CR
carriage_return : line_of (replicate 34 48 ++ (13 ∷ [])) ≡ refused 15 34
unfolding digit_value digits_at_front bad_place line_of
carriage_return = refl

-- 40 bytes, no digit at 36
bad_past_34 : line_of (replicate 36 48 ++ (71 ∷ 48 ∷ 48 ∷ 48 ∷ [])) ≡ refused 15 34
unfolding digit_value digits_at_front bad_place line_of
bad_past_34 = refl

-- an empty line is a line, and a last LF ends the last line
lines-of : lines_of (65 ∷ 10 ∷ 10 ∷ 66 ∷ 67 ∷ 10 ∷ []) ≡ (65 ∷ []) ∷ [] ∷ (66 ∷ 67 ∷ []) ∷ []
unfolding lines_of
lines-of = refl

-- the last line may lack its LF
last_lacks : lines_of (65 ∷ 10 ∷ 66 ∷ []) ≡ (65 ∷ []) ∷ (66 ∷ []) ∷ []
unfolding lines_of
last_lacks = refl

-- an empty log has no line
no_line : lines_of [] ≡ []
unfolding lines_of
no_line = refl

-- a reader at the start of a log that stands somewhere in memory
reader : List ℕ → LogReader
reader log = start_of (record { ref_ptr = (0, 0); now = log })

-- the lines that a reader hands out in so many steps; at the log's end it hands out none
handed : ℕ → LogReader → List (List ℕ)
handed zero r = []
handed (suc k) r = cond (at_log_end r) (handed k (moved_on r)) (line_here r ∷ handed k (moved_on r))

-- no byte; A, LF, B with and without a last LF; A alone; LF, LF; LF: more steps than lines change nothing
readers_walk : map (λ (log : List ℕ). handed 4 (reader log))
    ([] ∷ (65 ∷ 10 ∷ 66 ∷ 10 ∷ []) ∷ (65 ∷ 10 ∷ 66 ∷ []) ∷ (65 ∷ []) ∷ (10 ∷ 10 ∷ []) ∷ (10 ∷ []) ∷ [])
    ≡ [] ∷ ((65 ∷ []) ∷ (66 ∷ []) ∷ []) ∷ ((65 ∷ []) ∷ (66 ∷ []) ∷ []) ∷ ((65 ∷ []) ∷ []) ∷ ([] ∷ [] ∷ []) ∷ ([] ∷ []) ∷ []
unfolding line_at to_lf reader handed
readers_walk = refl
