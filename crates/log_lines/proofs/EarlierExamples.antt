-- Worked lines of the earlier edition, computed. Bytes are given by value: 48 is the digit 0, 70 is F, 102 is f. Assumes nothing.
use mathlib.Core.Path.{◌≡◌, refl}
use mathlib.Core.List.{List, [], ◌∷◌, ◌++◌, map}
use Prim.Native.Nat.{ℕ, ◌-◌}
use lib.IntN.{pos, negsuc}
use lib.ListN.{replicate}
use Rattle.log_lines.specs.Digit.{digit_value, capital}
use Rattle.log_lines.specs.Line.{digits_at_front, bad_place, line, refused, line_of}
use Rattle.log_lines.specs.Earlier.{old_line_of, digits_of, Converted, converted, not_converted, loss_of, raised_def, lowered_def}

-- ---- old lines
-- 0180007FFFffff: event 1, -32,768, 32,767, -1
old-ends : List ℕ
old-ends = (48 ∷ 49 ∷ 56 ∷ []) ++ replicate 3 48 ++ (55 ∷ []) ++ replicate 3 70 ++ replicate 4 102

-- its event and signed notes, the fourth 0
old-reading : old_line_of old-ends ≡ line 1 (negsuc 32767) (pos 32767) (negsuc 0) (pos 0)
unfolding digit_value digits_at_front old_line_of old-ends
old-reading = refl

-- 01FFFF800000007FFFFFFFFFFF00000000
new-ends : List ℕ
new-ends = (48 ∷ 49 ∷ []) ++ replicate 4 70 ++ (56 ∷ []) ++ replicate 7 48 ++ (55 ∷ []) ++ replicate 11 70 ++ replicate 8 48

raised-ends : raised_def old-ends ≡ converted new-ends
unfolding digit_value digits_at_front old_line_of digits_of raised_def old-ends new-ends
raised-ends = refl

-- and down again, in capitals
lowered-ends : lowered_def new-ends ≡ converted (map capital old-ends)
unfolding digit_value capital digits_at_front bad_place line_of digits_of loss_of lowered_def old-ends new-ends
lowered-ends = refl

-- 13 digits, 15, none; 14 and a CR
lengths : map (λ (s : List ℕ). raised_def s) (replicate 13 48 ∷ replicate 15 48 ∷ [] ∷ (replicate 14 48 ++ (13 ∷ [])) ∷ [])
    ≡ map (not_converted 34 23) (13 ∷ 14 ∷ 0 ∷ 14 ∷ [])
unfolding digit_value digits_at_front old_line_of digits_of raised_def
lengths = refl

-- 14 bytes, those before a place a, those after it F, with a byte at that place
raised_with : ℕ → ℕ → Converted
raised_with place b = raised_def (replicate place 97 ++ (b ∷ []) ++ replicate (13 - place) 70)

-- the bytes beside the digits, / and :, @ and G, ` and g, are refused with their place: the first, one in the middle, the last
beside : List ℕ
beside = 47 ∷ 58 ∷ 64 ∷ 71 ∷ 96 ∷ 103 ∷ []

beside_first : map (raised_with 0) beside ≡ replicate 6 (not_converted 34 23 0)
unfolding digit_value digits_at_front old_line_of digits_of raised_def raised_with beside
beside_first = refl

beside_middle : map (raised_with 7) beside ≡ replicate 6 (not_converted 34 23 7)
unfolding digit_value digits_at_front old_line_of digits_of raised_def raised_with beside
beside_middle = refl

beside-last : map (raised_with 13) beside ≡ replicate 6 (not_converted 34 23 13)
unfolding digit_value digits_at_front old_line_of digits_of raised_def raised_with beside
beside-last = refl

-- ---- lines brought down: event 0 and four notes of eight digits
below : List ℕ → List ℕ → List ℕ → List ℕ → Converted
below a b c d = lowered_def (replicate 2 48 ++ a ++ b ++ c ++ d)

-- notes by their digits: 0, 1 and -1
zero : List ℕ
zero = replicate 8 48

one : List ℕ
one = replicate 7 48 ++ (49 ∷ [])

minus_one : List ℕ
minus_one = replicate 8 70

-- 32,767 and 32,768
most : List ℕ
most = replicate 4 48 ++ (55 ∷ []) ++ replicate 3 70

over : List ℕ
over = replicate 4 48 ++ (56 ∷ []) ++ replicate 3 48

-- -32,768 and -32,769
least : List ℕ
least = replicate 4 70 ++ (56 ∷ []) ++ replicate 3 48

under : List ℕ
under = replicate 4 70 ++ (55 ∷ []) ++ replicate 3 70

-- 32,767 and -32,768 are brought down at each place
held : (below most least most zero ∷ below least most least zero ∷ [])
    ≡ map converted
    ((replicate 2 48 ++ (55 ∷ []) ++ replicate 3 70 ++ (56 ∷ []) ++ replicate 3 48 ++ (55 ∷ []) ++ replicate 3 70)
    ∷ (replicate 2 48 ++ (56 ∷ []) ++ replicate 3 48 ++ (55 ∷ []) ++ replicate 3 70 ++ (56 ∷ []) ++ replicate 3 48)
    ∷ [])
unfolding digit_value digits_at_front bad_place line_of digits_of loss_of lowered_def below zero most least
held = refl

-- 32,768 and -32,769 are refused with 25, at the note's first digit
wide-first : (below over most most zero ∷ below under most most zero ∷ []) ≡ replicate 2 (not_converted 14 25 2)
unfolding digit_value digits_at_front bad_place line_of digits_of loss_of lowered_def below zero most over under
wide-first = refl

wide-second : (below least over most zero ∷ below most under most zero ∷ []) ≡ replicate 2 (not_converted 14 25 10)
unfolding digit_value digits_at_front bad_place line_of digits_of loss_of lowered_def below zero most least over under
wide-second = refl

wide-third : (below most least over zero ∷ below least most under zero ∷ []) ≡ replicate 2 (not_converted 14 25 18)
unfolding digit_value digits_at_front bad_place line_of digits_of loss_of lowered_def below zero most least over under
wide-third = refl

-- of several the first
first-wide : (below over over over zero ∷ below most over under zero ∷ []) ≡ not_converted 14 25 2 ∷ not_converted 14 25 10 ∷ []
unfolding digit_value digits_at_front bad_place line_of digits_of loss_of lowered_def below zero most over under
first-wide = refl

-- a fourth note other than 0 is refused with 24, before 25
fourth-note : (below most least most one ∷ below most least most minus_one ∷ below over under over one ∷ [])
    ≡ replicate 3 (not_converted 14 24 0)
unfolding digit_value digits_at_front bad_place line_of digits_of loss_of lowered_def below one minus_one most least over under
fourth-note = refl

-- 15 comes first: a G as the last digit of a fourth note, after a wide first one
not_a_line : below over most most (replicate 7 48 ++ (71 ∷ [])) ≡ not_converted 14 15 33
unfolding digit_value digits_at_front bad_place line_of digits_of loss_of lowered_def below most over
not_a_line = refl

-- an old line is no line of today, and 15 says so
old_as_new : lowered_def old-ends ≡ not_converted 14 15 14
unfolding digit_value digits_at_front bad_place line_of digits_of loss_of lowered_def old-ends
old_as_new = refl

-- the zero bytes of a refused line are no line of either edition
zero-bytes : (line_of (replicate 34 0) ∷ old_line_of (replicate 14 0) ∷ []) ≡ refused 15 0 ∷ refused 23 0 ∷ []
unfolding digit_value digits_at_front bad_place line_of old_line_of
zero-bytes = refl
