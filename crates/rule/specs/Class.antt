-- Byte classes, from 'From rule text to frames' of document 01. Assumes nothing: definitions.
use Rattle.std.specs.Prelude.{ℕ, suc, ◌≤◌, ◌≡◌, Bool, false, ◌||◌, cond, List, [], ◌∷◌, eqb}
use Rattle.numbers.specs.Range.{between}

-- "lower-case letter, digit, blank (space, LF), mark, or foreign": each class has a number
abbrev pub letter : ℕ
letter = 1

abbrev pub digit : ℕ
digit = 2

abbrev pub blank : ℕ
blank = 3

abbrev pub mark : ℕ
mark = 4

abbrev pub foreign : ℕ
foreign = 0

-- ---- the bytes of the quoted marks: ; ! { } ( ) [ ] * + - = < >, and | and &, which stand only in the marks of two bytes
abbrev pub semicolon : ℕ
semicolon = 59

abbrev pub bang : ℕ
bang = 33

abbrev pub open_brace : ℕ
open_brace = 123

abbrev pub close_brace : ℕ
close_brace = 125

abbrev pub open_paren : ℕ
open_paren = 40

abbrev pub close_paren : ℕ
close_paren = 41

abbrev pub open_bracket : ℕ
open_bracket = 91

abbrev pub close_bracket : ℕ
close_bracket = 93

abbrev pub star : ℕ
star = 42

abbrev pub plus_mark : ℕ
plus_mark = 43

abbrev pub minus_mark : ℕ
minus_mark = 45

abbrev pub equal_mark : ℕ
equal_mark = 61

abbrev pub less_mark : ℕ
less_mark = 60

abbrev pub more_mark : ℕ
more_mark = 62

abbrev pub bar : ℕ
bar = 124

abbrev pub ampersand : ℕ
ampersand = 38

-- "digits, a point and digits": the point, which is in no quoted mark (document 02, point 1)
abbrev pub point : ℕ
point = 46

-- b is one of the list
abbrev pub among : List ℕ → ℕ → Bool
among [] b = false
among (x ∷ xs) b = eqb b x || among xs b

-- "marks (those quoted below)": those of one byte, ; ! { } = < > + - * ( ) [ ]
abbrev pub one_byte_marks : List ℕ
one_byte_marks =
    semicolon ∷ bang ∷ open_brace ∷ close_brace ∷ equal_mark ∷ less_mark ∷ more_mark ∷ plus_mark ∷ minus_mark
    ∷ star ∷ open_paren ∷ close_paren ∷ open_bracket ∷ close_bracket ∷ []

-- a byte of a quoted mark
abbrev pub is_mark_byte : ℕ → Bool
is_mark_byte b = among one_byte_marks b || (eqb b bar || eqb b ampersand)

-- "Every one of the 256 byte values has one class"
unfoldable pub class_of : ℕ → ℕ
class_of b =
    cond (between 97 122 b) letter
    (cond (between 48 57 b) digit
    (cond (eqb b 32 || eqb b 10) blank
    (cond (is_mark_byte b) mark foreign)))

-- "A run": how many bytes at the front have the class c
unfoldable pub span : ℕ → List ℕ → ℕ
span c [] = 0
span c (b ∷ bs) = cond (eqb (class_of b) c) (suc (span c bs)) 0

-- every byte has the class c
abbrev pub OfClass : ℕ → List ℕ → Type 0
OfClass c [] = Unit
OfClass c (b ∷ bs) = (class_of b ≡ c) × OfClass c bs

-- every byte is a "lower-case letter", a to z
abbrev pub Letters : List ℕ → Type 0
Letters [] = Unit
Letters (b ∷ bs) = (97 ≤ b) × (b ≤ 122) × Letters bs
