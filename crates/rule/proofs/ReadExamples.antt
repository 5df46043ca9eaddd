-- Worked texts, each limit from both sides, computed from the definition that `read`'s contract cites. Assumes nothing.
use mathlib.Core.Path.{◌≡◌, refl}
use mathlib.Core.List.{List, [], ◌∷◌, ◌++◌, map}
use Prim.Native.Nat.{ℕ, zero, suc}
use Prim.Native.Char.{code as char_code}
use Prim.Native.String.{String, [] as nil, ◌∷◌ as cons}
use lib.ListN.{replicate}
use Rattle.rule.specs.Limits.{buffer_bytes}
use Rattle.rule.specs.Class.{class_of, span}
use Rattle.rule.specs.Token.{same, word_kind, longest_mark, mark_width, fraction, width_of, token_here, token_at, clause_at, tokens_in, tokens_from}
use Rattle.rule.specs.Token.{token_kind}
use Rattle.rule.specs.Name.{code, name_code}
use Rattle.rule.specs.Number.{number_value}
use Rattle.rule.specs.Spelling.{decimal_from, decimal, decimals}
use Rattle.rule.specs.Machine.{deeper, start_factor, step, finish, run}
use Rattle.rule.specs.Memory.{position, negated, put, acts}
use Rattle.rule.specs.References.{reference_count}
use Rattle.rule.specs.Order.{order_of}
use Rattle.rule.specs.Sizes.{sizes_fit}
use Rattle.rule.specs.Frames.{kind_of as frame_kind}
use Rattle.rule.specs.Check.{checked_of}
use Rattle.rule.specs.Reading.{judged, read_of}
use Rattle.rule.specs.ReadTold.{ReadAnswer, frames, refused}

-- ---- texts
-- a text's bytes
abbrev pub bytes : String → List ℕ
bytes nil = []
bytes (cons c s) = char_code c ∷ bytes s

-- document 01's own rule
abbrev pub latency_text : String
latency_text = "events in out; notes t; t(out[i]) - t(in[i]) <= 25"

-- so many times the same
abbrev times : ℕ → String → List ℕ
times zero s = []
times (suc n) s = bytes s ++ times n s

-- a condition over one event and one note; it begins at 19
abbrev over_a : String → List ℕ
over_a s = bytes "events a; notes t; " ++ bytes s

-- `t(a[i]) > 0` with so many signs before it and so many after
abbrev nested : ℕ → String → String → List ℕ
nested n before after = over_a "" ++ (times n before ++ (bytes "t(a[i]) > 0" ++ times n after))

-- the same, with the signs around the sum
abbrev nested_sum : ℕ → String → List ℕ
nested_sum n before = over_a "" ++ (times n before ++ (bytes "t(a[i])" ++ (times n ")" ++ bytes " > 0")))

-- ---- the table: a text, and what reading answers
pub record Example : Type 0 where
  pub text : List ℕ
  pub answer : ReadAnswer

abbrev gives : List ℕ → ReadAnswer → Example
gives s a = record { text = s; answer = a }

-- document 01's own rule, and the five kinds of rules of the literature, of which latency is the first again
abbrev kinds : List Example
kinds =
    gives (bytes latency_text) (frames 5)
    ∷ gives (bytes "events display; notes t; t(display[i+1]) - t(display[i]) = 10") (frames 5)
    ∷ gives (bytes "events display; notes t; abs(t(display[i]) - (i + 1) * 10) <= 4") (frames 10)
    ∷ gives (bytes "events display; notes t; t(display[i+100]) - t(display[i]) <= 1001") (frames 5)
    ∷ gives (bytes "events display; notes t; t(display[i+1000]) - t(display[i]) > 9999") (frames 5)
    ∷ []

-- 2: "1 to 1,024 bytes"
abbrev lengths : List Example
lengths =
    gives [] (refused 2 0)
    ∷ gives (over_a "t(a[i]) > 0" ++ replicate 994 32) (frames 3)
    ∷ gives (over_a "t(a[i]) > 0" ++ replicate 995 32) (refused 2 0)
    ∷ []

-- 3: no sum begins with <; the text ends early, place its length; the longest match; marks alone; foreign bytes
abbrev grammar : List Example
grammar =
    gives (over_a "t(a[i]) < <") (refused 3 29)
    ∷ gives (over_a "t(a[i]) <") (refused 3 28)
    ∷ gives (over_a "t(a[i]) < = 1") (refused 3 29)
    ∷ gives (over_a "t(a[i]) <= 1") (frames 3)
    ∷ gives (over_a "t(a[i]) < 1 - > t(a[i]) < 1") (refused 3 33)
    ∷ gives (over_a "t(a[i]) < 1 -> t(a[i]) < 1") (frames 7)
    ∷ gives (over_a "t(a[i]) < 1 | t(a[i]) < 1") (refused 3 31)
    ∷ gives (over_a "t(a[i]) < 1 || t(a[i]) < 1") (frames 7)
    ∷ gives (over_a "t(a[i]) < 1 & t(a[i]) < 1") (refused 3 31)
    ∷ gives (over_a "t(a[i]) < 1 && t(a[i]) < 1") (frames 7)
    -- LF and space are blanks; TAB, CR and a capital are foreign
    ∷ gives (over_a "t(a[i])" ++ (10 ∷ 32 ∷ bytes "< 1")) (frames 3)
    ∷ gives (over_a "t(a[i])" ++ (9 ∷ bytes "< 1")) (refused 3 26)
    ∷ gives (over_a "t(a[i])" ++ (13 ∷ bytes "< 1")) (refused 3 26)
    ∷ gives (over_a "t(A[i]) < 1") (refused 3 21)
    ∷ []

-- 4: 12 and 13 letters; 8 and 9 events, 4 and 5 notes; twice in its list, place the second; not declared, the first
abbrev names : List Example
names =
    gives (bytes "events abcdefghijkl; notes t; t(abcdefghijkl[i]) < 1") (frames 3)
    ∷ gives (bytes "events abcdefghijklm; notes t; t(abcdefghijklm[i]) < 1") (refused 4 7)
    ∷ gives (bytes "events a; notes abcdefghijkl; abcdefghijkl(a[i]) < 1") (frames 3)
    ∷ gives (bytes "events a; notes abcdefghijklm; abcdefghijklm(a[i]) < 1") (refused 4 16)
    ∷ gives (bytes "events a b c d e f g h; notes t; t(h[i]) < 1") (frames 3)
    ∷ gives (bytes "events a b c d e f g h j; notes t; t(h[i]) < 1") (refused 4 23)
    ∷ gives (bytes "events a; notes p q r s; s(a[i]) < 1") (frames 3)
    ∷ gives (bytes "events a; notes p q r s t; s(a[i]) < 1") (refused 4 24)
    ∷ gives (bytes "events a a; notes t; t(a[i]) < 1") (refused 4 9)
    ∷ gives (bytes "events a; notes t t; t(a[i]) < 1") (refused 4 18)
    ∷ gives (bytes "events a; notes a; a(a[i]) < 1") (frames 3)
    ∷ gives (over_a "t(b[i]) < t(c[i])") (refused 4 21)
    ∷ gives (over_a "a(t[i]) < 1") (refused 4 19)
    ∷ []

-- 5: a factor of 0, 1, 9 and 10, an offset of 9,999 and 10,000, a literal of 2^31 - 1 and 2^31; the first of two
abbrev numbers : List Example
numbers =
    gives (over_a "t(a[0*i]) < 1") (refused 5 23)
    ∷ gives (over_a "t(a[1*i]) < 1") (frames 3)
    ∷ gives (over_a "t(a[9*i]) < 1") (frames 3)
    ∷ gives (over_a "t(a[10*i]) < 1") (refused 5 23)
    ∷ gives (over_a "t(a[i+9999]) < 1") (frames 3)
    ∷ gives (over_a "t(a[i+10000]) < 1") (refused 5 25)
    ∷ gives (over_a "t(a[i-9999]) < 1") (frames 3)
    ∷ gives (over_a "t(a[i-10000]) < 1") (refused 5 25)
    ∷ gives (over_a "t(a[i]) < 2147483647") (frames 3)
    ∷ gives (over_a "t(a[i]) < 2147483648") (refused 5 29)
    ∷ gives (over_a "t(a[0*i]) < 2147483648") (refused 5 23)
    ∷ []

-- 6: depth 16 and 17 by each of its signs. 16 times -> would be over 64 frames, so 15 and a group; what stands left of -> is not
-- deeper for it
abbrev depths : List Example
depths =
    gives (nested 16 "!" "") (frames 19)
    ∷ gives (nested 17 "!" "") (refused 6 0)
    ∷ gives (nested 16 "{" "}") (frames 3)
    ∷ gives (nested 17 "{" "}") (refused 6 0)
    ∷ gives (nested_sum 16 "(") (frames 3)
    ∷ gives (nested_sum 17 "(") (refused 6 0)
    ∷ gives (nested_sum 16 "abs(") (frames 19)
    ∷ gives (nested_sum 17 "abs(") (refused 6 0)
    ∷ gives (over_a "" ++ (times 15 "t(a[i]) > 0 -> " ++ bytes "{t(a[i]) > 0}")) (frames 63)
    ∷ gives (over_a "" ++ (times 15 "t(a[i]) > 0 -> " ++ bytes "{{t(a[i]) > 0}}")) (refused 6 0)
    ∷ gives (nested 16 "{" "}" ++ bytes " -> 0 = 0") (frames 7)
    ∷ gives (over_a "0 = 0 -> " ++ (times 16 "{" ++ (bytes "t(a[i]) > 0" ++ times 16 "}"))) (refused 6 0)
    ∷ []

-- 6: 64 and 65 frames
abbrev counts : List Example
counts =
    gives (over_a "!t(a[i])" ++ (times 30 "+1" ++ bytes " > 0")) (frames 64)
    ∷ gives (over_a "!!t(a[i])" ++ (times 30 "+1" ++ bytes " > 0")) (refused 6 0)
    ∷ []

-- 7: no reference; 8: 2^62, and 1 more
abbrev others : List Example
others =
    gives (over_a "0 = 0") (refused 7 0)
    ∷ gives (over_a "t(a[i])*t(a[i]) < 1") (frames 5)
    ∷ gives (over_a "t(a[i])*t(a[i])+1 < 1") (refused 8 0)
    ∷ []

-- the same with a scale; the condition begins at 28
abbrev scaled : String → List ℕ
scaled s = over_a "scale 1; " ++ bytes s

-- the allowance of 12.5
abbrev pub allowance_text : String
allowance_text = "events in out; notes w; scale 1; w(out[i]) - w(in[i]) <= 12.5"

-- a scale of 6 and of 7, "by its value"; 6 and 7 decimals in a literal, zeros too; its "digits without the point keep the old limit"
abbrev scales : List Example
scales =
    gives (bytes allowance_text) (frames 6)
    ∷ gives (over_a "scale 0; t(a[i]) > 0") (frames 4)
    ∷ gives (over_a "scale 6; t(a[i]) > 0") (frames 4)
    ∷ gives (over_a "scale 7; t(a[i]) > 0") (refused 18 25)
    ∷ gives (over_a "scale 0006; t(a[i]) > 0") (frames 4)
    ∷ gives (over_a "scale 0007; t(a[i]) > 0") (refused 18 25)
    ∷ gives (over_a "scale 99999999999; t(a[i]) > 0") (refused 18 25)
    ∷ gives (scaled "t(a[i]) < 1.123456") (frames 4)
    ∷ gives (scaled "t(a[i]) < 1.1234567") (refused 18 38)
    ∷ gives (scaled "t(a[i]) < 1.0000000") (refused 18 38)
    ∷ gives (scaled "t(a[i]) < 214748364.7") (frames 4)
    ∷ gives (scaled "t(a[i]) < 214748364.8") (refused 5 38)
    -- 18 comes after 5, and before 6 and 7; the first of two
    ∷ gives (over_a "scale 7; t(b[i]) > 0") (refused 4 30)
    ∷ gives (over_a "scale 7; t(a[i]) < 2147483648") (refused 5 38)
    ∷ gives (over_a "scale 7; t(a[i]) < 1.1234567") (refused 18 25)
    ∷ gives (over_a "scale 7; " ++ (times 17 "!" ++ bytes "t(a[i]) > 0")) (refused 18 25)
    ∷ gives (over_a "scale 7; 0 = 0") (refused 18 25)
    -- the head counts among the 64
    ∷ gives (scaled "t(a[i])" ++ (times 30 "+1" ++ bytes " > 0")) (frames 64)
    ∷ gives (scaled "!t(a[i])" ++ (times 30 "+1" ++ bytes " > 0")) (refused 6 0)
    ∷ []

-- "The word is the clause only before a number, and stays a name elsewhere"; "any other point is foreign"
abbrev points : List Example
points =
    gives (bytes "events a; notes scale; scale(a[i]) > 0") (frames 3)
    ∷ gives (bytes "events a; notes scale; scale 2; scale(a[i]) > 0.5") (frames 4)
    ∷ gives (bytes "events scale; notes t; t(scale[i]) > 0") (frames 3)
    ∷ gives (over_a "scale") (refused 3 24)
    ∷ gives (over_a "scale x") (refused 3 25)
    ∷ gives (over_a "scale; t(a[i]) > 0") (refused 3 24)
    ∷ gives (bytes "events scale 5") (refused 3 13)
    ∷ gives (over_a "scale 2.5; t(a[i]) > 0") (refused 3 26)
    ∷ gives (over_a "t(a[i]) > 1.5") (refused 3 30)
    ∷ gives (scaled "t(a[i]) > 1.5") (frames 4)
    ∷ gives (scaled "t(a[i]) > 1.") (refused 3 39)
    ∷ gives (scaled "t(a[i]) > .5") (refused 3 38)
    ∷ gives (scaled "t(a[i]) > 1 .5") (refused 3 40)
    ∷ gives (scaled "t(a[i]) > 1.2.3") (refused 3 41)
    ∷ gives (scaled "t(a[2.0*i]) > 0") (refused 3 32)
    ∷ gives (scaled "t(a[i+2.0]) > 0") (refused 3 34)
    ∷ []

abbrev table : List Example
table = kinds ++ (lengths ++ (grammar ++ (names ++ (numbers ++ (depths ++ (counts ++ (others ++ (scales ++ points))))))))

abbrev zeros : List ℕ
zeros = replicate buffer_bytes 0

texts_read : map (λ x. (read_of x.text zeros).0) table ≡ map (λ x. x.answer) table
unfolding class_of span same word_kind longest_mark mark_width fraction token_kind width_of token_here token_at clause_at tokens_in tokens_from code name_code decimal_from decimal decimals number_value start_factor step finish run deeper position negated put acts judged read_of checked_of order_of reference_count sizes_fit frame_kind
texts_read = refl

-- 1: 512 bytes, whatever the text
buffers_tested : map (λ n. (read_of (over_a "t(a[i]) < 1") (replicate n 7)).0) (0 ∷ 511 ∷ 512 ∷ 513 ∷ []) ≡ refused 1 0 ∷ refused 1 0 ∷ frames 3 ∷ refused 1 0 ∷ []
unfolding class_of span same word_kind longest_mark mark_width fraction token_kind width_of token_here token_at clause_at tokens_in tokens_from code name_code decimal_from decimal decimals number_value start_factor step finish run deeper position negated put acts judged read_of checked_of order_of reference_count sizes_fit frame_kind
buffers_tested = refl

-- the frames of document 01's own rule, and zero after the last
rule-frames : (read_of (bytes latency_text) (replicate buffer_bytes 7)).1
    ≡ (3 ∷ 1 ∷ 0 ∷ 1 ∷ 0 ∷ 0 ∷ 0 ∷ 0 ∷ 3 ∷ 0 ∷ 0 ∷ 1 ∷ 0 ∷ 0 ∷ 0 ∷ 0 ∷ 0x12 ∷ 0 ∷ 0 ∷ 0 ∷ 0 ∷ 0 ∷ 0 ∷ 0
    ∷ 1 ∷ 0 ∷ 0 ∷ 0 ∷ 0 ∷ 0 ∷ 0 ∷ 25 ∷ 0x24 ∷ []) ++ replicate 479 0
unfolding class_of span same word_kind longest_mark mark_width fraction token_kind width_of token_here token_at clause_at tokens_in tokens_from code name_code decimal_from decimal decimals number_value start_factor step finish run deeper position negated put acts judged read_of checked_of order_of reference_count sizes_fit frame_kind
rule-frames = refl

-- those of the allowance: the head with the scale in byte 1, and the literal with its decimals there
allowance-frames : (read_of (bytes allowance_text) (replicate buffer_bytes 7)).1
    ≡ (4 ∷ 1 ∷ 0 ∷ 0 ∷ 0 ∷ 0 ∷ 0 ∷ 0 ∷ 3 ∷ 1 ∷ 0 ∷ 1 ∷ 0 ∷ 0 ∷ 0 ∷ 0 ∷ 3 ∷ 0 ∷ 0 ∷ 1 ∷ 0 ∷ 0 ∷ 0 ∷ 0
    ∷ 0x12 ∷ 0 ∷ 0 ∷ 0 ∷ 0 ∷ 0 ∷ 0 ∷ 0 ∷ 1 ∷ 1 ∷ 0 ∷ 0 ∷ 0 ∷ 0 ∷ 0 ∷ 125 ∷ 0x24 ∷ []) ++ replicate 471 0
unfolding class_of span same word_kind longest_mark mark_width fraction token_kind width_of token_here token_at clause_at tokens_in tokens_from code name_code decimal_from decimal decimals number_value start_factor step finish run deeper position negated put acts judged read_of checked_of order_of reference_count sizes_fit frame_kind
allowance-frames = refl
