-- The report of a false verdict. From document 01, "Feeding, pulling and the window". Assumes nothing: definitions.
use Rattle.std.specs.Prelude.{ℕ, List, [], ◌∷◌, ◌++◌, map, length, drop}
use Rattle.std.specs.Int.{w32}
use Rattle.std.proofs.Common.{of_z}
use Rattle.rule.specs.Tree.{Reference, word_bytes}
use Rattle.verdict.specs.Found.{Found, present, pending, void}
use Rattle.verdict.specs.Value.{note_of}
use Rattle.verdict.specs.Marks.{present_mark, pending_mark, void_mark}
use Rattle.verdict.specs.declared.Verdict.{Verdict}
use Rattle.verdict.specs.declared.Verdict.TheVariants.{True, False, Unknown}

-- "a mark (00 present, 01 pending, 02 void)"
abbrev pub mark_of : Found → ℕ
mark_of (present z) = present_mark
mark_of pending = pending_mark
mark_of void = void_mark

-- a mark "and the value (4 bytes, 0 unless present)", before others
abbrev pub entry : Found → List ℕ → List ℕ
entry x rest = mark_of x ∷ word_bytes (of_z w32 (note_of x)) rest

-- "then per reference in frame order"
abbrev pub entries : List Found → List ℕ
entries [] = []
entries (x ∷ xs) = entry x (entries xs)

-- the fifth byte: "00 for false"
abbrev pub false_byte : ℕ
false_byte = 0

-- report is the document's term: "numbers big-endian: p before the pull (4 bytes), 00 for false, reference count (1 byte), then
-- per reference in frame order a mark .. and the value"
unfoldable pub report_bytes : ℕ → List Found → List ℕ
report_bytes p xs = word_bytes p (false_byte ∷ (length xs ∷ entries xs))

-- bytes at the start of a buffer: "later bytes keep"
abbrev pub written : List ℕ → List ℕ → List ℕ
written bytes buffer = bytes ++ drop (length bytes) buffer

-- "A false verdict fills a report in a lent buffer; other verdicts leave it"; found says what each reference is
abbrev pub report_after : ℕ → List Reference → (Reference → Found) → List ℕ → Verdict → List ℕ
report_after p refs found buffer True = buffer
report_after p refs found buffer False = written (report_bytes p (map found refs)) buffer
report_after p refs found buffer Unknown = buffer
