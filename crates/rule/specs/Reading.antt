-- What `read` answers to a text, and what the lent buffer holds then: refusals 1 to 5, 18 and 6 to 8 in this order.
-- From document 01, "From rule text to frames" and "What is turned down", and document 02, point 1. Assumes nothing: definitions.
use Rattle.std.specs.Prelude.{ℕ, ◌*◌, cond, List, ltb, eqb, length, take, replicate, Result, Ok, Err}
use Rattle.rule.specs.Limits.{frame_bytes, buffer_bytes}
use Rattle.rule.specs.ReadLimits.{text_limit}
use Rattle.rule.specs.Token.{tokens}
use Rattle.rule.specs.Machine.{start, MachineAnswer, accepted, refused, run}
use Rattle.rule.specs.Memory.{Mem, fresh, memory_answer, acts}
use Rattle.rule.specs.Check.{checked_of}
use Rattle.rule.specs.CheckTold.{CheckAnswer}
use Rattle.rule.specs.CheckTold as checking
use Rattle.rule.specs.ReadTold.{ReadAnswer}
use Rattle.rule.specs.ReadTold as reading
use Rattle.rule.specs.ReadsPart.{remembered}
use Rattle.rule.specs.declared.text.Unexpected.{Unexpected}
use Rattle.rule.specs.declared.text.Reader.{Reader}

-- the machine's answer to the whole text, with all bytes zero at first
unfoldable pub judged : List ℕ → MachineAnswer Mem
judged text = run Mem (acts text) (length text) start (fresh (replicate buffer_bytes 0)) (tokens text)

-- 7 and 8, which opening checks too: of the frames that were put
abbrev pub after_check : List ℕ → Mem → CheckAnswer → ReadAnswer × List ℕ
after_check b m checking.accepted = (reading.frames m.count, m.bytes)
after_check b m (checking.refused number place) = (reading.refused number place, b)

-- 4, 5, 18 and 6, then 7 and 8; a refusal "changes nothing", else the buffer holds the frames, and zero after the last
abbrev pub concluded : List ℕ → Mem → ReadAnswer × List ℕ
concluded b m =
    cond (eqb (memory_answer m).0 0) (after_check b m (checked_of (take (m.count * frame_bytes) m.bytes)))
    (reading.refused (memory_answer m).0 (memory_answer m).1, b)

-- 3, then the rest
abbrev pub after_grammar : List ℕ → MachineAnswer Mem → ReadAnswer × List ℕ
after_grammar b (refused p) = (reading.refused 3 p, b)
after_grammar b (accepted m) = concluded b m

-- 1: "the frame buffer isn't 512 bytes", 2: "the text has 0 or over 1,024 bytes", then the rest: the answer, and the buffer b then
unfoldable pub read_of : List ℕ → List ℕ → ReadAnswer × List ℕ
read_of text b =
    cond (eqb (length b) buffer_bytes)
    (cond (eqb (length text) 0) (reading.refused 2 0, b)
    (cond (ltb text_limit (length text)) (reading.refused 2 0, b)
    (after_grammar b (judged text))))
    (reading.refused 1 0, b)

-- ---- for the code's own contracts
-- what the reader of a whole text answered, and left
abbrev pub reader_answer : Reader → Result Unit Unexpected → MachineAnswer Mem
reader_answer x (Ok u) = accepted (remembered x)
reader_answer x (Err e) = refused e.at
