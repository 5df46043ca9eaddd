-- Frames put one after the other, and the bytes that a tree's frames come to. Assumes nothing: definitions.
use Prim.Native.Nat.{ℕ, ◌+◌}
use mathlib.Core.List.{List, [], ◌∷◌}
use lib.ListN.{replicate}
use Rattle.rule.specs.Limits.{buffer_bytes}
use Rattle.rule.specs.Grammar.{Rule}
use Rattle.rule.specs.Measure.{frames, names}
use Rattle.rule.specs.Memory.{put, fields, code_at, value_at, decimals_at}
use Rattle.rule.specs.declared.parts.Role.TheVariants.{Event, Note}
use Rattle.rule.specs.declared.memory.RawFrame.{RawFrame}
use Rattle.rule.proofs.ReaderRefusals.{codes}

-- frames put one after the other, from place k on
abbrev pub fill : ℕ → List RawFrame → List ℕ → List ℕ
fill k [] b = b
fill k (f ∷ fs) b = fill (k + 1) fs (put b k f)

-- a function over each member
abbrev pub each : {A B : Type 0} → (A → B) → List A → List B
each g [] = []
each g (x ∷ xs) = g x ∷ each g xs

-- the bytes of a tree's frames, with its names looked up among those that it declares, and zero after the last
abbrev pub tree_bytes : List ℕ → Rule → List ℕ
tree_bytes text x =
    fill 0 (each (fields (code_at text) (value_at text) (decimals_at text) (codes (code_at text) (value_at text) (decimals_at text) Event (names x)) (codes (code_at text) (value_at text) (decimals_at text) Note (names x))) (frames x)) (replicate buffer_bytes 0)
