-- What the check of frames answers to the frames of a tree that 4, 5, 18 and 6 leave: 7, 8 or accepted, never 9 or 10, by what the
-- tree means. Assumes nothing.
use mathlib.Core.Path.{◌≡◌, refl, ap}
use mathlib.Core.Logic.{◌↔◌}
use mathlib.Core.List.{List, []}
use Prim.Native.Nat.{ℕ, ◌*◌}
use native.Mathlib.Omega.{arith}
use lib.ListN.{length, take}
use Rattle.rule.specs.Limits.{frame_bytes}
use Rattle.rule.specs.Frames.{Bytes}
use Rattle.rule.specs.Grammar.{Rule}
use Rattle.rule.specs.Tree.{RuleTree, IsRule, references, magnitudes, NoneExceeds}
use Rattle.rule.specs.Measure.{frames}
use Rattle.rule.specs.Check.{checked_of}
use Rattle.rule.proofs.CheckNumbers.{number_of}
use Rattle.rule.specs.Opening.{Whole, Opening, refused_9, refused_10, refused_7, refused_8, accepted}
use Rattle.rule.proofs.ReaderFrames.{tree_bytes}
use Rattle.rule.specs.Answers.{Within}
use Rattle.rule.specs.CheckTold.{CheckAnswer}
use Rattle.rule.specs.CheckTold as checking
use Rattle.rule.proofs.FrameHeads.{rule-bytes, one-tree}
use Rattle.rule.proofs.FrameBytePlaces.{no_place}
use Rattle.rule.proofs.CheckAnswers.{opening_iff}
use Rattle.rule.proofs.CheckExactly.{whole_of}
use Rattle.rule.specs.Meaning.{meaning}
use Rattle.rule.proofs.FrameTrees.{meaning-limits, tree-taken, tree-rule}

-- the answer for frames of a rule t
pub data Checks (t : RuleTree) : CheckAnswer → Type 0 where
  no_reference : references t ≡ [] → Checks t (checking.refused 7 0)
  too_great : (references t ≡ [] → ⊥) → (NoneExceeds (magnitudes t) → ⊥) → Checks t (checking.refused 8 0)
  proper : (references t ≡ [] → ⊥) → NoneExceeds (magnitudes t) → Checks t checking.accepted

checks-rule : {s : List ℕ} {o : CheckAnswer} (r : IsRule s) → Whole (length s) → Opening s o → Checks r.tree o
checks-rule r w (refused_9 v) = absurd (v w)
checks-rule r w (refused_10 v a) = absurd (no_place r a)
checks-rule r w (refused_7 v q h) = no_reference (rw (one-tree r q) h)
checks-rule r w (refused_8 v q h a) = too_great (rw (one-tree r q) h) (rw (one-tree r q) a)
checks-rule r w (accepted v q h a) = proper (rw (one-tree r q) h) (rw (one-tree r q) a)

to_7 : {t : RuleTree} {o : CheckAnswer} → number_of o ≡ 7 → Checks t o → references t ≡ []
to_7 e (no_reference h) = h
to_7 e (too_great h a) = absurd (let z : 8 ≡ 7 = e in omega arith)
to_7 e (proper h a) = absurd (let z : 0 ≡ 7 = e in omega arith)

to_8 : {t : RuleTree} {o : CheckAnswer} → number_of o ≡ 8 → Checks t o → (references t ≡ [] → ⊥) × (NoneExceeds (magnitudes t) → ⊥)
to_8 e (no_reference h) = absurd (let z : 7 ≡ 8 = e in omega arith)
to_8 e (too_great h a) = (h, a)
to_8 e (proper h a) = absurd (let z : 0 ≡ 8 = e in omega arith)

to_0 : {t : RuleTree} {o : CheckAnswer} → number_of o ≡ 0 → Checks t o → (references t ≡ [] → ⊥) × NoneExceeds (magnitudes t)
to_0 e (no_reference h) = absurd (let z : 7 ≡ 0 = e in omega arith)
to_0 e (too_great h a) = absurd (let z : 8 ≡ 0 = e in omega arith)
to_0 e (proper h a) = (h, a)

module _ (text : List ℕ) (x : Rule) (w : Within text x) where
  abbrev its-frames : List ℕ
  its-frames = take (length (frames x) * frame_bytes) (tree_bytes text x)

  bytes : Bytes its-frames
  bytes = rw (tree-taken text x w) (rule-bytes (meaning text x) (meaning-limits text x w))

  whole : Whole (length its-frames)
  whole = whole_of (tree-rule text x w) w.few_frames

  pub checks : Checks (meaning text x) (checked_of its-frames)
  checks = checks-rule (tree-rule text x w) whole ((opening_iff bytes (checked_of its-frames)).0 refl)

  -- 7: "no reference"
  pub check_7 : (checked_of its-frames ≡ checking.refused 7 0) ↔ (references (meaning text x) ≡ [])
  check_7 = (λ e. to_7 (ap number_of e) checks, λ h. (opening_iff bytes (checking.refused 7 0)).1 (refused_7 whole (tree-rule text x w) h))

  -- 8: "a magnitude over 2^62"
  pub check_8 : (checked_of its-frames ≡ checking.refused 8 0) ↔ ((references (meaning text x) ≡ [] → ⊥) × (NoneExceeds (magnitudes (meaning text x)) → ⊥))
  check_8 = (λ e. to_8 (ap number_of e) checks, λ (h, a). (opening_iff bytes (checking.refused 8 0)).1 (refused_8 whole (tree-rule text x w) h a))

  -- else accepted
  pub check_accepted : (checked_of its-frames ≡ checking.accepted) ↔ ((references (meaning text x) ≡ [] → ⊥) × NoneExceeds (magnitudes (meaning text x)))
  check_accepted = (λ e. to_0 (ap number_of e) checks, λ (h, a). (opening_iff bytes checking.accepted).1 (accepted whole (tree-rule text x w) h a))
