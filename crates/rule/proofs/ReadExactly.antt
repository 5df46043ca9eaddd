-- `read` accepts exactly the texts that it should, and its frames hold the rule that the text means. Assumes nothing.
use mathlib.Core.Path.{◌≡◌, ap, ap₂, sym, subst, ◌∙◌}
use mathlib.Core.Logic.{◌↔◌}
use mathlib.Core.List.{List, ◌++◌}
use Prim.Native.Nat.{ℕ, ◌-◌, ◌*◌}
use native.Mathlib.Omega.{arith}
use lib.ListN.{length, take, replicate}
use Rattle.rule.specs.Limits.{frame_bytes, buffer_bytes}
use Rattle.rule.specs.Frames.{Bytes}
use Rattle.rule.specs.Token.{tokens}
use Rattle.rule.specs.Grammar.{Rule, yield, words}
use Rattle.rule.specs.Tree.{postfix, bytes_of}
use Rattle.rule.specs.Build.{tree_of}
use Rattle.rule.specs.Measure.{frames}
use Rattle.rule.specs.Meaning.{meaning}
use Rattle.rule.specs.Reading.{read_of}
use Rattle.rule.proofs.ReaderFrames.{tree_bytes}
use Rattle.rule.specs.Answers.{ReadAs, Answered, refused_1, refused_2, refused_3, refused_4, refused_5, refused_18, refused_6, refused_7, refused_8, accepted}
use Rattle.rule.specs.ReadTold.{ReadAnswer}
use Rattle.rule.specs.ReadTold as reading
use Rattle.rule.proofs.FrameHeads.{rule-bytes, tree-of}
use Rattle.rule.proofs.FrameTrees.{meaning-count, meaning-limits, tree-bytes, tree-taken}
use Rattle.rule.proofs.ReadFrames.{tree-read}
use Rattle.rule.proofs.ReadAnswers.{answered}
use Rattle.rule.proofs.SpellTrees.{tree-unique}

-- frames are no refusal
no_frames : {k p n : ℕ} {b s : List ℕ} → ◌≡◌ {A = ReadAnswer × List ℕ} (reading.refused k p, b) (reading.frames n, s) → ⊥
no_frames {k} {p} {n} e =
    let f : reading.refused k p ≡ reading.frames n = ap (λ (z : ReadAnswer × List ℕ). z.0) e in
    let z : ◌≡◌ {A = ℕ} 0 1 = cc in
    omega arith

module _ (text b : List ℕ) (n : ℕ) (s : List ℕ) where
  from-answer : (a : ReadAnswer × List ℕ) → Answered text b a → a ≡ (reading.frames n, s) → (length b ≡ 512) × ReadAs text n s
  from-answer a (refused_1 h) e = absurd (no_frames e)
  from-answer a (refused_2 h z) e = absurd (no_frames e)
  from-answer a (refused_3 h z w) e = absurd (no_frames e)
  from-answer a (refused_4 h z f) e = absurd (no_frames e)
  from-answer a (refused_5 h z f g) e = absurd (no_frames e)
  from-answer a (refused_18 h z f g i) e = absurd (no_frames e)
  from-answer a (refused_6 h z f g i o) e = absurd (no_frames e)
  from-answer a (refused_7 h w r) e = absurd (no_frames e)
  from-answer a (refused_8 h w r o) e = absurd (no_frames e)
  from-answer a (accepted {n = m} {s = t} h r) e =
      let f : ◌≡◌ {A = ReadAnswer} (reading.frames m) (reading.frames n) = ap (λ (z : ReadAnswer × List ℕ). z.0) e in
      let i : m ≡ n = cc in
      let j : t ≡ s = ap (λ (z : ReadAnswer × List ℕ). z.1) e in
      (h, subst (λ (k : ℕ). ReadAs text k s) i (subst (λ (l : List ℕ). ReadAs text m l) j r))

  pub reads_exactly : (read_of text b ≡ (reading.frames n, s)) ↔ ((length b ≡ buffer_bytes) × ReadAs text n s)
  reads_exactly = (from-answer (read_of text b) (answered text b), λ (h, r). tree-read text b h n s r)

  -- the frames alone
  taken : (r : ReadAs text n s) → take (n * 8) s ≡ bytes_of (postfix (meaning text r.tree))
  taken r =
      let t = r.tree in
      let w = r.within in
      let c : n ≡ length (frames t) = r.count ∙ meaning-count text t in
      let z : s ≡ tree_bytes text t = r.bytes ∙ (ap (λ (k : ℕ). bytes_of (postfix (meaning text t)) ++ replicate (512 - k * 8) 0) c ∙ sym (tree-bytes text t w)) in
      ap₂ (λ (k : ℕ) (l : List ℕ). take (k * 8) l) c z ∙ tree-taken text t w

  built : (r : ReadAs text n s) → tree_of (take (n * 8) s) ≡ meaning text r.tree
  built r = tree-of (record { tree = meaning text r.tree; limits = meaning-limits text r.tree r.within; bytes = taken r })

  -- the frames that were read build the tree that the text means, whichever tree spells it
  pub read-tree : read_of text b ≡ (reading.frames n, s) → (x : Rule) → yield x ≡ words (tokens text) → tree_of (take (n * frame_bytes) s) ≡ meaning text x
  read-tree e x y =
      let r = (from-answer (read_of text b) (answered text b) e).1 in
      built r ∙ ap (λ (z : Rule). meaning text z) (tree-unique r.tree x (tokens text) r.within.spelled.spells y)

  -- the frames that were read are bytes
  pub read-bytes : read_of text b ≡ (reading.frames n, s) → Bytes (take (n * frame_bytes) s)
  read-bytes e =
      let r = (from-answer (read_of text b) (answered text b) e).1 in
      subst Bytes (sym (taken r)) (rule-bytes (meaning text r.tree) (meaning-limits text r.tree r.within))
