-- What `read` answers to a tree that 4, 5, 18 and 6 leave: what the check of its frames says of them. Assumes nothing.
use mathlib.Core.Path.{◌≡◌, refl, ap, sym, subst, ◌∙◌}
use mathlib.Core.Bool.{Bool, true, false, cond}
use mathlib.Core.List.{List, ◌++◌}
use Prim.Native.Nat.{ℕ, ◌*◌, ◌-◌}
use native.Mathlib.Omega.{arith}
use lib.Dec.{ltb, eqb}
use lib.ListN.{length, take, replicate}
use borrow.Author.Tests.{le-ltb}
use Rattle.rule.specs.Grammar.{Rule}
use Rattle.rule.specs.Tree.{postfix, bytes_of}
use Rattle.rule.specs.Measure.{frames, depth}
use Rattle.rule.proofs.ReaderRefusals.{Outcome, read_as, telling, outcome}
use Rattle.rule.specs.Memory.{Mem, fresh, memory_answer, code_at, value_at, decimals_at, acts}
use Rattle.rule.specs.Check.{checked_of}
use Rattle.rule.specs.Reading.{after_check, concluded, read_of}
use Rattle.rule.proofs.ReaderFrames.{tree_bytes}
use Rattle.rule.specs.Meaning.{meaning}
use Rattle.rule.specs.Answers.{Within, ReadAs}
use Rattle.rule.specs.CheckTold.{CheckAnswer}
use Rattle.rule.specs.CheckTold as checking
use Rattle.rule.specs.ReadTold.{ReadAnswer}
use Rattle.rule.specs.ReadTold as reading
use Rattle.rule.proofs.GrammarWalk.{read_rule}
use Rattle.rule.proofs.ReaderRegisters.{told_right}
use Rattle.rule.proofs.ReaderBuffer.{bytes_read}
use Rattle.rule.proofs.ReadText.{in_grammar}
use Rattle.rule.proofs.FrameTrees.{meaning-count, few_frames, coded-names, coded-numbers, coded-decimals, tree-bytes}
use Rattle.rule.proofs.ReadChecks.{check_accepted}

-- the registers that refuse nothing tell the number of frames
memory_answer-count : (m : Mem) → (memory_answer m).0 ≡ 0 → (memory_answer m).1 ≡ m.count
memory_answer-count m = go (eqb m.name 0) (eqb m.number 0) (eqb m.decimals 0) m.deep (ltb 64 m.count)
  where
    tell : Bool → Bool → Bool → Bool → Bool → ℕ × ℕ
    tell a b e c d = cond a (cond b (cond e (cond c (6, 0) (cond d (6, 0) (0, m.count))) (18, m.decimals - 1)) (5, m.number - 1)) (4, m.name - 1)

    go : (a b e c d : Bool) → (tell a b e c d).0 ≡ 0 → (tell a b e c d).1 ≡ m.count
    go false b e c d f = absurd (omega arith)
    go true false e c d f = absurd (omega arith)
    go true true false c d f = absurd (omega arith)
    go true true true true d f = absurd (omega arith)
    go true true true false true f = absurd (omega arith)
    go true true true false false f = refl

concluded-frames : (b : List ℕ) (m : Mem) (n : ℕ) (s : List ℕ) → memory_answer m ≡ (0, n) → m.bytes ≡ s → (concluded b m ≡ after_check b m (checked_of (take (n * 8) s))) × (m.count ≡ n)
concluded-frames b m n s e f =
    let z : (memory_answer m).0 ≡ 0 = ap (λ (q : ℕ × ℕ). q.0) e in
    let c : m.count ≡ n = sym (memory_answer-count m z) ∙ ap (λ (q : ℕ × ℕ). q.1) e in
    (subst (λ (q : ℕ × ℕ). cond (eqb q.0 0) (after_check b m (checked_of (take (m.count * 8) m.bytes))) (reading.refused q.0 q.1, b) ≡ after_check b m (checked_of (take (n * 8) s))) (sym e) (rw (c, f)), c)

pairs : {u v : ReadAnswer} {l m : List ℕ} → u ≡ v → l ≡ m → ◌≡◌ {A = ReadAnswer × List ℕ} (u, l) (v, m)
pairs e f = rw (e, f)

module _ (text b : List ℕ) (fit : length b ≡ 512) where
  module _ (x : Rule) (w : Within text x) where
    -- the registers after the tree
    abbrev after : Mem
    after = read_rule Mem (acts text) x (fresh (replicate 512 0))

    judged_well : outcome (code_at text) (value_at text) (decimals_at text) x ≡ read_as (frames x)
    judged_well = rw (coded-names text x w, coded-numbers text x w, coded-decimals text x w, le-ltb 16 (depth x) w.shallow, le-ltb 64 (length (frames x)) (few_frames text x w))

    told_tree : memory_answer after ≡ (0, length (frames x))
    unfolding acts
    told_tree = told_right (code_at text) (value_at text) (decimals_at text) (replicate 512 0) x ∙ ap (λ (q : Outcome). telling q) judged_well

    bytes-tree : after.bytes ≡ tree_bytes text x
    unfolding acts
    bytes-tree = bytes_read (code_at text) (value_at text) (decimals_at text) (replicate 512 0) x (coded-names text x w)

    its-answer : (a : CheckAnswer) → checked_of (take (length (frames x) * 8) (tree_bytes text x)) ≡ a → read_of text b ≡ after_check b after a
    its-answer a q =
        in_grammar text b fit w.spelled.sized.some_bytes w.spelled.sized.few_bytes x w.spelled.spells
        ∙ ((concluded-frames b after (length (frames x)) (tree_bytes text x) told_tree bytes-tree).0 ∙ ap (λ (c : CheckAnswer). after_check b after c) q)

    -- 7 or 8 of its frames
    pub tree-refused : (k p : ℕ) → checked_of (take (length (frames x) * 8) (tree_bytes text x)) ≡ checking.refused k p → read_of text b ≡ (reading.refused k p, b)
    tree-refused k p = its-answer (checking.refused k p)

    tree-accepted : checked_of (take (length (frames x) * 8) (tree_bytes text x)) ≡ checking.accepted → read_of text b ≡ (reading.frames (length (frames x)), tree_bytes text x)
    tree-accepted q =
        its-answer checking.accepted q
        ∙ pairs (ap (λ (k : ℕ). reading.frames k) (concluded-frames b after (length (frames x)) (tree_bytes text x) told_tree bytes-tree).1) bytes-tree

  -- or accepted
  pub tree-read : (n : ℕ) (s : List ℕ) → ReadAs text n s → read_of text b ≡ (reading.frames n, s)
  tree-read n s r =
      let c : length (frames r.tree) ≡ n = sym (r.count ∙ meaning-count text r.tree) in
      tree-accepted r.tree r.within ((check_accepted text r.tree r.within).1 (r.named, r.exact))
      ∙ pairs (ap (λ (k : ℕ). reading.frames k) c)
      (tree-bytes text r.tree r.within ∙ (ap (λ (k : ℕ). bytes_of (postfix (meaning text r.tree)) ++ replicate (512 - k * 8) 0) c ∙ sym r.bytes))
