-- What `read` answers, in the words of the grammar: `read_of`, which its contract cites, and trees. Assumes nothing.
use mathlib.Core.Path.{◌≡◌, refl, ap, sym, subst, ◌∙◌}
use mathlib.Core.Logic.{◌⊎◌, inl, inr}
use mathlib.Core.Bool.{Bool, true, false, cond}
use mathlib.Core.List.{List}
use Prim.Native.Nat.{ℕ, ◌*◌, ◌≤◌}
use lib.Dec.{ltb, eqb}
use lib.ListN.{length, take, replicate}
use borrow.Author.Tests.{ne_eqb}
use Rattle.rule.specs.Token.{tokens}
use Rattle.rule.specs.Grammar.{Rule, yield, words, Wrong-at}
use Rattle.rule.specs.Machine.{MachineAnswer, accepted, refused}
use Rattle.rule.proofs.ReaderRefusals.{Outcome, refused-by, telling, outcome}
use Rattle.rule.specs.Memory.{Mem, fresh, memory_answer, code_at, value_at, decimals_at, acts}
use Rattle.rule.specs.Check.{checked_of}
use Rattle.rule.specs.Reading.{judged, after_check, concluded, after_grammar, read_of}
use Rattle.rule.specs.CheckTold.{CheckAnswer}
use Rattle.rule.specs.CheckTold as checking
use Rattle.rule.specs.ReadTold.{ReadAnswer}
use Rattle.rule.specs.ReadTold as reading
use Rattle.rule.proofs.GrammarWalk.{read_rule}
use Rattle.rule.proofs.GrammarRules.{taken, sound, refused-at}
use Rattle.rule.proofs.ReaderRegisters.{told_right}
use Rattle.rule.proofs.ReaderConclusion.{three}

-- ---- for every text and every buffer
-- frames that were read are frames that opening takes
abbrev Opens : ReadAnswer × List ℕ → Type 0
Opens (reading.frames n, s) = checked_of (take (n * 8) s) ≡ checking.accepted
Opens (reading.refused k p, s) = Unit {0}

opens_check : (b : List ℕ) (m : Mem) (a : CheckAnswer) → checked_of (take (m.count * 8) m.bytes) ≡ a → Opens (after_check b m a)
opens_check b m checking.accepted e = e
opens_check b m (checking.refused k p) e = tt

opens-concluded : (b : List ℕ) (m : Mem) → Opens (concluded b m)
opens-concluded b m = go (eqb (memory_answer m).0 0)
  where
    go : (q : Bool) → Opens (cond q (after_check b m (checked_of (take (m.count * 8) m.bytes))) (reading.refused (memory_answer m).0 (memory_answer m).1, b))
    go true = opens_check b m (checked_of (take (m.count * 8) m.bytes)) refl
    go false = tt

opens-grammar : (b : List ℕ) (a : MachineAnswer Mem) → Opens (after_grammar b a)
opens-grammar b (accepted m) = opens-concluded b m
opens-grammar b (refused p) = tt

opens : (text b : List ℕ) → Opens (read_of text b)
unfolding read_of
opens text b = go (eqb (length b) 512) (eqb (length text) 0) (ltb 1024 (length text))
  where
    go : (x y z : Bool) → Opens (cond x (cond y (reading.refused 2 0, b) (cond z (reading.refused 2 0, b) (after_grammar b (judged text)))) (reading.refused 1 0, b))
    go false y z = tt
    go true true z = tt
    go true false true = tt
    go true false false = opens-grammar b (judged text)

pub read-opens : (text b : List ℕ) (n : ℕ) (s : List ℕ) → read_of text b ≡ (reading.frames n, s) → checked_of (take (n * 8) s) ≡ checking.accepted
read-opens text b n s e = subst Opens e (opens text b)

-- a refusal leaves the buffer as it was
abbrev Keeps : List ℕ → ReadAnswer × List ℕ → Type 0
Keeps b (reading.frames n, s) = Unit {0}
Keeps b (reading.refused k p, s) = s ≡ b

keeps_check : (b : List ℕ) (m : Mem) (a : CheckAnswer) → Keeps b (after_check b m a)
keeps_check b m checking.accepted = tt
keeps_check b m (checking.refused k p) = refl

keeps-concluded : (b : List ℕ) (m : Mem) → Keeps b (concluded b m)
keeps-concluded b m = go (eqb (memory_answer m).0 0)
  where
    go : (q : Bool) → Keeps b (cond q (after_check b m (checked_of (take (m.count * 8) m.bytes))) (reading.refused (memory_answer m).0 (memory_answer m).1, b))
    go true = keeps_check b m (checked_of (take (m.count * 8) m.bytes))
    go false = refl

keeps-grammar : (b : List ℕ) (a : MachineAnswer Mem) → Keeps b (after_grammar b a)
keeps-grammar b (accepted m) = keeps-concluded b m
keeps-grammar b (refused p) = refl

keeps : (text b : List ℕ) → Keeps b (read_of text b)
unfolding read_of
keeps text b = go (eqb (length b) 512) (eqb (length text) 0) (ltb 1024 (length text))
  where
    go : (x y z : Bool) → Keeps b (cond x (cond y (reading.refused 2 0, b) (cond z (reading.refused 2 0, b) (after_grammar b (judged text)))) (reading.refused 1 0, b))
    go false y z = refl
    go true true z = refl
    go true false true = refl
    go true false false = keeps-grammar b (judged text)

pub refused_unchanged : (text b : List ℕ) (k p : ℕ) (s : List ℕ) → read_of text b ≡ (reading.refused k p, s) → s ≡ b
refused_unchanged text b k p s e = subst (λ (x : ReadAnswer × List ℕ). Keeps b x) e (keeps text b)

-- ---- a text of 1 to 1,024 bytes and a buffer of 512
module _ (text b : List ℕ) (fit : length b ≡ 512) (some : length text ≡ 0 → ⊥) (short : length text ≤ 1024) where
  -- outside the grammar: 3, at its place
  pub outside : (p : ℕ) → Wrong-at (length text) (tokens text) p → read_of text b ≡ (reading.refused 3 p, b)
  unfolding judged
  outside p w = three text b (refused p) fit some short ((refused-at Mem (acts text) (length text) (fresh (replicate 512 0)) (tokens text) p).1 w)

  -- in the grammar: what the tree's registers say
  pub in_grammar : (x : Rule) → yield x ≡ words (tokens text) → read_of text b ≡ concluded b (read_rule Mem (acts text) x (fresh (replicate 512 0)))
  unfolding judged
  in_grammar x e = three text b (accepted (read_rule Mem (acts text) x (fresh (replicate 512 0)))) fit some short (taken Mem (acts text) (length text) (fresh (replicate 512 0)) x (tokens text) e)

  told_tree : (x : Rule) → memory_answer (read_rule Mem (acts text) x (fresh (replicate 512 0))) ≡ telling (outcome (code_at text) (value_at text) (decimals_at text) x)
  unfolding acts
  told_tree x = told_right (code_at text) (value_at text) (decimals_at text) (replicate 512 0) x

  concluded-refused : (m : Mem) (k p : ℕ) → memory_answer m ≡ (k, p) → (k ≡ 0 → ⊥) → concluded b m ≡ (reading.refused k p, b)
  concluded-refused m k p e ne = subst (λ (q : ℕ × ℕ). cond (eqb q.0 0) (after_check b m (checked_of (take (m.count * 8) m.bytes))) (reading.refused q.0 q.1, b) ≡ (reading.refused k p, b)) (sym e) (rw (ne_eqb k 0 ne))

  -- refusals 4, 5, 18 and 6 of a tree, with their places
  pub as_judged : (x : Rule) → yield x ≡ words (tokens text) → (k p : ℕ) → outcome (code_at text) (value_at text) (decimals_at text) x ≡ refused-by k p → (k ≡ 0 → ⊥) → read_of text b ≡ (reading.refused k p, b)
  as_judged x e k p v ne = in_grammar x e ∙ concluded-refused (read_rule Mem (acts text) x (fresh (replicate 512 0))) k p (told_tree x ∙ ap (λ (q : Outcome). telling q) v) ne

  -- there is no third case
  pub either : ((x : Rule) × (yield x ≡ words (tokens text))) ⊎ ((p : ℕ) × Wrong-at (length text) (tokens text) p)
  unfolding judged
  either = go (judged text) refl
    where
      go : (a : MachineAnswer Mem) → judged text ≡ a → ((x : Rule) × (yield x ≡ words (tokens text))) ⊎ ((p : ℕ) × Wrong-at (length text) (tokens text) p)
      go (accepted m) e = let (x, f, r) = sound Mem (acts text) (length text) (fresh (replicate 512 0)) (tokens text) m e in inl (x, f)
      go (refused p) e = inr (p, (refused-at Mem (acts text) (length text) (fresh (replicate 512 0)) (tokens text) p).0 e)
