-- From tokens to refusals 3 to 6 and 18: the machine with the reader's memory, and the grammar. Assumes nothing.
use mathlib.Core.Path.{◌≡◌, refl, ap, ◌∙◌}
use mathlib.Core.Logic.{◌⊎◌, inl, inr}
use mathlib.Core.List.{List}
use Prim.Native.Nat.{ℕ}
use Rattle.rule.specs.declared.Token.{Token}
use Rattle.rule.specs.declared.parts.Place.{Place}
use Rattle.rule.specs.Grammar.{Rule, yield, words, Wrong-at}
use Rattle.rule.specs.Machine.{start, MachineAnswer, accepted, refused, run}
use Rattle.rule.proofs.ReaderRefusals.{telling, outcome}
use Rattle.rule.specs.Memory.{Mem, fresh, remember, memory_answer}
use Rattle.rule.proofs.GrammarRules.{taken, sound, refused-at}
use Rattle.rule.proofs.ReaderRegisters.{told_right}

-- the answer as two numbers: refusals 3 to 6 and 18 with their places, or 0 and the number of frames
abbrev pub answered : MachineAnswer Mem → ℕ × ℕ
answered (refused p) = (3, p)
answered (accepted m) = memory_answer m

module _ (code value decimals : Place → ℕ) (n : ℕ) (b₀ : List ℕ) (ts : List Token) where
  abbrev pub judged : MachineAnswer Mem
  judged = run Mem (remember code value decimals) n start (fresh b₀) ts

  -- tokens in the grammar are answered as their tree is judged
  pub in_grammar : (x : Rule) → yield x ≡ words ts → answered judged ≡ telling (outcome code value decimals x)
  in_grammar x e = ap (λ a. answered a) (taken Mem (remember code value decimals) n (fresh b₀) x ts e) ∙ told_right code value decimals b₀ x

  -- tokens outside it are refused with 3, at their place
  pub outside : (p : ℕ) → Wrong-at n ts p → answered judged ≡ (3, p)
  outside p w = ap (λ a. answered a) ((refused-at Mem (remember code value decimals) n (fresh b₀) ts p).1 w)

  -- there is no third case
  pub either : ((x : Rule) × (yield x ≡ words ts)) ⊎ ((p : ℕ) × Wrong-at n ts p)
  either = go judged refl
    where
      go : (a : MachineAnswer Mem) → judged ≡ a → ((x : Rule) × (yield x ≡ words ts)) ⊎ ((p : ℕ) × Wrong-at n ts p)
      go (accepted m) e = let (x, f, r) = sound Mem (remember code value decimals) n (fresh b₀) ts m e in inl (x, f)
      go (refused p) e = inr (p, (refused-at Mem (remember code value decimals) n (fresh b₀) ts p).0 e)
