-- The machine of the reader accepts exactly what the trees of the grammar spell, and refuses at the right place. Assumes nothing.
use mathlib.Core.Path.{◌≡◌, sym, ◌∙◌, subst}
use mathlib.Core.Logic.{◌↔◌}
use mathlib.Core.List.{List, [], ◌∷◌, ◌++◌}
use Prim.Native.Nat.{ℕ}
use Rattle.rule.specs.declared.Token.{Token}
use Rattle.rule.specs.Grammar.{Word, Rule, yield, words, Begins-rule, Wrong-at}
use Rattle.rule.specs.Machine.{Act, start, MachineAnswer, accepted, refused, run}
use Rattle.rule.proofs.GrammarWalk.{read_rule}
use Rattle.rule.specs.Grammar
use Rattle.rule.proofs.GrammarDerivations.{Derives, good_start}
use Rattle.rule.proofs.GrammarMachine.{accepts, right, refuses, Begins, Says, Wrong}
use Rattle.rule.proofs.GrammarMachine
use Rattle.rule.proofs.GrammarTrees.{derives_rule, ruled}

module _ (M : Type 0) (act : Act → M → M) (n : ℕ) (m : M) where
  -- 1. Complete: tokens that a tree spells are accepted, and the memory is what the reading of that tree makes it.
  pub taken : (x : Rule) (ts : List Token) → yield x ≡ words ts → run M act n start m ts ≡ accepted (read_rule M act x m)
  taken x ts e = accepts M act n ts (subst (λ (ws : List Word). Derives M act start m ws (read_rule M act x m)) e (derives_rule M act x)) (good_start M act)

  one_memory : {a b : M} → ◌≡◌ {A = MachineAnswer M} (accepted a) (accepted b) → a ≡ b
  one_memory e = cc

  abbrev Says-rule : List Token → MachineAnswer M → Type 0
  Says-rule ts (accepted m') = (x : Rule) × (yield x ≡ words ts) × (m' ≡ read_rule M act x m)
  Says-rule ts (refused p) = Wrong-at n ts p

  begins : (ts : List Token) → Begins M act start m ts → Begins-rule ts
  begins ts (ws, m', g) = let (x, e) = ruled M act g in (x, ws, e)

  begins-back : (ts : List Token) → Begins-rule ts → Begins M act start m ts
  begins-back ts (x, ws, e) = (ws, read_rule M act x m, subst (λ (v : List Word). Derives M act start m v (read_rule M act x m)) e (derives_rule M act x))

  wrong : {ts : List Token} {p : ℕ} → Wrong M act n start m ts p → Wrong-at n ts p
  wrong (GrammarMachine.at_token us t vs y z) = Grammar.at_token us t vs (begins us y) (λ b. z (begins-back (us ++ t ∷ []) b))
  wrong (GrammarMachine.at_end ts y z) = Grammar.at_end ts (begins ts y) (λ (x, e). z (read_rule M act x m, subst (λ (v : List Word). Derives M act start m v (read_rule M act x m)) e (derives_rule M act x)))

  wrong-back : {ts : List Token} {p : ℕ} → Wrong-at n ts p → Wrong M act n start m ts p
  wrong-back (Grammar.at_token us t vs y z) = GrammarMachine.at_token us t vs (begins-back us y) (λ b. z (begins (us ++ t ∷ []) b))
  wrong-back (Grammar.at_end ts y z) = GrammarMachine.at_end ts (begins-back ts y) (λ (m', g). z (ruled M act g))

  as_rule : (ts : List Token) (a : MachineAnswer M) → Says M act n start m ts a → Says-rule ts a
  as_rule ts (accepted m') g = let (x, e) = ruled M act g in (x, e, one_memory (sym (accepts M act n ts g (good_start M act)) ∙ taken x ts e))
  as_rule ts (refused p) w = wrong w

  says : (ts : List Token) (a : MachineAnswer M) → run M act n start m ts ≡ a → Says-rule ts a
  says ts a e = subst (λ (x : MachineAnswer M). Says-rule ts x) e (as_rule ts (run M act n start m ts) (right M act n ts start m (good_start M act)))

  -- 2. Sound: tokens that are accepted are spelled by a tree, and the memory is what the reading of that tree makes it.
  pub sound : (ts : List Token) (m' : M) → run M act n start m ts ≡ accepted m' → (x : Rule) × (yield x ≡ words ts) × (m' ≡ read_rule M act x m)
  sound ts m' e = says ts (accepted m') e

  -- Unambiguous: two trees that spell the same tokens are read alike.
  pub alike : (x y : Rule) (ts : List Token) → yield x ≡ words ts → yield y ≡ words ts → read_rule M act x m ≡ read_rule M act y m
  alike x y ts e f = one_memory (sym (taken x ts e) ∙ taken y ts f)

  -- 3. The place: refused at p exactly if p is the place of the first token that with those before it begins no rule, or n if the tokens begin one and are none.
  pub refused-at : (ts : List Token) (p : ℕ) → (run M act n start m ts ≡ refused p) ↔ Wrong-at n ts p
  refused-at ts p = ((λ e. says ts (refused p) e), (λ w. refuses M act n start m (good_start M act) (wrong-back w)))

  -- so there is one such place
  pub one_place : (ts : List Token) (p q : ℕ) → Wrong-at n ts p → Wrong-at n ts q → p ≡ q
  one_place ts p q v w = inj (sym ((refused-at ts p).1 v) ∙ (refused-at ts q).1 w)
    where
      inj : {a b : ℕ} → ◌≡◌ {A = MachineAnswer M} (refused a) (refused b) → a ≡ b
      inj e = cc
