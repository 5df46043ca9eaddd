-- Refusals 3 to 8 and 18 of `read`, each both ways, with the places of 3, 4, 5 and 18; and every answer both ways. Assumes nothing.
use mathlib.Core.Path.{◌≡◌, refl, ap, subst, ◌∙◌}
use mathlib.Core.Logic.{◌↔◌, inl, inr}
use mathlib.Core.Bool.{Bool, true, false, cond}
use mathlib.Core.List.{List, []}
use Prim.Native.Nat.{ℕ, zero, suc, ◌<◌}
use native.Mathlib.Omega.{arith}
use lib.Dec.{ltb, eqb}
use lib.ListN.{length}
use borrow.Author.Tests.{eqb-true, eqb-false, lt-ltb, ltb-true, ltb-false}
use Rattle.rule.specs.Token.{tokens}
use Rattle.rule.specs.Grammar.{Rule, Wrong-at}
use Rattle.rule.specs.Tree.{references, magnitudes, NoneExceeds}
use Rattle.rule.specs.Measure.{frames, depth}
use Rattle.rule.proofs.ReaderRefusals.{Outcome, refused-by, outcome}
use Rattle.rule.specs.Memory.{code_at, value_at, decimals_at}
use Rattle.rule.specs.Meaning.{meaning}
use Rattle.rule.specs.Reading.{read_of}
use Rattle.rule.specs.Limits.{buffer_bytes}
use Rattle.rule.specs.Answers.{Spelled, BadName, NamesGood, BadNumber, NumbersGood, BadDecimals, DecimalsGood, Oversized, Within, Answered, refused_1, refused_2, refused_3, refused_4, refused_5, refused_18, refused_6, refused_7, refused_8, accepted}
use Rattle.rule.specs.Answers as answers
use Rattle.rule.specs.ReadTold.{ReadAnswer}
use Rattle.rule.specs.ReadTold as reading
use Rattle.rule.proofs.ReaderConclusion.{one, two_none, two-many}
use Rattle.rule.proofs.ReadText.{outside, as_judged}
use Rattle.rule.proofs.FrameTrees.{meaning-count}
use Rattle.rule.proofs.ReadChecks.{check_7, check_8}
use Rattle.rule.proofs.ReadFrames.{tree-refused, tree-read}
use Rattle.rule.proofs.ReadAnswers.{answered}
use Rattle.rule.proofs.SpellSame.{first-name-same, first-number-same, first-decimals-same}
use Rattle.rule.proofs.SpellTrees.{tree-unique}

-- ---- what is said of the tree of a text is so of every tree that spells it, as there is one only
module _ (text : List ℕ) (P : Rule → Type 0) where
  of-all : (x : Rule) → Spelled text x → P x → (y : Rule) → Spelled text y → P y
  of-all x s p y t = subst P (tree-unique x y (tokens text) s.spells t.spells) p

-- the answer alone, without the buffer
abbrev answer-of : ReadAnswer × List ℕ → ReadAnswer
answer-of a = a.0

-- what is said of the number n alone
abbrev Only : ℕ → ℕ → Type 0 → Type 0
Only zero zero A = A
Only zero (suc k) A = Unit {0}
Only (suc n) zero A = Unit {0}
Only (suc n) (suc k) A = Only n k A

-- ---- what an answer says of the text
module _ (text b : List ℕ) where
  -- 7 and 8 of a tree
  abbrev Unnamed : Rule → Type 0
  Unnamed x = Within text x × (references (meaning text x) ≡ [])

  abbrev Exceeding : Rule → Type 0
  Exceeding x = Within text x × (references (meaning text x) ≡ [] → ⊥) × (NoneExceeds (magnitudes (meaning text x)) → ⊥)

  -- 18, that comes after 5
  abbrev Decimals : ℕ → Rule → Type 0
  Decimals p x = NamesGood text x × NumbersGood text x × BadDecimals text x p

  -- by its number and its place
  abbrev Said : ℕ → ℕ → Type 0
  Said zero p = Unit {0}
  Said (suc zero) p = Unit {0}
  Said (suc (suc zero)) p = Unit {0}
  Said (suc (suc (suc zero))) p = Wrong-at (length text) (tokens text) p
  Said (suc (suc (suc (suc zero)))) p = (x : Rule) → Spelled text x → BadName text x p
  Said (suc (suc (suc (suc (suc zero))))) p = (x : Rule) → Spelled text x → NamesGood text x × BadNumber text x p
  Said (suc (suc (suc (suc (suc (suc zero)))))) p = (x : Rule) → Spelled text x → NamesGood text x × NumbersGood text x × DecimalsGood text x × Oversized text x
  Said (suc (suc (suc (suc (suc (suc (suc zero))))))) p = (x : Rule) → Spelled text x → Unnamed x
  Said (suc (suc (suc (suc (suc (suc (suc (suc zero)))))))) p = (x : Rule) → Spelled text x → Exceeding x
  Said (suc (suc (suc (suc (suc (suc (suc (suc (suc k))))))))) p = Only 9 k ((x : Rule) → Spelled text x → Decimals p x)

  abbrev SaidBy : ReadAnswer → Type 0
  SaidBy (reading.frames n) = Unit {0}
  SaidBy (reading.refused k p) = Said k p

  says : {a : ReadAnswer × List ℕ} → Answered text b a → SaidBy a.0
  says (refused_1 h) = tt
  says (refused_2 h s) = tt
  says (refused_3 h s w) = w
  says (refused_4 {x} {p} h s f) = of-all text (λ y. BadName text y p) x s f
  says (refused_5 {x} {p} h s f g) = of-all text (λ y. NamesGood text y × BadNumber text y p) x s (f, g)
  says (refused_18 {x} {p} h s f g d) = of-all text (Decimals p) x s (f, g, d)
  says (refused_6 {x} h s f g d o) = of-all text (λ y. NamesGood text y × NumbersGood text y × DecimalsGood text y × Oversized text y) x s (f, g, d, o)
  says (refused_7 {x} h w r) = of-all text Unnamed x w.spelled (w, r)
  says (refused_8 {x} h w r o) = of-all text Exceeding x w.spelled (w, r, o)
  says (accepted h r) = tt

  said : (k p : ℕ) → (read_of text b).0 ≡ reading.refused k p → Said k p
  said k p e = subst SaidBy e (says (answered text b))

  -- ---- each refusal both ways
  module _ (fit : length b ≡ buffer_bytes) where
    -- 3: the first token that with those before it begins no rule
    wrong-token : answers.LengthFits (length text) → (p : ℕ) → Wrong-at (length text) (tokens text) p → read_of text b ≡ (reading.refused 3 p, b)
    wrong-token s p w = outside text b fit s.some_bytes s.few_bytes p w

    pub place_3 : answers.LengthFits (length text) → (p : ℕ) → ((read_of text b).0 ≡ reading.refused 3 p) ↔ Wrong-at (length text) (tokens text) p
    place_3 s p = (said 3 p, λ w. ap answer-of (wrong-token s p w))

    module _ (x : Rule) (y : Spelled text x) where
      judged : (k p : ℕ) → outcome (code_at text) (value_at text) (decimals_at text) x ≡ refused-by k p → (k ≡ 0 → ⊥) → read_of text b ≡ (reading.refused k p, b)
      judged = as_judged text b fit y.sized.some_bytes y.sized.few_bytes x y.spells

      -- 4: the first bad name of the tree
      bad-name : (p : ℕ) → BadName text x p → read_of text b ≡ (reading.refused 4 p, b)
      bad-name p f = judged 4 p (rw (first-name-same text x y.spells ∙ f.first, f.starts)) (λ z. omega arith)

      pub place_4 : (p : ℕ) → ((read_of text b).0 ≡ reading.refused 4 p) ↔ BadName text x p
      place_4 p = (λ e. said 4 p e x y, λ f. ap answer-of (bad-name p f))

      -- 5: the first number of the tree that is beyond its limit, where no name is bad
      bad-number : (p : ℕ) → NamesGood text x → BadNumber text x p → read_of text b ≡ (reading.refused 5 p, b)
      bad-number p e f = judged 5 p (rw (first-name-same text x y.spells ∙ e, first-number-same text x ∙ f.first, f.starts)) (λ z. omega arith)

      pub place_5 : (p : ℕ) → ((read_of text b).0 ≡ reading.refused 5 p) ↔ (NamesGood text x × BadNumber text x p)
      place_5 p = (λ e. said 5 p e x y, λ (e, f). ap answer-of (bad-number p e f))

      -- 18: the first of more than 6 decimals, where no name and no number is bad
      bad-decimals : (p : ℕ) → NamesGood text x → NumbersGood text x → BadDecimals text x p → read_of text b ≡ (reading.refused 18 p, b)
      bad-decimals p e f g = judged 18 p (rw (first-name-same text x y.spells ∙ e, first-number-same text x ∙ f, first-decimals-same text x ∙ g.first, g.starts)) (λ z. omega arith)

      pub place_18 : (p : ℕ) → ((read_of text b).0 ≡ reading.refused 18 p) ↔ (NamesGood text x × NumbersGood text x × BadDecimals text x p)
      place_18 p = (λ e. said 18 p e x y, λ (e, f, g). ap answer-of (bad-decimals p e f g))

      over : NamesGood text x → NumbersGood text x → DecimalsGood text x → Oversized text x → outcome (code_at text) (value_at text) (decimals_at text) x ≡ refused-by 6 0
      over e f g (inl h) = rw (first-name-same text x y.spells ∙ e, first-number-same text x ∙ f, first-decimals-same text x ∙ g, lt-ltb 16 (depth x) h)
      over e f g (inr h) = rw (first-name-same text x y.spells ∙ e, first-number-same text x ∙ f, first-decimals-same text x ∙ g, lt-ltb 64 (length (frames x)) (subst (λ (n : ℕ). 64 < n) (meaning-count text x) h)) (either_way (ltb 16 (depth x)))
        where
          either_way : (q : Bool) → ◌≡◌ {A = Outcome} (cond q (refused-by 6 0) (refused-by 6 0)) (refused-by 6 0)
          either_way true = refl
          either_way false = refl

      -- 6: too deep or too many frames, where no name, no number and no decimals are bad
      oversized : NamesGood text x → NumbersGood text x → DecimalsGood text x → Oversized text x → read_of text b ≡ (reading.refused 6 0, b)
      oversized e f g o = judged 6 0 (over e f g o) (λ z. omega arith)

      pub place_6 : ((read_of text b).0 ≡ reading.refused 6 0) ↔ (NamesGood text x × NumbersGood text x × DecimalsGood text x × Oversized text x)
      place_6 = (λ e. said 6 0 e x y, λ (e, f, g, o). ap answer-of (oversized e f g o))

      -- 7: no reference, where 4, 5, 18 and 6 leave the tree
      pub place_7 : ((read_of text b).0 ≡ reading.refused 7 0) ↔ (Within text x × (references (meaning text x) ≡ []))
      place_7 = (λ e. said 7 0 e x y, λ (w, r). ap answer-of (tree-refused text b fit x w 7 0 ((check_7 text x w).1 r)))

      -- 8: a magnitude over 2^62, where 4 to 7 leave the tree
      pub place_8 : ((read_of text b).0 ≡ reading.refused 8 0) ↔ (Within text x × (references (meaning text x) ≡ [] → ⊥) × (NoneExceeds (magnitudes (meaning text x)) → ⊥))
      place_8 = (λ e. said 8 0 e x y, λ (w, r, o). ap answer-of (tree-refused text b fit x w 8 0 ((check_8 text x w).1 (r, o))))

-- ---- and no other answer has what its case says
-- 2: no byte, or over 1,024
wrong_size : (text b : List ℕ) → length b ≡ buffer_bytes → (answers.LengthFits (length text) → ⊥) → read_of text b ≡ (reading.refused 2 0, b)
wrong_size text b h z = go (eqb (length text) 0) refl (ltb 1024 (length text)) refl
  where
    go : (x : Bool) → eqb (length text) 0 ≡ x → (y : Bool) → ltb 1024 (length text) ≡ y → read_of text b ≡ (reading.refused 2 0, b)
    go true e y f = two_none text b h (eqb-true (length text) 0 e)
    go false e true f = two-many text b h (eqb-false (length text) 0 e) (ltb-true 1024 (length text) f)
    go false e false f = absurd (z (record { some_bytes = eqb-false (length text) 0 e; few_bytes = ltb-false 1024 (length text) f }))

answer : {text b : List ℕ} {a : ReadAnswer × List ℕ} → Answered text b a → read_of text b ≡ a
answer {text} {b} (refused_1 h) = one text b h
answer {text} {b} (refused_2 h z) = wrong_size text b h z
answer {text} {b} (refused_3 {p} h s w) = wrong-token text b h s p w
answer {text} {b} (refused_4 {x} {p} h s f) = bad-name text b h x s p f
answer {text} {b} (refused_5 {x} {p} h s e f) = bad-number text b h x s p e f
answer {text} {b} (refused_18 {x} {p} h s e f g) = bad-decimals text b h x s p e f g
answer {text} {b} (refused_6 {x} h s e f g o) = oversized text b h x s e f g o
answer {text} {b} (refused_7 {x} h w r) = tree-refused text b h x w 7 0 ((check_7 text x w).1 r)
answer {text} {b} (refused_8 {x} h w r o) = tree-refused text b h x w 8 0 ((check_8 text x w).1 (r, o))
answer {text} {b} (accepted {n} {s} h r) = tree-read text b h n s r

pub read_iff : (text b : List ℕ) (a : ReadAnswer × List ℕ) → (read_of text b ≡ a) ↔ Answered text b a
read_iff text b a = (λ e. subst (λ (z : ReadAnswer × List ℕ). Answered text b z) e (answered text b), answer)
