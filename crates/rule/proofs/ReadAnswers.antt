-- Each answer of `read` says what is so of the text. Assumes nothing.
use mathlib.Core.Path.{◌≡◌, refl, ap, sym, subst, ◌∙◌}
use mathlib.Core.Logic.{◌⊎◌, inl, inr}
use mathlib.Core.Bool.{Bool, true, false, cond}
use mathlib.Core.List.{List, []}
use mathlib.Core.Option.{Option, none, some}
use Prim.Native.Nat.{ℕ, ◌*◌, ◌<◌}
use native.Mathlib.Omega.{arith}
use borrow.Author.Tests.{eqb-true, eqb-false, ltb-true, ltb-false}
use lib.Dec.{ltb, eqb}
use lib.ListN.{length, take}
use Rattle.rule.specs.Token.{tokens}
use Rattle.rule.specs.Grammar.{Rule, yield, words, Wrong-at}
use Rattle.rule.specs.Tree.{postfix}
use Rattle.rule.specs.Measure.{frames, depth, names, numbers}
use Rattle.rule.proofs.ReaderRefusals.{refused-by, read_as, first-name, first-number, first-decimals, after-decimals, after-number, after-name, outcome}
use Rattle.rule.specs.Memory.{code_at, value_at, decimals_at}
use Rattle.rule.specs.Check.{checked_of}
use Rattle.rule.specs.Meaning.{meaning}
use Rattle.rule.specs.Reading.{read_of}
use Rattle.rule.proofs.ReaderFrames.{tree_bytes}
use Rattle.rule.specs.ReadTold as reading
use Rattle.rule.specs.Answers.{Spelled, NamesGood, NumbersGood, DecimalsGood, Within, ReadAs, Answered, refused_1, refused_2, refused_3, refused_4, refused_5, refused_18, refused_6, refused_7, refused_8, accepted}
use Rattle.rule.specs.Answers as answers
use Rattle.rule.specs.CheckTold.{CheckAnswer}
use Rattle.rule.specs.ReadTold.{ReadAnswer}
use Rattle.rule.specs.declared.parts.Place.{Place}
use Rattle.rule.proofs.ReaderConclusion.{one, two_none, two-many}
use Rattle.rule.proofs.ReadText.{outside, as_judged, either}
use Rattle.rule.proofs.SpellSame.{first-name-same, first-number-same, first-decimals-same}
use Rattle.rule.proofs.FrameTrees.{meaning-count}
use Rattle.rule.proofs.ReadChecks.{Checks, no_reference, too_great, proper, checks}
use Rattle.rule.proofs.ReadFrames.{tree-refused, tree-read}

-- ---- the answers
module _ (text b : List ℕ) (fit : length b ≡ 512) (size : answers.LengthFits (length text)) where
  module _ (x : Rule) (y : yield x ≡ words (tokens text)) where
    spelled : Spelled text x
    spelled = record { sized = size; spells = y }

    judged : (k p : ℕ) → outcome (code_at text) (value_at text) (decimals_at text) x ≡ refused-by k p → (k ≡ 0 → ⊥) → read_of text b ≡ (reading.refused k p, b)
    judged = as_judged text b fit size.some_bytes size.few_bytes x y

    back : (a : ReadAnswer × List ℕ) → read_of text b ≡ a → Answered text b a → Answered text b (read_of text b)
    back a e = subst (λ (z : ReadAnswer × List ℕ). Answered text b z) (sym e)

    by_check : Within text x → (a : CheckAnswer) → checked_of (take (length (frames x) * 8) (tree_bytes text x)) ≡ a → Checks (meaning text x) a → Answered text b (read_of text b)
    by_check w a e (no_reference h) = back _ (tree-refused text b fit x w 7 0 e) (refused_7 fit w h)
    by_check w a e (too_great h o) = back _ (tree-refused text b fit x w 8 0 e) (refused_8 fit w h o)
    by_check w a e (proper h o) =
        let r : ReadAs text (length (postfix (meaning text x))) _ = record { tree = x; within = w; named = h; exact = o; count = refl; bytes = refl } in
        back _ (tree-read text b fit (length (postfix (meaning text x))) _ r) (accepted fit r)

    by-six : NamesGood text x → NumbersGood text x → DecimalsGood text x
        → outcome (code_at text) (value_at text) (decimals_at text) x ≡ cond (ltb 16 (depth x)) (refused-by 6 0) (cond (ltb 64 (length (frames x))) (refused-by 6 0) (read_as (frames x)))
        → (q r : Bool) → ltb 16 (depth x) ≡ q → ltb 64 (length (frames x)) ≡ r → Answered text b (read_of text b)
    by-six e f i v true r g h = back _ (judged 6 0 (v ∙ rw g) (λ z. omega arith)) (refused_6 fit spelled e f i (inl (ltb-true 16 (depth x) g)))
    by-six e f i v false true g h = back _ (judged 6 0 (v ∙ rw (g, h)) (λ z. omega arith)) (refused_6 fit spelled e f i (inr (rw (meaning-count text x) (ltb-true 64 (length (frames x)) h))))
    by-six e f i v false false g h =
        let w : Within text x = record { spelled = spelled; names_good = e; numbers_good = f; decimals_good = i; shallow = ltb-false 16 (depth x) g; few_frames = rw (meaning-count text x) (ltb-false 64 (length (frames x)) h) } in
        by_check w (checked_of (take (length (frames x) * 8) (tree_bytes text x))) refl (checks text x w)

    by-eighteen : NamesGood text x → NumbersGood text x → outcome (code_at text) (value_at text) (decimals_at text) x ≡ after-decimals (code_at text) (value_at text) (decimals_at text) x (first-decimals (code_at text) (value_at text) (decimals_at text) (numbers x))
        → (o : Option Place) → first-decimals (code_at text) (value_at text) (decimals_at text) (numbers x) ≡ o → Answered text b (read_of text b)
    by-eighteen e f v (some q) g =
        back _ (judged 18 q.start (v ∙ ap (λ (o : Option Place). after-decimals (code_at text) (value_at text) (decimals_at text) x o) g) (λ z. omega arith))
        (refused_18 fit spelled e f (record { number = q; first = sym (first-decimals-same text x) ∙ g; starts = refl }))
    by-eighteen e f v none g = by-six e f (sym (first-decimals-same text x) ∙ g) (v ∙ ap (λ (o : Option Place). after-decimals (code_at text) (value_at text) (decimals_at text) x o) g) (ltb 16 (depth x)) (ltb 64 (length (frames x))) refl refl

    by-five : NamesGood text x → outcome (code_at text) (value_at text) (decimals_at text) x ≡ after-number (code_at text) (value_at text) (decimals_at text) x (first-number (code_at text) (value_at text) (decimals_at text) (numbers x))
        → (o : Option Place) → first-number (code_at text) (value_at text) (decimals_at text) (numbers x) ≡ o → Answered text b (read_of text b)
    by-five e v (some q) f =
        back _ (judged 5 q.start (v ∙ ap (λ (o : Option Place). after-number (code_at text) (value_at text) (decimals_at text) x o) f) (λ z. omega arith))
        (refused_5 fit spelled e (record { number = q; first = sym (first-number-same text x) ∙ f; starts = refl }))
    by-five e v none f = by-eighteen e (sym (first-number-same text x) ∙ f) (v ∙ ap (λ (o : Option Place). after-number (code_at text) (value_at text) (decimals_at text) x o) f) (first-decimals (code_at text) (value_at text) (decimals_at text) (numbers x)) refl

    by-four : (o : Option Place) → first-name (code_at text) (value_at text) (decimals_at text) [] (names x) ≡ o → Answered text b (read_of text b)
    by-four (some q) e =
        back _ (judged 4 q.start (ap (λ (o : Option Place). after-name (code_at text) (value_at text) (decimals_at text) x o) e) (λ z. omega arith))
        (refused_4 fit spelled (record { name = q; first = sym (first-name-same text x y) ∙ e; starts = refl }))
    by-four none e = by-five (sym (first-name-same text x y) ∙ e) (ap (λ (o : Option Place). after-name (code_at text) (value_at text) (decimals_at text) x o) e) (first-number (code_at text) (value_at text) (decimals_at text) (numbers x)) refl

  in_text : ((x : Rule) × (yield x ≡ words (tokens text))) ⊎ ((p : ℕ) × Wrong-at (length text) (tokens text) p) → Answered text b (read_of text b)
  in_text (inl (x, y)) = by-four x y (first-name (code_at text) (value_at text) (decimals_at text) [] (names x)) refl
  in_text (inr (p, w)) = subst (λ (z : ReadAnswer × List ℕ). Answered text b z) (sym (outside text b fit size.some_bytes size.few_bytes p w)) (refused_3 fit size w)

pub answered : (text b : List ℕ) → Answered text b (read_of text b)
answered text b = go (eqb (length b) 512) refl (eqb (length text) 0) refl (ltb 1024 (length text)) refl
  where
    go : (x : Bool) → eqb (length b) 512 ≡ x → (y : Bool) → eqb (length text) 0 ≡ y → (z : Bool) → ltb 1024 (length text) ≡ z → Answered text b (read_of text b)
    go false e y f z g = let h = eqb-false (length b) 512 e in subst (λ (a : ReadAnswer × List ℕ). Answered text b a) (sym (one text b h)) (refused_1 h)
    go true e true f z g =
        let h = eqb-true (length b) 512 e in
        let i = eqb-true (length text) 0 f in
        subst (λ (a : ReadAnswer × List ℕ). Answered text b a) (sym (two_none text b h i)) (refused_2 h (λ s. s.some_bytes i))
    go true e false f true g =
        let h = eqb-true (length b) 512 e in
        let i = eqb-false (length text) 0 f in
        let l : 1024 < length text = ltb-true 1024 (length text) g in
        subst (λ (a : ReadAnswer × List ℕ). Answered text b a) (sym (two-many text b h i l)) (refused_2 h (λ s. let q = s.few_bytes in omega arith))
    go true e false f false g =
        let h = eqb-true (length b) 512 e in
        let s : answers.LengthFits (length text) = record { some_bytes = eqb-false (length text) 0 f; few_bytes = ltb-false 1024 (length text) g } in
        in_text text b h s (either text b h s.some_bytes s.few_bytes)
