-- Laws of refusal 8's pass over the frames. Assumes nothing.
use mathlib.Core.Path.{◌≡◌, refl, sym, ap, ◌∙◌}
use mathlib.Core.Bool.{Bool, true, false, cond}
use mathlib.Core.List.{List, [], ◌∷◌}
use Prim.Native.Nat.{ℕ, zero, suc, ◌+◌, ◌-◌, ◌≤◌}
use native.Mathlib.Nat.{add-suc, add-zero}
use native.Mathlib.Numerals.{add-one}
use native.Mathlib.Omega.{arith}
use lib.Dec.{T, leb}
use lib.ListN.{length}
use Rattle.std.specs.Result.{is_ok}
use Rattle.std.proofs.Common.{Result, Ok, Err, IsErr}
use Rattle.std.proofs.lemmas.Bool.Decides.{nat_tests}
use Rattle.numbers.proofs.Bools.{true-false}
use borrow.Author.Tests.{leb-true}
use Rattle.rule.specs.Limits.{magnitude_limit}
use Rattle.rule.specs.Frames.{Kind, operand, arithmetic, absolute, relation, negation, connective, none, kind_of, frame_at, frame_count}
use Rattle.rule.specs.Decimals.{Term, term}
use Rattle.rule.specs.Tree.{grown}
use Rattle.rule.specs.Sizes.{Sizes, fits, over, pushed, topped, sides_fit, compared, operand_size, sizes_after, size_next, size_at, is_fits, sizes_fit}
use Rattle.rule.specs.Stack.{Bounded}
use Rattle.rule.specs.Magnitudes.{loaded, saturated, saturated_term}
use Rattle.rule.specs.declared.Frame.{Frame}
use Rattle.rule.specs.declared.sizes.OverLimit.{OverLimit}
use Rattle.rule.proofs.FrameKinds.{is_keeping}

-- ---- every magnitude so far is within the limit
abbrev pub BoundedIn : Sizes → Type 0
BoundedIn (fits ms) = Bounded ms
BoundedIn over = Unit {0}

pushed-cond : (t : Bool) (m : Term ℕ) (ms : List (Term ℕ)) → leb m.amount magnitude_limit ≡ t → Bounded ms → BoundedIn (cond t (fits (m ∷ ms)) over)
pushed-cond true m ms e h = (leb-true m.amount magnitude_limit e, h)
pushed-cond false m ms e h = tt

pushed_in : (m : Term ℕ) (ms : List (Term ℕ)) → Bounded ms → BoundedIn (pushed m ms)
pushed_in m ms h = pushed-cond (leb m.amount magnitude_limit) m ms refl h

topped_in : (f : Term ℕ → Term ℕ → Term ℕ) (ms : List (Term ℕ)) → Bounded ms → BoundedIn (topped f ms)
topped_in f [] h = tt
topped_in f (b ∷ []) h = h
topped_in f (b ∷ (a ∷ ms)) h = pushed_in (f a b) ms h.1.1

emptied : (t : Bool) → BoundedIn (cond t (fits []) over)
emptied true = tt
emptied false = tt

compared_in : (ms : List (Term ℕ)) → BoundedIn (compared ms)
compared_in [] = tt
compared_in (b ∷ []) = tt
compared_in (b ∷ (a ∷ ms)) = emptied (sides_fit a b)

-- ---- where each note has so many decimals
module _ (scale : ℕ) where
  sizes_after_in : (o : Kind) (x : Frame) (ms : List (Term ℕ)) → Bounded ms → BoundedIn (sizes_after scale o x ms)
  sizes_after_in (operand s) x ms h = pushed_in (operand_size scale s x) ms h
  sizes_after_in (arithmetic o) x ms h = topped_in (grown o) ms h
  sizes_after_in absolute x ms h = h
  sizes_after_in (relation r) x ms h = compared_in ms
  sizes_after_in negation x ms h = h
  sizes_after_in (connective j) x ms h = h
  sizes_after_in none x ms h = h

  next_in_lem : (x : Frame) (z : Sizes) → BoundedIn z → BoundedIn (size_next scale x z)
  next_in_lem x (fits ms) h = sizes_after_in (kind_of x.kind) x ms h
  next_in_lem x over h = tt

  pub sizes_in : (s : List ℕ) (i : ℕ) → BoundedIn (size_at scale s i)
  sizes_in s zero = tt
  sizes_in s (suc i) = next_in_lem (frame_at s i) (size_at scale s i) (sizes_in s i)

  -- ---- once over, always over
  stays-over : (s : List ℕ) (i d : ℕ) → size_at scale s i ≡ over → size_at scale s (i + d) ≡ over
  stays-over s i zero e = rw add-zero e
  stays-over s i (suc d) e = rw (add-suc i d) (ap (size_next scale (frame_at s (i + d))) (stays-over s i d e))

  pub over-at : (s : List ℕ) (i n : ℕ) → i ≤ n → size_at scale s i ≡ over → size_at scale s n ≡ over
  over-at s i n h e = let q : i + (n - i) ≡ n = omega arith in rw q at (stays-over s i (n - i) e)

  fits_by : (s : List ℕ) (i : ℕ) (z : Sizes) → size_at scale s i ≡ z → i ≤ frame_count s → sizes_fit scale s ≡ true → is_fits z ≡ true
  unfolding sizes_fit
  fits_by s i (fits ms) e h f = refl
  fits_by s i over e h f = sym (ap is_fits (over-at s i (frame_count s) h e)) ∙ f

  -- so where none is over at the end, none is on the way
  pub fits-at : (s : List ℕ) (i : ℕ) → i ≤ frame_count s → sizes_fit scale s ≡ true → is_fits (size_at scale s i) ≡ true
  fits-at s i h f = fits_by s i (size_at scale s i) refl h f

  -- ---- for the functions
  pub sizes_after_keeping : (o : Kind) (x : Frame) (ms : List (Term ℕ)) → T (is_keeping o) → sizes_after scale o x ms ≡ fits ms
  sizes_after_keeping (operand s) x ms t = absurd t
  sizes_after_keeping (arithmetic o) x ms t = absurd t
  sizes_after_keeping absolute x ms t = refl
  sizes_after_keeping (relation r) x ms t = absurd t
  sizes_after_keeping negation x ms t = refl
  sizes_after_keeping (connective j) x ms t = refl
  sizes_after_keeping none x ms t = refl

  pub size_again : (s : List ℕ) (ms : List (Term ℕ)) (i : ℕ) (x : Frame) (z : Sizes) → size_at scale s i ≡ fits ms → x ≡ frame_at s i
      → z ≡ sizes_after scale (kind_of x.kind) x ms → size_at scale s (i + 1) ≡ z
  size_again s ms i x z e w h =
      rw add-one (ap (size_next scale (frame_at s i)) e ∙ ap (λ (y : Frame). sizes_after scale (kind_of y.kind) y ms) (sym w) ∙ sym h)

-- a relation, of the two that there are
pub compared_pair : (r : Result Unit OverLimit) (a b : Term ℕ) (ms rest : List (Term ℕ)) → ms ≡ b ∷ (a ∷ rest) → length ms ≡ 2 → is_ok r ≡ sides_fit a b → loaded rest r ≡ compared ms
compared_pair r a b ms [] e n h = rw (e, ← h) (fitted r)
  where
    fitted : (r : Result Unit OverLimit) → loaded [] r ≡ cond (is_ok r) (fits []) over
    fitted (Ok u) = refl
    fitted (Err z) = refl
compared_pair r a b ms (c ∷ rest) e n h = absurd (let l : suc (suc (suc (length rest))) ≡ 2 = sym (ap length e) ∙ n in omega arith)

-- what is an error is not `Ok`
pub not_ok : (r : Result Unit OverLimit) → IsErr r → is_ok r ≡ false
not_ok (Ok u) h = absurd (true-false (sym h))
not_ok (Err e) h = refl

-- ---- saturated amounts tell the same
pub saturated_leb : (n : ℕ) → leb (saturated n) magnitude_limit ≡ leb n magnitude_limit
saturated_leb n = grind (arith, nat_tests)

pushed_by : (t : Bool) (n d : ℕ) (ms : List (Term ℕ)) → leb n magnitude_limit ≡ t → pushed (term (saturated n) d) ms ≡ pushed (term n d) ms
pushed_by true n d ms e = let h = leb-true n magnitude_limit e in let q : saturated n ≡ n = omega arith in rw q
pushed_by false n d ms e = rw (saturated_leb n, e)

pub pushed_saturated : (t : Term ℕ) (ms : List (Term ℕ)) → pushed (saturated_term t) ms ≡ pushed t ms
pushed_saturated t ms = pushed_by (leb t.amount magnitude_limit) t.amount t.decimals ms refl
