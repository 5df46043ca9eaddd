-- The test of refusal 9 is its meaning. Assumes nothing.
use mathlib.Core.Path.{◌≡◌, refl}
use mathlib.Core.Bool.{Bool, true, false, ◌&&◌}
use Prim.Native.Nat.{ℕ, ◌*◌, ◌%◌}
use lib.Dec.{leb, eqb}
use borrow.Author.Tests.{leb-true, le-leb, eqb-true, eq-eqb}
use Rattle.numbers.proofs.Bools.{and-true, true-and}
use Rattle.rule.specs.Limits.{frame_limit, frame_bytes}
use Rattle.rule.specs.Check.{whole_frames}
use Rattle.rule.specs.Opening.{Whole}

pub true-whole : (n : ℕ) → whole_frames n ≡ true → Whole n
true-whole n e =
    let p = and-true (leb frame_bytes n && leb n (frame_limit * frame_bytes)) (eqb (n % frame_bytes) 0) e in
    let q = and-true (leb frame_bytes n) (leb n (frame_limit * frame_bytes)) p.0 in
    record { least = leb-true frame_bytes n q.0; most = leb-true n (frame_limit * frame_bytes) q.1; steps = eqb-true (n % frame_bytes) 0 p.1 }

pub whole-true : (n : ℕ) → Whole n → whole_frames n ≡ true
whole-true n w =
    true-and (leb frame_bytes n && leb n (frame_limit * frame_bytes)) (eqb (n % frame_bytes) 0)
    (true-and (leb frame_bytes n) (leb n (frame_limit * frame_bytes)) (le-leb frame_bytes n w.least) (le-leb n (frame_limit * frame_bytes) w.most))
    (eq-eqb (n % frame_bytes) 0 w.steps)

by_test : (n : ℕ) (t : Bool) → whole_frames n ≡ t → (Whole n → ⊥) → whole_frames n ≡ false
by_test n true e h = absurd (h (true-whole n e))
by_test n false e h = e

pub whole-false : (n : ℕ) → (Whole n → ⊥) → whole_frames n ≡ false
whole-false n h = by_test n (whole_frames n) refl h
