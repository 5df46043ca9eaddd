-- Frames put one after the other into zero bytes are their bytes, one after the other, and zero after the last. Assumes nothing.
use mathlib.Core.Path.{◌≡◌, refl, ap, subst, ◌∙◌}
use mathlib.Core.List.{List, [], ◌∷◌, ◌++◌, append_assoc}
use Prim.Native.Nat.{ℕ, zero, suc, ◌+◌, ◌-◌, ◌*◌, ◌≤◌, ◌<◌}
use native.Mathlib.Omega.{arith}
use lib.ListN.{length, drop, replicate, length-append, length-replicate}
use lib.Seq.{sets-eq, take_at, drop-append-add}
use borrow.Author.Tests.{lt-ltb}
use Rattle.rule.specs.Tree.{word_bytes}
use Rattle.rule.specs.Memory.{put}
use Rattle.rule.proofs.ReaderFrames.{fill}
use Rattle.rule.specs.declared.memory.RawFrame.{RawFrame}

-- a frame's bytes
abbrev pub eight : RawFrame → List ℕ
eight f = f.kind ∷ (f.event ∷ (f.note ∷ (f.factor ∷ word_bytes f.word [])))

-- of frames
abbrev pub packed : List RawFrame → List ℕ
packed [] = []
packed (f ∷ fs) = eight f ++ packed fs

pub packed-length : (fs : List RawFrame) → length (packed fs) ≡ length fs * 8
packed-length [] = refl
packed-length (f ∷ fs) = let h = packed-length fs in omega arith

put-at : (p q : List ℕ) (k : ℕ) (f : RawFrame) → k < 64 → length p ≡ k * 8 → 8 ≤ length q → put (p ++ q) k f ≡ (p ++ eight f) ++ drop 8 q
unfolding put
put-at p q k f h e g =
    let l : k * 8 + 8 ≤ length (p ++ q) = rw length-append (omega arith) in
    let e₁ : k * 8 + 1 ≡ suc (k * 8) = omega arith in
    let e₂ : k * 8 + 2 ≡ suc (suc (k * 8)) = omega arith in
    let e₃ : k * 8 + 3 ≡ suc (suc (suc (k * 8))) = omega arith in
    let e₄ : k * 8 + 4 ≡ suc (suc (suc (suc (k * 8)))) = omega arith in
    let e₅ : k * 8 + 5 ≡ suc (suc (suc (suc (suc (k * 8))))) = omega arith in
    let e₆ : k * 8 + 6 ≡ suc (suc (suc (suc (suc (suc (k * 8)))))) = omega arith in
    let e₇ : k * 8 + 7 ≡ suc (suc (suc (suc (suc (suc (suc (k * 8))))))) = omega arith in
    rw (lt-ltb k 64 h, e₁, e₂, e₃, e₄, e₅, e₆, e₇)
    (sets-eq (eight f) (p ++ q) (k * 8) l ∙ rw (take_at p q (k * 8) e) (ap (λ (z : List ℕ). (p ++ eight f) ++ z) (subst (λ (n : ℕ). drop (n + 8) (p ++ q) ≡ drop 8 q) e (drop-append-add p q 8))))

zeros-left : (n m : ℕ) → n ≤ m → drop n (replicate {A = ℕ} m 0) ≡ replicate (m - n) 0
zeros-left zero m h = let e : m - 0 ≡ m = omega arith in rw e
zeros-left (suc n) zero h = absurd (omega arith)
zeros-left (suc n) (suc m) h = let e : suc m - suc n ≡ m - n = omega arith in rw e (zeros-left n m (omega arith))

-- from place k on, after the bytes p
filled-from : (fs : List RawFrame) (k m : ℕ) (p : List ℕ) → k + length fs ≤ 64 → length p ≡ k * 8 → length fs * 8 ≤ m
    → fill k fs (p ++ replicate m 0) ≡ p ++ (packed fs ++ replicate (m - length fs * 8) 0)
filled-from [] k m p h e g = let z : m - 0 ≡ m = omega arith in rw z
filled-from (f ∷ fs) k m p h e g =
    let z : put (p ++ replicate m 0) k f ≡ (p ++ eight f) ++ replicate (m - 8) 0 =
    put-at p (replicate m 0) k f (omega arith) e (rw length-replicate (omega arith)) ∙ ap (λ (l : List ℕ). (p ++ eight f) ++ l) (zeros-left 8 m (omega arith)) in
    let n : m - 8 - length fs * 8 ≡ m - suc (length fs) * 8 = omega arith in
    ap (λ (l : List ℕ). fill (k + 1) fs l) z
    ∙ (filled-from fs (k + 1) (m - 8) (p ++ eight f) (omega arith) (rw length-append (omega arith)) (omega arith)
    ∙ (append_assoc p (eight f) (packed fs ++ replicate (m - 8 - length fs * 8) 0) ∙ ap (λ (j : ℕ). p ++ (eight f ++ (packed fs ++ replicate j 0))) n))

pub filled : (fs : List RawFrame) → length fs ≤ 64 → fill 0 fs (replicate 512 0) ≡ packed fs ++ replicate (512 - length fs * 8) 0
filled fs h = filled-from fs 0 512 [] (omega arith) refl (omega arith)
