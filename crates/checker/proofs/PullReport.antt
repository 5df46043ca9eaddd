-- The report's bytes: what the loop keeps, and what they mean. Assumes nothing.
use Rattle.std.proofs.Common.{◌≡◌, ℕ, zero, suc, ◌+◌, ◌-◌, ◌*◌, ◌/◌, ◌%◌, ◌^◌, ◌<◌, ◌≤◌, w32, Bool, true, false, cond, eqb, List, [], ◌∷◌, ◌++◌, map, length, get_or, take, drop, ℤ, pos, sym, refl, ap, ◌∙◌, append_assoc, append-nil, add-one, arith, length-append, length-drop, length-take-le, drop-drop, take_at, eq-eqb, eqb-true}
use native.Mathlib.Decide.{dec_lt}
use lib.ListN.{length-map}
use lib.Seq.{sets, sets-eq, take-append_seam, drop-append-add}
use Rattle.rule.specs.Frames.{frame_at, frame_count, Bytes}
use Rattle.std.specs.Int.{to_be_bytes}
use borrow.Rule.Slice.PartMut.{put_mid}
use Rattle.rule.specs.Tree.{Reference, RuleTree, IsRule, references, word_bytes}
use Rattle.rule.specs.Build.{tree_of}
use Rattle.rule.specs.References.{reference_byte, reference_of, references_to, one_more, reference_count}
use Rattle.rule.specs.Check.{checked_of}
use Rattle.rule.specs.CheckTold as checking
use Rattle.rule.proofs.Main.{count-references, tree-of, frames_exactly}
use Rattle.rule.proofs.Laws.{over-references, over_references}
use Rattle.verdict.specs.Found.{Found}
use Rattle.verdict.specs.Value.{note_of}
use Rattle.checker.specs.Report.{mark_of, entries, report_bytes, written}
use Rattle.checker.specs.Sights.{ShownTo, header_of, entry_of, report_to}

-- ---- bytes put after others
next-at : (out vs r0 : List ℕ) → length out + length vs ≤ length r0
    → sets (out ++ drop (length out) r0) (length out) vs ≡ written (out ++ vs) r0
next-at out vs r0 h =
    let l : length out + length vs ≤ length (out ++ drop (length out) r0) = simp (length-append, length-drop) (omega arith) in
    let a : take (length out) (out ++ drop (length out) r0) ≡ out = take-append_seam out (drop (length out) r0) in
    let b : drop (length out + length vs) (out ++ drop (length out) r0) ≡ drop (length out + length vs) r0 =
    drop-append-add out (drop (length out) r0) (length vs) ∙ drop-drop (length vs) (length out) r0 in
    rw (sets-eq vs (out ++ drop (length out) r0) (length out) l, a, b, length-append out vs)

pub put_next : (out vs r0 r : List ℕ) (at : ℕ) → r ≡ written out r0 → at ≡ length out → at + length vs ≤ length r0 → sets r at vs ≡ written (out ++ vs) r0
put_next out vs r0 r at e q h =
    let l : length out + length vs ≤ length r0 = omega arith in
    ap (λ (x : List ℕ). sets x at vs) e ∙ ap (λ (n : ℕ). sets (written out r0) n vs) q ∙ next-at out vs r0 l

pub put_first : (vs r0 : List ℕ) → length vs ≤ length r0 → sets r0 0 vs ≡ written vs r0
put_first vs r0 h = next-at [] vs r0 (omega arith)

-- ---- four bytes put at once
pub part-sets : (a : ℕ) (xs ys : List ℕ) → a + length ys ≤ length xs → put_mid a (length ys) xs ys ≡ sets xs a ys
part-sets a xs ys h = rw (sets-eq ys xs a h, drop-drop, append_assoc)

pub word-bytes : (n : ℕ) → n < 2 ^ 32 → to_be_bytes w32 n ≡ word_bytes n []
word-bytes n h =
    let first : n / 16777216 % 256 ≡ n / 256 / 256 / 256 = omega arith in
    let second : n / 65536 % 256 ≡ n / 256 / 256 % 256 = omega arith in
    rw (first, second)

-- ---- how many
module _ (s : List ℕ) where
  count-step : (k : ℕ) → references_to one_more s 0 k ≤ references_to one_more s 0 (suc k)
  count-step k = go (eqb (frame_at s k).kind reference_byte) (references_to one_more s 0 k)
    where
      go : (t : Bool) (n : ℕ) → n ≤ cond t (n + 1) n
      go true n = omega arith
      go false n = omega arith

  count_mono : (k n : ℕ) → k ≤ n → references_to one_more s 0 k ≤ references_to one_more s 0 n
  count_mono k zero h = let e : k ≡ 0 = omega arith in rw e (omega arith)
  count_mono k (suc n) h =
      elim (dec_lt n k) [
        | yes l ↦ let e : k ≡ suc n = omega arith in rw e (omega arith)
        | no l ↦ let a = count_mono k n (omega arith) in let b = count-step n in omega arith
      ]

  count-one : (k : ℕ) → (frame_at s k).kind ≡ reference_byte → references_to one_more s 0 (suc k) ≡ references_to one_more s 0 k + 1
  count-one k e = rw (eq-eqb (frame_at s k).kind reference_byte e)

  count_room : (k : ℕ) → k < frame_count s → (frame_at s k).kind ≡ reference_byte → references_to one_more s 0 k + 1 ≤ reference_count s
  unfolding reference_count
  count_room k h e = omega (arith, count_mono (suc k) (frame_count s) h, count-one k e)

module _ (s marks : List ℕ) (notes : List ℤ) (out : List ℕ) where
  report-length : (k : ℕ) → length (report_to s marks notes out k) ≡ length out + references_to one_more s 0 k * 5
  report-length zero = omega arith
  report-length (suc k) = go (eqb (frame_at s k).kind reference_byte) (report_to s marks notes out k) (references_to one_more s 0 k) (report-length k)
    where
      go : (t : Bool) (l : List ℕ) (n : ℕ) → length l ≡ length out + n * 5
          → length (cond t (l ++ entry_of (get_or marks k 0) (get_or notes k (pos 0))) l) ≡ length out + cond t (n + 1) n * 5
      go true l n e = length-append l (entry_of (get_or marks k 0) (get_or notes k (pos 0))) ∙ omega arith
      go false l n e = e

  -- there is room for each reference
  pub report-room : (k : ℕ) → k < frame_count s → (frame_at s k).kind ≡ reference_byte → reference_count s ≤ 32 → length out ≡ 6
      → length (report_to s marks notes out k) + 5 ≤ 166
  report-room k h e f g = omega (arith, report-length k, count_room s k h e)

  -- what the loop keeps: the bytes so far, and where the next go
  pub report-next : (r0 r : List ℕ) (at k : ℕ) → r ≡ written (report_to s marks notes out k) r0 → at ≡ length (report_to s marks notes out k)
      → ((frame_at s k).kind ≡ reference_byte → at + 5 ≤ length r0) → (r' : List ℕ) (at' : ℕ)
      → r' ≡ cond (eqb (frame_at s k).kind reference_byte) (sets r at (entry_of (get_or marks k 0) (get_or notes k (pos 0)))) r
      → at' ≡ cond (eqb (frame_at s k).kind reference_byte) (at + 5) at
      → (r' ≡ written (report_to s marks notes out (suc k)) r0) × (at' ≡ length (report_to s marks notes out (suc k)))
  report-next r0 r at k e q h r' at' x y = go (eqb (frame_at s k).kind reference_byte) refl x y
    where
      new : List ℕ
      new = entry_of (get_or marks k 0) (get_or notes k (pos 0))

      old : List ℕ
      old = report_to s marks notes out k

      go : (t : Bool) → eqb (frame_at s k).kind reference_byte ≡ t → r' ≡ cond t (sets r at new) r → at' ≡ cond t (at + 5) at
          → (r' ≡ written (cond t (old ++ new) old) r0) × (at' ≡ length (cond t (old ++ new) old))
      go true d x y =
          let l : at + 5 ≤ length r0 = h (eqb-true (frame_at s k).kind reference_byte d) in
          (x ∙ put_next old new r0 r at e q l, omega (arith, length-append old new))
      go false d x y = (x ∙ e, y ∙ q)

-- ---- what the bytes mean
module _ (found : Reference → Found) where
  abbrev adds : Reference → List ℕ → List ℕ
  adds r out = out ++ entry_of (mark_of (found r)) (note_of (found r))

  adds-to : (s marks : List ℕ) (notes : List ℤ) (out : List ℕ) (n : ℕ) → ShownTo s found marks notes n → (k : ℕ) → k ≤ n
      → report_to s marks notes out k ≡ references_to adds s out k
  adds-to s marks notes out n w zero h = refl
  adds-to s marks notes out n w (suc k) h = go (eqb (frame_at s k).kind reference_byte) refl (adds-to s marks notes out n w k (omega arith))
    where
      old : List ℕ
      old = report_to s marks notes out k

      old' : List ℕ
      old' = references_to adds s out k

      go : (t : Bool) → eqb (frame_at s k).kind reference_byte ≡ t → old ≡ old'
          → cond t (old ++ entry_of (get_or marks k 0) (get_or notes k (pos 0))) old ≡ cond t (adds (reference_of (frame_at s k)) old') old'
      go true d i =
          let g = w k (omega arith) (eqb-true (frame_at s k).kind reference_byte d) in
          rw (i, g.mark_is, g.note_is)
      go false d i = i

  over-adds : (rs : List Reference) (out : List ℕ) → over_references adds rs out ≡ out ++ entries (map found rs)
  over-adds [] out = sym (append-nil out)
  over-adds (r ∷ rs) out =
      over-adds rs (adds r out) ∙ append_assoc out (entry_of (mark_of (found r)) (note_of (found r))) (entries (map found rs))

  pub report-is : {s : List ℕ} → Bytes s → checked_of s ≡ checking.accepted → (marks : List ℕ) (notes : List ℤ) (p : ℕ) → ShownTo s found marks notes (frame_count s)
      → report_to s marks notes (header_of p (reference_count s)) (frame_count s) ≡ report_bytes p (map found (references (tree_of s)))
  unfolding report_bytes
  report-is {s} b e marks notes p w =
      let q = (frames_exactly b).0 e in
      let r : IsRule s = record { tree = q.tree; limits = q.limits; bytes = q.bytes } in
      let rs : List Reference = references r.tree in
      let n : reference_count s ≡ length (map found rs) = count-references r ∙ sym (length-map rs found) in
      adds-to s marks notes (header_of p (reference_count s)) (frame_count s) w (frame_count s) (omega arith)
      ∙ over-references adds r (header_of p (reference_count s))
      ∙ over-adds rs (header_of p (reference_count s))
      ∙ ap (λ (m : ℕ). header_of p m ++ entries (map found rs)) n
      ∙ ap (λ (t : RuleTree). report_bytes p (map found (references t))) (sym (tree-of r))

-- ---- the loop's start and end
pub written_over : (out first r0 : List ℕ) → length first ≤ length out → written out (written first r0) ≡ written out r0
written_over out first r0 h =
    let m : ℕ = length out - length first in
    let e : length out ≡ length first + m = omega arith in
    ap (λ (x : List ℕ). out ++ x)
    (ap (λ (n : ℕ). drop n (first ++ drop (length first) r0)) e ∙ drop-append-add first (drop (length first) r0) m ∙ drop-drop m (length first) r0
    ∙ ap (λ (n : ℕ). drop n r0) (sym e))

-- ---- the loop as a whole: r0 is the buffer where it begins
pub record Kept (s marks : List ℕ) (notes : List ℤ) (r0 r : List ℕ) (at k : ℕ) : Type 0 where
  pub room : 166 ≤ length r0
  pub bytes : r ≡ written (report_to s marks notes (take 6 r0) k) r0
  pub place : at ≡ length (report_to s marks notes (take 6 r0) k)

module _ (s marks : List ℕ) (notes : List ℤ) (few : reference_count s ≤ 32) (r0 r : List ℕ) (at k : ℕ) (w : Kept s marks notes r0 r at k) where
  kept-six : length (take 6 r0) ≡ 6
  kept-six = length-take-le 6 r0 (omega (arith, w.room))

  kept-most : k ≤ frame_count s → length (report_to s marks notes (take 6 r0) k) ≤ 166
  unfolding reference_count
  kept-most h = omega (arith, few, kept-six, report-length s marks notes (take 6 r0) k, count_mono s k (frame_count s) h)

  pub kept-length : k ≤ frame_count s → length r ≡ length r0
  kept-length h =
      let o : List ℕ = report_to s marks notes (take 6 r0) k in
      let m : length o ≤ 166 = kept-most h in
      let e : length (written o r0) ≡ length r0 = simp (length-append, length-drop) (omega (arith, w.room)) in
      ap length w.bytes ∙ e

  pub kept-room : k < frame_count s → (frame_at s k).kind ≡ reference_byte → at + 5 ≤ length r
  kept-room h e =
      omega (arith, w.place, w.room, kept-length (omega arith), report-room s marks notes (take 6 r0) k h e few kept-six)

  pub kept_next : k < frame_count s → (r' : List ℕ) (at' : ℕ)
      → r' ≡ cond (eqb (frame_at s k).kind reference_byte) (sets r at (entry_of (get_or marks k 0) (get_or notes k (pos 0)))) r
      → at' ≡ cond (eqb (frame_at s k).kind reference_byte) (at + 5) at → Kept s marks notes r0 r' at' (k + 1)
  kept_next h r' at' x y =
      let q = report-next s marks notes (take 6 r0) r0 r at k w.bytes w.place (λ e. omega (arith, kept-room h e, kept-length (omega arith))) r' at' x y in
      rw (add-one k) (record { room = w.room; bytes = q.0; place = q.1 })

  pub kept-last : k ≡ frame_count s → (first out : List ℕ) → r0 ≡ sets first 0 out → length out ≡ 6 → 166 ≤ length first
      → r ≡ written (report_to s marks notes out (frame_count s)) first
  kept-last e first out q six h =
      let o : r0 ≡ written out first = q ∙ put_first out first (omega arith) in
      let t : take 6 r0 ≡ out = ap (take 6) o ∙ take_at out (drop (length out) first) 6 six in
      let b : r ≡ written (report_to s marks notes out (frame_count s)) r0 =
      w.bytes ∙ ap (λ (x : List ℕ). written (report_to s marks notes x k) r0) t ∙ ap (λ (n : ℕ). written (report_to s marks notes out n) r0) e in
      let l : length out ≤ length (report_to s marks notes out (frame_count s)) = omega (arith, report-length s marks notes out (frame_count s)) in
      b ∙ ap (written (report_to s marks notes out (frame_count s))) o ∙ written_over (report_to s marks notes out (frame_count s)) out first l
