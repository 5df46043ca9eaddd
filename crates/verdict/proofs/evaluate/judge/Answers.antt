-- `verdict::evaluate::judge` meets its contract. Assumes nothing.
use mathlib.Core.Path.{◌≡◌, ◌∙◌}
use mathlib.Core.List.{List}
use Prim.Native.Nat.{ℕ, ◌-◌, ◌*◌, ◌≤◌}
use native.Mathlib.Omega.{arith}
use lib.IntN.{ℤ}
use lib.ListN.{length, take, drop, length-drop}
use lib.Seq.{take_all}
use Rattle.rule.specs.Limits.{frame_limit, frame_bytes}
use Rattle.rule.specs.Scale.{note_decimals, head_frames, scale_of, body}
use Rattle.rule.specs.Stack.{HeadIs}
use Rattle.rule.specs.declared.Head.{Head}
use Rattle.rule.proofs.Laws.{Passed, passed, head_few, decimals-few, body-length, body-part}
use Rattle.verdict.specs.Marks.{Judgeable}
use Rattle.verdict.specs.Pass.{body_judgement, judgement_of}
use Rattle.verdict.specs.Stacks.{BodyJudgeable}
use Rattle.verdict.proofs.evaluate.judge.Goals as goal

-- the rest of a slice, as the code takes it
rest : {A : Type 0} {s : List ℕ} {h : Head} → HeadIs s h → (l : List A) → take (length l - h.frames) (drop h.frames l) ≡ drop (head_frames (scale_of s)) l
rest {A} {s} i l =
    let d = length-drop (head_frames (scale_of s)) l in
    rw i.frames (take_all (length l - head_frames (scale_of s)) (drop (head_frames (scale_of s)) l) (omega arith))

-- what judge requires is what the body's judging requires
bodied : {s : List ℕ} {i : ℕ} {marks : List ℕ} {notes : List ℤ} → Judgeable s i marks notes
    → BodyJudgeable (note_decimals (scale_of s)) (body s) i (drop (head_frames (scale_of s)) marks) (drop (head_frames (scale_of s)) notes)
bodied {s} {i} {marks} {notes} j =
    let p : Passed s = passed s j.accepted in
    let b = body-length s in
    let n : length s ≤ frame_limit * frame_bytes = p.whole.most in
    let w = length-drop (head_frames (scale_of s) * frame_bytes) s in
    let x = length-drop (head_frames (scale_of s)) marks in
    let y = length-drop (head_frames (scale_of s)) notes in
    record {
      short = omega arith;
      scale_in = decimals-few s p.head;
      order = record { most = _; few = (head_few s).most-few; order = p.order };
      sizes = p.sizes;
      instance_in = j.instance_in;
      marked = omega (arith, j.marked);
      noted = omega (arith, j.noted);
    }

same-judgement : (s : List ℕ) (h : Head) (k : HeadIs s h) (i : ℕ) (marks : List ℕ) (notes : List ℤ) (t m : List ℕ) (n : List ℤ) → t ≡ body s → m ≡ drop (head_frames (scale_of s)) marks → n ≡ drop (head_frames (scale_of s)) notes
    → body_judgement h.decimals t i m n ≡ judgement_of s i marks notes
unfolding judgement_of
same-judgement s h k i marks notes t m n e f g = rw (k.decimals, e, f, g)

same_body : (s : List ℕ) (h : Head) (k : HeadIs s h) (i : ℕ) (marks : List ℕ) (notes : List ℤ) (t m : List ℕ) (n : List ℤ) → t ≡ body s → m ≡ drop (head_frames (scale_of s)) marks → n ≡ drop (head_frames (scale_of s)) notes
    → Judgeable s i marks notes → BodyJudgeable h.decimals t i m n
same_body s h k i marks notes t m n e f g j = rw (k.decimals, e, f, g) (bodied j)

pub judge_body-requires : goal.judge_body-requires
judge_body-requires c =
    let a = c.args in
    let k = c.head_of-head.ensures in
    same_body a.frames.now c.head_of-head.result k a.i.0 a.marks.now a.notes.now _ _ _ (body-part k) (rest k a.marks.now) (rest k a.notes.now) c.requires

pub returns : goal.returns
returns c =
    let a = c.args in
    let k = c.head_of-head.ensures in
    c.judge_body.ensures ∙ same-judgement a.frames.now c.head_of-head.result k a.i.0 a.marks.now a.notes.now _ _ _ (body-part k) (rest k a.marks.now) (rest k a.notes.now)
