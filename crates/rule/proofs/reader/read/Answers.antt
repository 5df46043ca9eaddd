use mathlib.Core.Path.{refl, sym, ap, subst, ◌∙◌}
use native.Mathlib.Omega.{arith}
use mathlib.Core.List.{List}
use Prim.Native.Nat.{ℕ}
use lib.ListN.{length, replicate}
use borrow.Author.Tests.{eqb-true, eqb-false}
use Rattle.rule.specs.Machine.{MachineAnswer}
use Rattle.rule.specs.Memory.{Mem}
use Rattle.rule.specs.ReadTold.{ReadAnswer}
use Rattle.rule.proofs.ReaderEnd.{OkA}
use Rattle.rule.proofs.ReaderConclusion.{one, two_none, two-many, three, starts, judged_ok, kept-name, kept-number, kept-decimals}
use Rattle.rule.proofs.reader.read.Goals.{then-is_empty-via-then-is_empty, then-is_empty-via-else-is_empty+then-text-gt-TEXT_LIMIT}
use Rattle.rule.proofs.reader.read.Goals as goal

pub returns-then-frames-ne-BUFFER_BYTES : goal.returns-then-frames-ne-BUFFER_BYTES
returns-then-frames-ne-BUFFER_BYTES c =
    let e = one c.args.text.now c.args.frames.now c.if-frames-ne-BUFFER_BYTES.true in
    rw e (refl, refl)

pub returns-then-is_empty : goal.returns-then-is_empty
returns-then-is_empty c =
    elim c.then-is_empty.branch [
      | then-is_empty-via-then-is_empty w ↦
          let e = two_none c.args.text.now c.args.frames.now c.if-frames-ne-BUFFER_BYTES.false (eqb-true _ _ (sym c.is_empty.ensures ∙ w.if-is_empty.true)) in
          rw e (refl, refl)
      | then-is_empty-via-else-is_empty+then-text-gt-TEXT_LIMIT w ↦
          let e = two-many c.args.text.now c.args.frames.now c.if-frames-ne-BUFFER_BYTES.false (eqb-false _ _ (sym c.is_empty.ensures ∙ w.if-is_empty.false)) w.if-text-gt-TEXT_LIMIT.true in
          rw e (refl, refl)
    ]

pub overflow_cast-result : goal.overflow_cast-result
overflow_cast-result c =
    let j = starts c.args.text.now (replicate 12 0) c.default.result c.default.ensures ∙ c.in-Err.ensures in
    let o = subst (λ (a : MachineAnswer Mem). OkA c.args.text.now (length c.args.text.now) a) j (judged_ok c.args.text.now) in
    let l = c.if-text-gt-TEXT_LIMIT.false in
    omega arith

pub conclude-requires : goal.conclude-requires
conclude-requires c =
    let j = starts c.args.text.now (replicate 12 0) c.default.result c.default.ensures ∙ c.in_default.ensures in
    let o = subst (λ (a : MachineAnswer Mem). OkA c.args.text.now (length c.args.text.now) a) j (judged_ok c.args.text.now) in
    let l = c.if-text-gt-TEXT_LIMIT.false in
    (c.if-frames-ne-BUFFER_BYTES.false, (let y = kept-name _ _ _ _ o in omega arith), (let y = kept-number _ _ _ _ o in omega arith), (let y = kept-decimals _ _ _ _ o in omega arith))

pub returns-in-Err : goal.returns-in-Err
returns-in-Err c =
    let j = starts c.args.text.now (replicate 12 0) c.default.result c.default.ensures ∙ c.in-Err.ensures in
    let e = three c.args.text.now c.args.frames.now _ c.if-frames-ne-BUFFER_BYTES.false (eqb-false _ _ (sym c.is_empty.ensures ∙ c.if-is_empty.false)) c.if-text-gt-TEXT_LIMIT.false j in
    rw e (refl, refl)

pub returns : goal.returns
returns c =
    let j = starts c.args.text.now (replicate 12 0) c.default.result c.default.ensures ∙ c.in_default.ensures in
    let e = three c.args.text.now c.args.frames.now _ c.if-frames-ne-BUFFER_BYTES.false (eqb-false _ _ (sym c.is_empty.ensures ∙ c.if-is_empty.false)) c.if-text-gt-TEXT_LIMIT.false j in
    let s = c.conclude.ensures in
    (s.0 ∙ sym (ap (λ (x : ReadAnswer × List ℕ). x.0) e), s.1 ∙ sym (ap (λ (x : ReadAnswer × List ℕ). x.1) e))
