-- `verdict::evaluate::judge_body` meets its contract. Assumes nothing.
use mathlib.Core.Path.{ap, ◌∙◌}
use native.Mathlib.Omega.{arith}
use borrow.Author.Rules.{rules}
use lib.IntN.{pos}
use lib.ListN.{get_or}
use lib.Signed.{nat_abs-le}
use mir.ValLaws.{to_z-of_z}
use mir.Syntax.{w32}
use mir.Val.{SFits}
use Rattle.verdict.specs.Pass.{first_t}
use Rattle.verdict.proofs.Loop.{begun, again, one-cond, last}
use Rattle.verdict.proofs.evaluate.judge_body.Goals as goal

pub step-requires : goal.step-requires
step-requires c =
    let a = c.args in
    let l = c.loop-k in
    let x = c.frame_at in
    let z = get_or a.notes.now l.k (pos 0) in
    let f : SFits w32 z = search rules in
    rw (to_z-of_z w32 z f)
    (begun a.scale a.frames.now a.i.0 a.marks.now a.notes.now c.requires l.pass l.k l.invariant x.result x.ensures (nat_abs-le z f.sfits) (omega arith))

pub loop-k-preserved : goal.loop-k-preserved
loop-k-preserved c =
    let a = c.args in
    let l = c.loop-k in
    let x = c.frame_at in
    let z = get_or a.notes.now l.k (pos 0) in
    let f : SFits w32 z = search rules in
    again a.scale a.frames.now a.i.0 a.marks.now a.notes.now c.requires l.pass l.k l.invariant x.result x.ensures (nat_abs-le z f.sfits) _
    (rw (to_z-of_z w32 z f) at c.step.ensures)

pub pop-requires : goal.pop-requires
pop-requires c =
    let a = c.args in
    let l = c.loop-k in
    let e = one-cond a.scale a.frames.now a.i.0 a.marks.now a.notes.now c.requires l.pass l.k l.invariant (omega arith) in
    (omega arith, omega arith)

pub returns : goal.returns
returns c =
    let a = c.args in
    let l = c.loop-k in
    c.judged.ensures ∙ rw (← ap first_t c.pop.ensures) (last a.scale a.frames.now a.i.0 a.marks.now a.notes.now c.requires l.pass l.k l.invariant (omega arith))
