use mathlib.Core.Path.{◌≡◌, refl, sym, ap, ◌∙◌}
use Rattle.std.proofs.Common.{rules}
use Rattle.std.specs.Prelude.{Err}
use Rattle.rule.specs.Memory.{mem}
use Rattle.rule.specs.Reading.{after_check}
use Rattle.rule.specs.CheckTold.{CheckAnswer, check_told}
use Rattle.rule.specs.ReadsPart.{remembered}
use Rattle.rule.proofs.ReaderConclusion.{four, five, eighteen, six-deep, six-frames, seven_eight}
use Rattle.rule.proofs.reader.conclude.Goals.{then-m-via-then-m, then-m-via-else-m+then-m-gt-FRAME_LIMIT}
use Rattle.rule.proofs.reader.conclude.Goals as goal

pub returns-in-Some : goal.returns-in-Some
returns-in-Some c =
    let x = c.args.reader.now in
    let e = four c.args.frames.now x.memory x.names x.frames _ c.in-Some.is in
    rw e (refl, refl)

pub returns-in-Some-number : goal.returns-in-Some-number
returns-in-Some-number c =
    let x = c.args.reader.now in
    let e = five c.args.frames.now x.memory x.names x.frames _ c.in_default.is c.in-Some-number.is in
    rw e (refl, refl)

pub returns-in-Some-decimals : goal.returns-in-Some-decimals
returns-in-Some-decimals c =
    let x = c.args.reader.now in
    let e = eighteen c.args.frames.now x.memory x.names x.frames _ c.in_default.is c.in_default-number.is c.in-Some-decimals.is in
    rw e (refl, refl)

pub returns-then-m : goal.returns-then-m
returns-then-m c =
    let x = c.args.reader.now in
    elim c.then-m.branch [
      | then-m-via-then-m w ↦
          let e = six-deep c.args.frames.now x.memory x.names x.frames c.in_default.is c.in_default-number.is c.in_default-decimals.is w.if-m.true in
          rw e (refl, refl)
      | then-m-via-else-m+then-m-gt-FRAME_LIMIT w ↦
          let e = six-frames c.args.frames.now x.memory x.names x.frames c.in_default.is c.in_default-number.is c.in_default-decimals.is w.if-m.false w.if-m-gt-FRAME_LIMIT.true in
          rw e (refl, refl)
    ]

pub returns-in_err-check : goal.returns-in_err-check
returns-in_err-check c =
    let x = c.args.reader.now in
    let e = seven_eight c.args.frames.now x.memory x.names x.frames c.in_default.is c.in_default-number.is c.in_default-decimals.is c.if-m.false c.if-m-gt-FRAME_LIMIT.false in
    let q = e ∙ ap (λ (a : CheckAnswer). after_check c.args.frames.now (remembered x) a) (sym c.check.ensures ∙ ap check_told c.in_err-check.was) in
    let f : c.from_residual.result ≡ Err c.in_err-check.field-0.0 = search rules in
    rw (f, q) (refl, refl)

pub returns : goal.returns
unfolding mem
returns c =
    let x = c.args.reader.now in
    let e = seven_eight c.args.frames.now x.memory x.names x.frames c.in_default.is c.in_default-number.is c.in_default-decimals.is c.if-m.false c.if-m-gt-FRAME_LIMIT.false in
    let q = e ∙ ap (λ (a : CheckAnswer). after_check c.args.frames.now (remembered x) a) (sym c.check.ensures ∙ ap check_told c.in_ok-check.was) in
    rw q (refl, c.copy_from_slice.ensures.after)
