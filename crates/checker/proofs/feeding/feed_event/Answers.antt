-- `checker::feeding::feed_event` meets its contract. Assumes nothing.
use Rattle.std.proofs.Common.{ℕ, get_or, ap, ◌∙◌, arith}
use Rattle.checker.specs.Parts.{state_of}
use Rattle.checker.specs.Ring.{notes_of, kept}
use Rattle.checker.proofs.Admissions.{in_long, in_sum}
use Rattle.checker.proofs.CodeStateTest.{ready_facts}
use Rattle.checker.proofs.CodeFeed.{known-at, low_is, high_skipped, none-skipped, many-turned, full-turned, room-taken, taken_as}
use Rattle.checker.proofs.feeding.feed_event.Goals as goal

pub returns-then-event-ge-EVENT_LIMIT : goal.returns-then-event-ge-EVENT_LIMIT
returns-then-event-ge-EVENT_LIMIT c =
    let a = c.args in
    high_skipped c.requires.0 (λ i. (c.type_inv.frames i).fits) c.requires.1 a.line.event (notes_of a.line.notes) c.if-event-ge-EVENT_LIMIT.true

pub returns-in_default : goal.returns-in_default
returns-in_default c =
    let a = c.args in
    none-skipped c.requires.0 (λ i. (c.type_inv.frames i).fits) c.requires.1 a.line.event (notes_of a.line.notes) c.if-event-ge-EVENT_LIMIT.false
    (known-at c.args.bases _ c.known.ensures (omega arith) c.in_default.is)

pub returns-then-c-ge-LINE_LIMIT : goal.returns-then-c-ge-LINE_LIMIT
returns-then-c-ge-LINE_LIMIT c =
    let a = c.args in
    many-turned c.requires.0 (λ i. (c.type_inv.frames i).fits) c.requires.1 a.line.event c.if-event-ge-EVENT_LIMIT.false (known-at c.args.bases _ c.known.ensures (omega arith) c.in-Some.is) (notes_of a.line.notes) c.if-c-ge-LINE_LIMIT.true

pub overflow_add-low : goal.overflow_add-low
overflow_add-low c =
    let l = low_is c.requires.0 (λ i. (c.type_inv.frames i).fits) c.requires.1 c.args.line.event c.if-event-ge-EVENT_LIMIT.false (known-at c.args.bases _ c.known.ensures (omega arith) c.in-Some.is) in
    omega (arith, l.1.1, (ready_facts c.requires.0).most)

pub returns-then-low-width : goal.returns-then-low-width
returns-then-low-width c =
    let a = c.args in
    full-turned c.requires.0 (λ i. (c.type_inv.frames i).fits) c.requires.1 a.line.event c.if-event-ge-EVENT_LIMIT.false (known-at c.args.bases _ c.known.ensures (omega arith) c.in-Some.is) (notes_of a.line.notes) c.if-c-ge-LINE_LIMIT.false c.if-low-width.true

pub invariant_of-slot : goal.invariant_of-slot
invariant_of-slot c =
    let f = ready_facts c.requires.0 in
    record { some = f.some; most = f.most; event_in = c.if-event-ge-EVENT_LIMIT.false }

pub keep-sum-requires : goal.keep-sum-requires
keep-sum-requires c =
    let s = state_of c.args.frames.now c.args.fields.now in
    record { long = in_long s c.args.window.now c.requires.0.let_in; sum_is = in_sum s c.args.window.now c.requires.0.let_in }

pub returns : goal.returns
returns c =
    let a = c.args in
    let l = low_is c.requires.0 (λ i. (c.type_inv.frames i).fits) c.requires.1 a.line.event c.if-event-ge-EVENT_LIMIT.false (known-at c.args.bases _ c.known.ensures (omega arith) c.in-Some.is) in
    let t = room-taken c.requires.0 (λ i. (c.type_inv.frames i).fits) c.requires.1 a.line.event c.if-event-ge-EVENT_LIMIT.false (known-at c.args.bases _ c.known.ensures (omega arith) c.in-Some.is) (notes_of a.line.notes) c.if-c-ge-LINE_LIMIT.false c.if-low-width.false in
    let w = c.keep-sum.ensures.0 ∙ ap (λ (x : ℕ). kept a.window.now a.fields.now.width a.line.event x (get_or a.fields.now.counts a.line.event 0) (notes_of a.line.notes)) l.1.0 in
    taken_as a.frames.now a.fields.now c.count_line.new.self c.keep-sum.result a.window.now _ _ a.line.event (notes_of a.line.notes) t (c.count_line.ensures a.frames.now) c.keep-sum.ensures.1.sum_is w
