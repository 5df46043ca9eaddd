use mathlib.Core.Path.{refl, sym, ◌∙◌}
use native.Mathlib.Omega.{arith}
use Rattle.rule.specs.Memory.{acts}
use Rattle.rule.specs.declared.parts.Role.TheVariants.{Event, Note}
use Rattle.rule.proofs.ReaderParts.{recalled}
use Rattle.rule.proofs.ReaderTables.{few, one-event, one-note}
use Rattle.rule.proofs.text.Reader.declare.Goals as goal

pub returns-then-misnamed : goal.returns-then-misnamed
unfolding acts
returns-then-misnamed c = rw (← c.letters.ensures, ← c.name_code-code.ensures, ← c.misnamed.ensures, c.if-misnamed.true) c.blame.ensures

pub bounds-self-self : goal.bounds-self-self
bounds-self-self c =
    let x = c.args.self.now in
    let h = few Event x.memory x.names x.frames c.name_code-code.result (rw c.in-Event.is at (sym c.misnamed.ensures ∙ c.if-misnamed.false)) in
    omega arith

pub overflow_add-self : goal.overflow_add-self
overflow_add-self c =
    let x = c.args.self.now in
    let h = few Event x.memory x.names x.frames c.name_code-code.result (rw c.in-Event.is at (sym c.misnamed.ensures ∙ c.if-misnamed.false)) in
    omega arith

pub overflow_add-self-in-Note : goal.overflow_add-self-in-Note
overflow_add-self-in-Note c =
    let x = c.args.self.now in
    let h = few Note x.memory x.names x.frames c.name_code-code.result (rw c.in-Note.is at (sym c.misnamed.ensures ∙ c.if-misnamed.false)) in
    omega arith

pub bounds-self-self-in-Note : goal.bounds-self-self-in-Note
bounds-self-self-in-Note c =
    let x = c.args.self.now in
    let h = few Note x.memory x.names x.frames c.name_code-code.result (rw c.in-Note.is at (sym c.misnamed.ensures ∙ c.if-misnamed.false)) in
    omega arith

pub returns-in-Event : goal.returns-in-Event
unfolding acts
returns-in-Event c =
    let x = c.args.self.now in
    let h = few Event x.memory x.names x.frames c.name_code-code.result (rw c.in-Event.is at (sym c.misnamed.ensures ∙ c.if-misnamed.false)) in
    rw (← c.letters.ensures, ← c.name_code-code.ensures, ← c.misnamed.ensures, c.if-misnamed.false, c.in-Event.is)
    (recalled (one-event x.memory x.names x.frames c.name_code-code.result (omega arith) h) refl refl refl)

pub returns-in-Note : goal.returns-in-Note
unfolding acts
returns-in-Note c =
    let x = c.args.self.now in
    let h = few Note x.memory x.names x.frames c.name_code-code.result (rw c.in-Note.is at (sym c.misnamed.ensures ∙ c.if-misnamed.false)) in
    rw (← c.letters.ensures, ← c.name_code-code.ensures, ← c.misnamed.ensures, c.if-misnamed.false, c.in-Note.is)
    (recalled (one-note x.memory x.names x.frames c.name_code-code.result (omega arith) h) refl refl refl)
