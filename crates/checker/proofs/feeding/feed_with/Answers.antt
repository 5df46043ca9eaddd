-- `checker::feeding::feed_with` meets its contract. Assumes nothing.
use Rattle.std.proofs.Common.{sym, ◌∙◌}
use Rattle.std.proofs.lemmas.Result.{err_from_is_err_and}
use Rattle.log_lines.specs.Line.{line_told}
use Rattle.checker.specs.Parts.{state_of}
use Rattle.checker.proofs.CodeFeed.{fed_by_lem}
use Rattle.checker.proofs.feeding.feed_with.Goals as goal

pub returns-in_err-line : goal.returns-in_err-line
unfolding line_told
returns-in_err-line c =
    let a = c.args in
    let p = err_from_is_err_and c.from_residual.result c.from_residual.ensures.1 in
    rw (p.1, p.2) (sym (fed_by_lem (state_of a.frames.now a.fields.now) a.window.now a.line.now c.requires.0.let_in _ (sym c.in_err-line.ensures)))

pub returns : goal.returns
unfolding line_told
returns c =
    let a = c.args in
    c.feed_event.ensures
    ∙ sym (fed_by_lem (state_of a.frames.now a.fields.now) a.window.now a.line.now c.requires.0.let_in _ (sym c.in_ok-line.ensures))
