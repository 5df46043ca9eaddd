-- `checker::feeding::feed_parts` meets its contract. Assumes nothing.
use Rattle.std.proofs.lemmas.Result.{err_from_is_err_and}
use Rattle.checker.specs.Parts.{state_of}
use Rattle.checker.proofs.Admissions.{feed-barred}
use Rattle.checker.proofs.feeding.feed_parts.Goals as goal

pub returns-in_err-bases : goal.returns-in_err-bases
returns-in_err-bases c =
    let a = c.args in
    let e = c.in_err-bases in
    let p = err_from_is_err_and c.from_residual.result c.from_residual.ensures.1 in
    rw (p.1, p.2) (feed-barred (state_of a.frames.now a.fields.now) a.window.now e.field-0.0 e.ensures.told e.ensures.no_place a.line.now)
