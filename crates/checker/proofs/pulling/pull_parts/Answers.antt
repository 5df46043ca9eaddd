-- `checker::pulling::pull_parts` meets its contract. Assumes nothing.
use Rattle.std.proofs.Common.{length, sym, lt-ltb}
use Rattle.std.proofs.lemmas.Result.{err_from_is_err_and}
use Rattle.checker.specs.Parts.{state_of}
use Rattle.checker.proofs.Admissions.{pull-barred}
use Rattle.checker.proofs.PullOffer.{pull_14}
use Rattle.checker.proofs.pulling.pull_parts.Goals as goal

pub returns-in_err-admit : goal.returns-in_err-admit
returns-in_err-admit c =
    let a = c.args in
    let e = c.in_err-admit in
    let p = err_from_is_err_and c.from_residual.result c.from_residual.ensures.1 in
    rw (p.1, p.2) (pull-barred (state_of a.frames.now a.fields.now) a.window.now e.field-0.0 e.ensures.told e.ensures.no_place a.report.now)

pub returns-then-report-lt-REPORT_LEAST : goal.returns-then-report-lt-REPORT_LEAST
returns-then-report-lt-REPORT_LEAST c =
    let a = c.args in
    pull_14 (state_of a.frames.now a.fields.now) a.window.now a.report.now (sym c.in_ok-admit.ensures.told) (lt-ltb (length a.report.now) 166 c.if-report-lt-REPORT_LEAST.true)
