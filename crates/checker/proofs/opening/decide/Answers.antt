-- `checker::opening::decide` meets its contract. Assumes nothing.
use Rattle.std.proofs.Common.{sym}
use Rattle.std.proofs.lemmas.Result.{err_from_is_err_and}
use Rattle.checker.proofs.CodeOpen.{decided_by, decided_frames}
use Rattle.checker.proofs.opening.decide.Goals as goal

pub returns-in_err-check : goal.returns-in_err-check
returns-in_err-check c = λ win l.
    let a = c.args in
    let p = err_from_is_err_and c.from_residual.result c.from_residual.ensures.1 in
    rw (p.1, p.2) (decided_frames a.profile a.frames.now a.width win _ _ (sym c.in_err-check.ensures))

pub returns : goal.returns
returns c = λ win l.
    let a = c.args in
    decided_by a.profile a.frames.now a.width win (sym c.in_ok-check.ensures) c.fits.result (rw l c.fits.ensures)
