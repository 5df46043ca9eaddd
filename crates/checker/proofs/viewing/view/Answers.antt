-- `checker::viewing::view` meets its contract. Assumes nothing.
use Rattle.std.proofs.Common.{length, arith, le-ltb, lt-ltb}
use Rattle.checker.specs.Limits.{report_least}
use Rattle.checker.specs.View.{view_def}
use Rattle.checker.proofs.viewing.view.Goals as goal

-- under 166 bytes
pub returns-then-report-lt-REPORT_LEAST-clause-told : goal.returns-then-report-lt-REPORT_LEAST-clause-told
unfolding view_def
returns-then-report-lt-REPORT_LEAST-clause-told c = rw (lt-ltb (length c.args.report.now) report_least (omega arith))

-- 166 bytes and more
pub returns-clause-told : goal.returns-clause-told
unfolding view_def
returns-clause-told c = rw (le-ltb (length c.args.report.now) report_least (omega arith))
