-- `bench::run::report_part` is the report, where the buffer has as many bytes as any report. Assumes nothing.
use Rattle.bench.proofs.RunLaws.{report-part}
use Rattle.bench.proofs.run.report_part.Goals as goal

pub returns : goal.returns
returns c = report-part c.args.report.now c.min.result (rw c.from.ensures at c.min.ensures) c.requires
