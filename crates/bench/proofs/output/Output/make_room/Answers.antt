-- `bench::output::Output::make_room` leaves all that waits, or nothing. Assumes nothing.
use Rattle.std.proofs.Common.{length, ap, arith, length-take-le}
use Rattle.bench.proofs.RunLaws.{ends-all}
use Rattle.bench.proofs.output.Output.make_room.Goals as goal

pub returns-then-self-gt-ROOMY-clause-end : goal.returns-then-self-gt-ROOMY-clause-end
returns-then-self-gt-ROOMY-clause-end c =
    rw c.flush.ensures (ends-all c.args.self.now (omega (arith, length-take-le c.self.inside.full c.self.inside.bytes.now, ap length c.self.view_is)))
