-- `bench::output::Output::put_line` puts a line behind what waits. Assumes nothing.
use Rattle.std.proofs.Common.{List, ℕ, length, ap, arith, length-take-le}
use Rattle.bench.specs.Print.{hex_line}
use Rattle.bench.proofs.HexLaws.{line-length}
use Rattle.bench.proofs.RunLaws.{ends_more, put_behind}
use Rattle.bench.proofs.output.Output.put_line.Goals as goal

pub returns : goal.returns
returns c =
    let line : List ℕ = hex_line c.args.bytes.now in
    let p = c.put_line-self-inside.ensures in
    let l = line-length c.args.bytes.now in
    let f = length-take-le c.self.inside.full c.self.inside.bytes.now (omega arith) in
    let e = put_behind c.self.inside.bytes.now line c.self.inside.full c.put_line-self-inside.result (omega (arith, c.requires, c.make_room.ensures.room, ap length c.self.view_is)) (omega arith) in
    rw (p.line, e, c.self.view_is) (ends_more line c.make_room.ensures.end)
