-- `bench::hex::put_line` puts the bytes' digits and LF, one byte after the other. Assumes nothing.
use Rattle.std.proofs.Common.{◌+◌, ◌*◌, arith}
use Rattle.bench.proofs.HexLaws.{line-next, line-last}
use Rattle.bench.proofs.hex.put_line.Goals as goal

pub loop-k-preserved : goal.loop-k-preserved
loop-k-preserved c =
    let l = c.loop-k in
    line-next c.args.bytes.now c.args.out.now c.args.at l.out (c.args.at + 2 * l.k) l.k l.invariant c.loop-k-test.true _ _ _ c.glyph.ensures c.glyph-in-loop-k.ensures (omega arith)

pub returns-clause-line : goal.returns-clause-line
returns-clause-line c =
    let l = c.loop-k in
    line-last c.args.bytes.now c.args.out.now c.args.at l.out (c.args.at + 2 * l.k) l.k l.invariant _ c.loop-k-test.false (omega (arith, l.auto.k-end))
