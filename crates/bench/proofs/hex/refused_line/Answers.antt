-- `bench::hex::refused_line` is the line of EE, number and place. Assumes nothing.
use Rattle.bench.specs.Print.{hex_of}
use Rattle.bench.proofs.hex.refused_line.Goals as goal

pub returns : goal.returns
unfolding hex_of
returns c = rw (c.put_line.ensures.line, c.number.ensures, c.to_be_bytes.ensures, c.place.ensures)
