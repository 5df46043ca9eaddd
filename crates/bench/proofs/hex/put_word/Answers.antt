-- `bench::hex::put_word` puts four bytes. Assumes nothing.
use Rattle.std.proofs.Common.{◌≡◌, length, ◌∙◌, ap, arith}
use Rattle.std.specs.Int.{w32, to_be_bytes}
use lib.Seq.{sets}
use Rattle.bench.proofs.HexLaws.{word_is, put_mid_sets}
use Rattle.bench.proofs.hex.put_word.Goals as goal

pub returns : goal.returns
returns c =
    let new = c.copy_from_slice.new.self in
    let a : new ≡ to_be_bytes w32 c.args.w = c.copy_from_slice.ensures.after ∙ c.to_be_bytes.ensures in
    let l : length new ≡ 4 = ap length a in
    put_mid_sets c.args.at _ c.args.bytes.now new (omega arith) (omega arith) ∙ ap (sets c.args.bytes.now c.args.at) (a ∙ word_is c.args.w c.ranges.w.fits)
