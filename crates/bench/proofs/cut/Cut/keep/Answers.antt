-- `bench::cut::Cut::keep` holds the first 35 bytes of a cut line. Assumes nothing.
use Rattle.std.proofs.Common.{◌≡◌, ◌+◌, ◌-◌, ◌++◌, length, take, ap, ◌∙◌, arith, length-take-le}
use Rattle.std.proofs.lemmas.Slice.{take-put_mid}
use Rattle.bench.proofs.CutLaws.{kept_more}
use Rattle.bench.proofs.cut.Cut.keep.Goals as goal

pub returns : goal.returns
returns c =
    let i = c.self.inside in
    let n = c.min.result in
    let new = c.copy_from_slice.new.self in
    let f : length (take i.held i.bytes) ≡ i.held = length-take-le i.held i.bytes (omega (arith, c.self.invariant, c.self.told)) in
    let k = kept_more (take i.held i.bytes) c.args.part.now n (omega (arith, c.self.invariant)) (omega (arith, c.min.ensures)) in
    let e : i.held + n - i.held ≡ n = omega arith in
    let a : new ≡ take n c.args.part.now = rw e at c.copy_from_slice.ensures.after in
    let l : length new ≡ n = ap length a ∙ length-take-le n c.args.part.now (omega (arith, c.min.ensures)) in
    let t = take-put_mid i.held (i.held + n - i.held) i.bytes new (i.held + n) (omega arith) (omega (arith, c.self.invariant, c.self.told)) in
    rw (← c.self.view_is) (t ∙ ap (λ s. take i.held i.bytes ++ s) a ∙ k)
