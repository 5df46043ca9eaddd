-- `checker::pricing::price_sum` meets its contract. Assumes nothing.
use Rattle.std.proofs.Common.{◌<◌, ◌≤◌, length, take, ◌∙◌, add-one, arith, length-take, length-append, rules}
use Rattle.std.proofs.lemmas.List.{get_or-take}
use Rattle.std.proofs.lemmas.Slice.Zip.{zip_turn, zip_end}
use Rattle.checker.specs.Tariff.{last_limit}
use Rattle.checker.proofs.Prices.{BandIs, priced_first, priced_here, priced_next, priced_beyond, fits, rise-at, range_at, sum-within}
use Rattle.checker.proofs.pricing.price_sum.Goals.{In-Some}
use Rattle.checker.proofs.pricing.price_sum.Goals as goal

-- this turn's band
band : (c : In-Some) → BandIs c.args.t (length c.loop-last.yielded) c.in-Some.last.now c.in-Some.price.now
band c =
    let t = c.args.t in
    let j = length c.loop-last.yielded in
    let z = zip_turn (take t.bands t.lasts) (take t.bands t.prices) c.loop-last.yielded c.into_iter-last-iterator.result c.loop-last.last-iterator
    c.next.new.self c.next.result (search rules) (search rules) c.loop-last.yielded_by (c.in-Some.last, c.in-Some.price) c.in-Some.is c.next.ensures.steps in
    let h : j < t.bands = omega (arith, z.0, length-take t.bands t.lasts) in
    record {
      within = h;
      last_is = z.2 0 ∙ get_or-take t.bands t.lasts j 0 h;
      price_is = z.3 0 ∙ get_or-take t.bands t.prices j 0 h;
    }

pub shared_ref_as_front-iter : goal.shared_ref_as_front-iter
shared_ref_as_front-iter c = (fits c.args.t c.requires.0 c.requires.1.0).few

pub loop-last-init : goal.loop-last-init
loop-last-init c = priced_first _ _

pub amount-requires : goal.amount-requires
amount-requires c =
    let f = fits c.args.t c.requires.0 c.requires.1.0 in
    let b = band (goal.at-amount-requires c).In-Some in
    (omega (arith, c.requires.1.1), omega (arith, b.price_is, range_at c.args.t f.range _ b.within))

pub returns-then-n-last : goal.returns-then-n-last
returns-then-n-last c =
    let f = fits c.args.t c.requires.0 c.requires.1.0 in
    let l = c.loop-last in
    let b = band (goal.at-returns-then-n-last c).In-Some in
    priced_here c.args.t f c.args.n _ l.sum l.priced c.amount.result l.invariant c.in-Some.last.now c.in-Some.price.now b c.if-n-last.true c.amount.ensures

pub overflow_add-result : goal.overflow_add-result
overflow_add-result c =
    let f = fits c.args.t c.requires.0 c.requires.1.0 in
    omega (arith, returns-then-n-last c, sum-within c.args.t f c.args.n c.requires.1.1)

pub overflow_sub-last : goal.overflow_sub-last
overflow_sub-last c =
    let f = fits c.args.t c.requires.0 c.requires.1.0 in
    let b = band (goal.at-overflow_sub-last c).In-Some in
    omega (arith, c.loop-last.invariant.last, b.last_is, (rise-at c.args.t f.rise _ b.within).0)

pub amount-sum-requires : goal.amount-sum-requires
amount-sum-requires c =
    let f = fits c.args.t c.requires.0 c.requires.1.0 in
    let b = band (goal.at-amount-sum-requires c).In-Some in
    (omega (arith, b.last_is, (rise-at c.args.t f.rise _ b.within).1), omega (arith, b.price_is, range_at c.args.t f.range _ b.within))

pub loop-last-preserved : goal.loop-last-preserved
loop-last-preserved c =
    let f = fits c.args.t c.requires.0 c.requires.1.0 in
    let l = c.loop-last in
    let b = band (goal.at-loop-last-preserved c).In-Some in
    rw (length-append, add-one) (priced_next c.args.t f c.args.n _ l.sum l.priced c.amount-sum.result l.invariant c.in-Some.last.now c.in-Some.price.now b c.if-n-last.false c.amount-sum.ensures)

pub overflow_add-sum : goal.overflow_add-sum
overflow_add-sum c =
    let f = fits c.args.t c.requires.0 c.requires.1.0 in
    let most : c.in-Some.last.now ≤ last_limit = omega (arith, c.if-n-last.false, c.requires.1.1) in
    omega (arith, (loop-last-preserved c).summed, sum-within c.args.t f c.in-Some.last.now most)

pub amount-requires-2 : goal.amount-requires-2
amount-requires-2 c = (omega (arith, c.requires.1.1), (fits c.args.t c.requires.0 c.requires.1.0).beyond)

pub returns : goal.returns
returns c =
    let t = c.args.t in
    let f = fits t c.requires.0 c.requires.1.0 in
    let l = c.loop-last in
    let e = zip_end (take t.bands t.lasts) (take t.bands t.prices) l.yielded c.into_iter-last-iterator.result l.last-iterator
    c.next.new.self c.next.result (search rules) (search rules) l.yielded_by c.in-None.is c.next.ensures.steps in
    let h : t.bands ≤ length l.yielded = omega (arith, e, f.few, length-take t.bands t.lasts, length-take t.bands t.prices) in
    priced_beyond t f c.args.n _ l.sum l.priced c.amount-2.result l.invariant h c.amount-2.ensures

pub overflow_add-result-2 : goal.overflow_add-result-2
overflow_add-result-2 c =
    let f = fits c.args.t c.requires.0 c.requires.1.0 in
    omega (arith, returns c, sum-within c.args.t f c.args.n c.requires.1.1)
