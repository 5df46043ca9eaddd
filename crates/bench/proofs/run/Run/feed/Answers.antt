-- `bench::run::Run::feed` feeds a line to a checker that 12, 13 and 27 let through, and counts its answer. Assumes nothing.
use Rattle.std.proofs.Common.{ap}
use Rattle.checker.specs.Feed.{FeedResult}
use Rattle.bench.specs.Progress.{fed_line}
use Rattle.bench.proofs.RunLaws.{fed_in}
use Rattle.bench.proofs.run.Run.feed.Goals as goal

pub invariant_of-self : goal.invariant_of-self
invariant_of-self c = fed_in _ c.self.invariant _ _ c.args.line.now c.feed_admitted-answer.ensures

pub returns : goal.returns
unfolding fed_line
returns c =
    let f = c.feed_admitted-answer.ensures in
    let a = ap (λ (x : FeedResult). x.answer) f in
    let s = ap (λ (x : FeedResult). x.state) f in
    let w = ap (λ (x : FeedResult). x.words) f in
    rw (← c.self.view_is, c.count.ensures, a, s, w)
