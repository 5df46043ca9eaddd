-- `checker::feeding::feed_admitted` meets its contract. Assumes nothing.
use Rattle.std.proofs.Common.{sym, arith, length-take-le}
use Rattle.checker.proofs.CodeStateTest.{ready_facts}
use Rattle.checker.proofs.feeding.feed_admitted.Goals as goal

pub slice_bounds-starts_at-end : goal.slice_bounds-starts_at-end
slice_bounds-starts_at-end c =
    let p = c.requires in
    sym (length-take-le _ _ (omega (arith, p.long, (ready_facts p).few)))

pub starts_at-starts-requires : goal.starts_at-starts-requires
starts_at-starts-requires c =
    let f = ready_facts c.requires in
    record { accepted = f.accepted; instance_in = f.totals.low }
