-- `checker::opening::fresh` meets its contract. Assumes nothing.
use Rattle.std.proofs.Common.{sym, ap, arith}
use Rattle.std.specs.Prelude.{Ok}
use Rattle.rule.proofs.Laws.{passed}
use Rattle.checker.specs.State.{fresh_state}
use Rattle.checker.specs.declared.State.{State}
use Rattle.checker.proofs.opening.fresh.Goals as goal

pub overflow_cast-n : goal.overflow_cast-n
overflow_cast-n c =
    record { fits = omega (arith, (passed c.args.frames.now c.requires.0).whole.most) }

pub copied-bytes-requires : goal.copied-bytes-requires
copied-bytes-requires c =
    (passed c.args.frames.now c.requires.0).whole.most

pub returns : goal.returns
unfolding fresh_state
returns c =
    rw (sym c.copied-bytes.ensures, sym c.from-number.ensures, sym c.requires.1)
    (ap (λ (s : State). record { answer = Ok tt; state = s }) c.at_first.ensures)
