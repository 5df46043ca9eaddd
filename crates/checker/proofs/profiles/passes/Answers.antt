-- `checker::profiles::passes` meets its contract. Assumes nothing.
use Rattle.std.proofs.Common.{rules}
use Rattle.std.proofs.lemmas.Result.{MatchResult-weaker}
use Rattle.checker.proofs.ProfileLaws.{admitted}
use Rattle.checker.proofs.profiles.passes.Goals as goal

pub returns : goal.returns
returns c =
    admitted c.try_from.result c.args.number c.args.width c.args.n c.is_ok_and.result c.try_from.ensures
    (MatchResult-weaker c.try_from.result c.is_ok_and.ensures (λ x k. search rules) (λ x k. k))
