-- `checker::opening::open` meets its contract. Assumes nothing.
use Rattle.std.proofs.Common.{ℕ, replicate, pos, refl, ap, ◌∙◌}
use Rattle.checker.proofs.opening.open.Goals as goal

pub returns-in-Ok : goal.returns-in-Ok
returns-in-Ok c =
    let d = c.in-Ok.ensures c.args.window.now refl in
    let w = c.clear.ensures ∙ ap (λ (n : ℕ). replicate n (pos 0)) d.long in
    rw (d.opens, c.fresh.ensures, w)
