-- `log_lines::earlier::put_raised` meets its contract. Assumes nothing.
use Rattle.std.proofs.Common.{◌+◌, ◌-◌, ◌∙◌, ap, arith, List, ℕ, take, drop, map}
use Rattle.std.proofs.Math.Seq.{sets}
use Rattle.log_lines.specs.Digit.{capital}
use Rattle.log_lines.proofs.Copies.{signs-put, put-note}
use Rattle.log_lines.proofs.earlier.put_raised.Goals as goal

pub returns : goal.returns
returns c =
    let a = c.args in
    let signs = signs-put a.line.now _ a.at _ (omega arith) (c.fill.ensures.after (λ y h. h)) in
    c.put_capitals.ensures
    ∙ ap (λ (l : List ℕ). sets l (a.at + 4) (map capital (take (a.from + 4 - a.from) (drop a.from a.old.now)))) signs
    ∙ put-note a.line.now a.old.now a.at a.from _ _ c.requires.1.1 c.requires.1.0 (omega arith) c.sign.ensures
