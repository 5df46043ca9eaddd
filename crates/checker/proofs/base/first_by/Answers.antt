-- `checker::base::first_by` meets its contract. Assumes nothing.
use Rattle.std.proofs.Common.{◌≡◌, w32, to_z, of_z, to_z-of_z, rules}
use Rattle.checker.proofs.CodeBase.{first_below}
use Rattle.checker.proofs.base.first_by.Goals as goal

pub returns-then-offset-lt0 : goal.returns-then-offset-lt0
returns-then-offset-lt0 c =
    let a = c.args in
    let same : to_z w32 (of_z w32 a.offset) ≡ a.offset = to_z-of_z {w = w32} (search rules) in
    rw (c.div_ceil.ensures, c.from.ensures, c.unsigned_abs.ensures.value, same) (first_below a.factor a.offset c.requires.0 (rw same at c.if-offset-lt0.true))
