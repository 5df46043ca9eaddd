-- `log_lines::line::notes_of` meets its contract. Assumes nothing.
use Rattle.std.proofs.Common.{◌≡◌, sym, rules, w32, to_z, of_z}
use Rattle.log_lines.proofs.Pairs.{notes-of-notes}
use Rattle.log_lines.proofs.line.notes_of.Goals as goal

pub returns : goal.returns
returns c =
    let a : to_z w32 (of_z w32 c.in_ok-a.a) ≡ c.in_ok-a.a = search rules in
    let b : to_z w32 (of_z w32 c.in_ok-b.b) ≡ c.in_ok-b.b = search rules in
    let d : to_z w32 (of_z w32 c.in_ok-c.c) ≡ c.in_ok-c.c = search rules in
    let e : to_z w32 (of_z w32 c.in_ok-d.d) ≡ c.in_ok-d.d = search rules in
    rw (a, b, d, e)
    (sym
    (notes-of-notes _ (sym c.in_ok-a.ensures) (sym c.in_ok-b.ensures) (sym c.in_ok-c.ensures) (sym c.in_ok-d.ensures)))
