-- `log_lines::earlier::loss_of` finds the first of three notes that 16 bits can't hold. The invariant: they hold those before it.
-- Assumes nothing.
use Rattle.std.proofs.Common.{◌≡◌, true, ◌<◌}
use Rattle.log_lines.specs.Earlier.{holds16}
use Rattle.log_lines.proofs.earlier.loss_of.Given as goal

abbrev pub invariant-loop-note : goal.invariant-loop-note
invariant-loop-note l = record {
  first : 0 < l.note-index → holds16 l.fn.notes.0 ≡ true;
  second : 1 < l.note-index → holds16 l.fn.notes.1 ≡ true;
  third : 2 < l.note-index → holds16 l.fn.notes.2 ≡ true;
}
