-- `rule::names::name_code` meets its contract. The invariant: the letters so far are read, and their number leaves room for one more. Assumes nothing.
use Rattle.std.proofs.Common.{◌≡◌, ◌+◌, ◌*◌, ◌^◌, ◌≤◌, length}
use Rattle.std.specs.List.{fold}
use mathlib.Core.List.{map}
use Rattle.rule.proofs.TokenCodes.{with_letter}
use Rattle.rule.proofs.names.name_code.Given as goal

abbrev pub invariant-loop-b : goal.invariant-loop-b
invariant-loop-b l = record {
  number : l.v ≡ fold with_letter 0 (map (λ y. y.now) l.yielded);
  room : l.v + 10 ≤ 10 * 27 ^ length l.yielded;
  left : length l.yielded + length l.b-iterator.iter.rest.now ≡ length l.word;
}
