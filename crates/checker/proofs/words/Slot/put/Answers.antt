-- `checker::words::Slot::put` meets its contract. Assumes nothing.
use Rattle.std.proofs.Common.{◌≡◌, ℕ, ◌+◌, ◌-◌, ◌%◌, ◌^◌, ◌<◌, length, get_or, set, pos, ap, ◌∙◌, ap₂, arith, length-set, w32, to_z, of_z, to_z-of_z, rules}
use Rattle.checker.specs.Sum.{bits_of, sum_of}
use Rattle.checker.proofs.SumLaws.{sum-put}
use Rattle.checker.proofs.CodeRing.{word-most}
use Rattle.checker.proofs.words.Slot.put.Goals as goal

pub returns : goal.returns
returns c =
    let a = c.args in
    let win = a.window.now in
    let at = c.word-at.result in
    let within : at < length win = omega (arith, c.word-at.ensures, c.requires.1.long, word-most a.self.width a.self.event a.self.k.0 a.note a.self.some a.self.event_in c.requires.0) in
    let old-same : to_z w32 (of_z w32 (get_or win at (pos 0))) ≡ get_or win at (pos 0) = to_z-of_z {w = w32} (search rules) in
    let new-same : to_z w32 (of_z w32 a.z) ≡ a.z = to_z-of_z {w = w32} (search rules) in
    let old : c.cast_unsigned.result ≡ bits_of (get_or win at (pos 0)) = c.cast_unsigned.ensures ∙ ap (of_z w32) old-same in
    let new : c.cast_unsigned-2.result ≡ bits_of a.z = c.cast_unsigned-2.ensures ∙ ap (of_z w32) new-same in
    let less : ℕ = (a.sum + (4294967296 - c.cast_unsigned.result)) % 4294967296 in
    let taken-off : (less + bits_of (get_or win at (pos 0))) % 2 ^ 32 ≡ sum_of win = rw (← old, ← c.requires.1.sum_is) (omega arith) in (
      ap₂ (set win) c.word-at.ensures new-same,
      record {
        long = length-set win at _ ∙ c.requires.1.long;
        sum_is = rw (new, new-same) (sum-put win at less a.z within taken-off);
      },
    )
