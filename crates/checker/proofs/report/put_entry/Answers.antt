-- `checker::report::put_entry` meets its contract. Assumes nothing.
use Rattle.std.proofs.Common.{◌≡◌, ℕ, ◌+◌, ◌-◌, List, [], set, ◌∙◌, add-one, arith, length-set, w32, to_z, of_z, to_z-of_z, rules}
use Rattle.rule.specs.Tree.{word_bytes}
use Rattle.checker.proofs.PullReport.{part-sets, word-bytes}
use Rattle.checker.proofs.report.put_entry.Goals as goal

pub returns : goal.returns
returns c =
    let a = c.args in
    let l : List ℕ = set a.report.now a.at a.mark in
    let same : to_z w32 (of_z w32 a.note) ≡ a.note = to_z-of_z {w = w32} (search rules) in
    let bytes : c.copy_from_slice.new.self ≡ word_bytes (of_z w32 a.note) [] =
    c.copy_from_slice.ensures.after ∙ c.to_be_bytes.ensures ∙ rw same (word-bytes (of_z w32 a.note) (search rules)) in
    let four : a.at + 5 - (a.at + 1) ≡ 4 = omega arith in
    rw (four, bytes) (part-sets (a.at + 1) l (word_bytes (of_z w32 a.note) []) (simp length-set (omega (arith, c.requires))) ∙ rw (add-one a.at))
