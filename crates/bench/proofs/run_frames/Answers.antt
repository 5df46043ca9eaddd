-- `bench::run_frames` hands on what an opening gave, which 12, 13 and 27 let through. Assumes nothing.
use Rattle.std.proofs.Common.{ap, rules}
use Rattle.rule.proofs.Laws.{bytes-by}
use Rattle.checker.specs.Answer.{open_told}
use Rattle.checker.specs.declared.Profile.TheVariants.{Desk}
use Rattle.bench.proofs.RunLaws.{ready-opened}
use Rattle.bench.proofs.run_frames.Goals as goal

pub begin-requires : goal.begin-requires
begin-requires c =
    let o = c.open_rule-opened in
    let a = c.args in
    let f = c.fields_of-fields in
    let b = bytes-by a.frames.now (λ i h. (c.type_inv.frames i).fits) in
    let t = ap open_told c.in_ok-opened.was in
    ready-opened Desk a.frames.now o.result.state.frames 64 _ o.result _ f.result b t (search rules) f.ensures o.ensures
