use mathlib.Core.Path.{◌≡◌, ◌∙◌, ap}
use lib.Dec.{eqb}
use native.Mathlib.Omega.{arith}
use Rattle.std.proofs.Common.{rules, tests}
use Rattle.std.specs.List as list
use Rattle.std.proofs.lemmas.Iterator.{YieldsList-from_slice}
use Rattle.std.proofs.lemmas.Iterator.Search.{position_from_yields_List}
use Rattle.rule.specs.Memory.{position}
use Rattle.rule.proofs.ReaderTables.{found, position-short}
use Rattle.rule.proofs.text.Reader.lookup.Goals as goal

at : (c : goal.After-unwrap_or) → c.unwrap_or.result ≡ position c.args.code c.declared-declared.result.now
at c =
    let p : c.position.result ≡ list.position (λ y. eqb y c.args.code) c.declared-declared.result.now = position_from_yields_List (λ y. eqb y c.args.code) _ _ c.position.result c.position.ensures.ran (YieldsList-from_slice _ c.iter.ensures.rest) (λ x b q k. search (rules, tests)) in
    c.unwrap_or.ensures ∙ found c.args.code c.declared-declared.result.now _ p

pub overflow_cast-result : goal.overflow_cast-result
overflow_cast-result c =
    let e = at c in
    let s = position-short c.args.code c.declared-declared.result.now in
    let f = c.declared-declared.ensures.few in
    omega arith

pub returns : goal.returns
returns c = at c ∙ ap (position c.args.code) c.declared-declared.ensures.names
