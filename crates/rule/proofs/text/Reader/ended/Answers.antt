use mathlib.Core.Path.{ap, sym, ◌∙◌}
use Rattle.rule.specs.Machine.{refused}
use Rattle.rule.proofs.ReaderEnd.{nothing_left, something_left}
use Rattle.rule.proofs.text.Reader.ended.Goals as goal

pub returns-then-t-ne-END_KIND : goal.returns-then-t-ne-END_KIND
returns-then-t-ne-END_KIND c = something_left _ _ _ _ c.peek-t.ensures.is c.args.self.now.within c.if-t-ne-END_KIND.true ∙ ap refused (sym c.from.ensures)

pub returns : goal.returns
returns c = nothing_left _ _ _ _ c.peek-t.ensures.is c.if-t-ne-END_KIND.false
