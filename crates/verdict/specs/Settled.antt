-- Settled instances and their verdicts. From document 01, "Verdicts". Assumes nothing: definitions.
use Rattle.std.specs.Prelude.{Bool, cond, not, ◌&&◌, ◌||◌, Option, Some, None}
use Rattle.rule.specs.Tree.{RuleTree, references}
use Rattle.verdict.specs.Found.{Given, is_present, is_pending, some_of}
use Rattle.verdict.specs.Kleene.{is_known}
use Rattle.verdict.specs.Value.{value}
use Rattle.verdict.specs.declared.Truth.{Truth}
use Rattle.verdict.specs.declared.Verdict.{Verdict}

-- settled is the document's term: "if no reference is pending, or if at least one is present and the rule is true or false"
abbrev pub settled_by : Bool → Bool → Truth → Bool
settled_by some_pending some_present t = not some_pending || (some_present && is_known t)

-- "The verdict of a settled instance is the rule's value": the verdict that a truth value is
abbrev pub verdict_of : Truth → Verdict
verdict_of Truth.True = Verdict.True
verdict_of Truth.False = Verdict.False
verdict_of Truth.Unknown = Verdict.Unknown

-- "The verdict of a settled instance is the rule's value": of another there is none
abbrev pub judged_by : Bool → Bool → Truth → Option Verdict
judged_by some_pending some_present t = cond (settled_by some_pending some_present t) (Some (verdict_of t)) None

module _ (g : Given) (t : RuleTree) where
  -- "An instance is settled": of a rule, by what is given
  abbrev pub settled : Bool
  settled = settled_by (some_of is_pending g.found (references t)) (some_of is_present g.found (references t)) (value g t)

  -- what is said of an instance: "The verdict of a settled instance is the rule's value"
  abbrev pub judgement : Option Verdict
  judgement = judged_by (some_of is_pending g.found (references t)) (some_of is_present g.found (references t)) (value g t)
