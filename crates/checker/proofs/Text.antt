-- From a rule's text to the verdicts that are handed out: what `read` fills is the frames of what the text means, and each verdict
-- is that of the value of the tree that the frames are of. Assumes nothing.
use Rattle.std.proofs.Common.{◌≡◌, ℕ, ◌+◌, ◌*◌, ◌<◌, List, length, get_or, take, ℤ, ap, ◌∙◌}
use Rattle.rule.specs.Limits.{frame_bytes}
use Rattle.rule.specs.Token.{tokens}
use Rattle.rule.specs.Grammar.{Rule, yield, words}
use Rattle.rule.specs.Tree.{RuleTree}
use Rattle.rule.specs.Meaning.{meaning}
use Rattle.rule.specs.Reading.{read_of}
use Rattle.rule.specs.ReadTold as reading
use Rattle.rule.proofs.Main.{read-tree, read-bytes}
use Rattle.verdict.specs.Found.{given_in}
use Rattle.verdict.specs.Value.{value}
use Rattle.verdict.specs.Settled.{verdict_of}
use Rattle.verdict.specs.declared.Verdict.TheVariants.{Unknown}
use Rattle.checker.specs.Answer.{opened}
use Rattle.checker.specs.Base.{first_for}
use Rattle.checker.specs.Open.{open_def}
use Rattle.checker.specs.Calls.{Call}
use Rattle.checker.specs.Demand.{machine_after, handed_out}
use Rattle.checker.specs.declared.Profile.{Profile}
use Rattle.checker.proofs.Value.{value_of}

module _ (text buffer filled : List ℕ) (n : ℕ) (r : read_of text buffer ≡ (reading.frames n, filled)) (x : Rule) (spelled : yield x ≡ words (tokens text)) where
  pub text-to-verdict : (profile : Profile) (w : ℕ) (win : List ℤ) → (open_def profile (take (n * frame_bytes) filled) w win).answer ≡ opened → (cs : List Call) (i : ℕ)
      → i < length (handed_out profile (take (n * frame_bytes) filled) w win cs)
      → get_or (handed_out profile (take (n * frame_bytes) filled) w win cs) i Unknown
      ≡ verdict_of (value (given_in (machine_after (take (n * frame_bytes) filled) w cs).lists (first_for (take (n * frame_bytes) filled) + i)) (meaning text x))
  text-to-verdict profile w win o cs i h =
      value_of (record { bytes = read-bytes text buffer n filled r; answer = o }) cs i h
      ∙ ap (λ (t : RuleTree). verdict_of (value (given_in (machine_after (take (n * frame_bytes) filled) w cs).lists (first_for (take (n * frame_bytes) filled) + i)) t)) (read-tree text buffer n filled r x spelled)
