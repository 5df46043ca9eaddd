-- Lists of feeding and pulling calls. From document 01, "Feeding, pulling and the window". Assumes nothing: definitions.
use Rattle.std.specs.Prelude.{ℕ, List, [], ◌∷◌, ℤ}
use Rattle.checker.specs.Answer.{Answer}
use Rattle.checker.specs.Feed.{feed_def}
use Rattle.checker.specs.Pull.{pull_def}
use Rattle.checker.specs.declared.State.{State}

-- "Every line and every report buffer, with whatever it holds, is an argument of its own call"
pub data Call : Type 0 where
  feed : (line : List ℕ) → Call
  pull : (buffer : List ℕ) → Call

-- "each answer with its number and place and each report buffer after its pull"
pub data Out : Type 0 where
  fed : Answer → Out
  pulled : Answer → (report : List ℕ) → Out

-- one call: what it gives, and what it "hands .. on"
pub record Step (S : Type 0) : Type 0 where
  pub out : Out
  pub next : S

-- "a list of feeding and pulling calls": what it gives, call by call, and where it ends
module _ {S : Type 0} (step : S → Call → Step S) where
  -- "After every list, each answer .. and each report buffer after its pull"
  unfoldable pub outs : List Call → S → List Out
  outs [] s = []
  outs (c ∷ cs) s = (step s c).out ∷ outs cs (step s c).next

  -- what stands "after the last call"
  unfoldable pub end : List Call → S → S
  end [] s = s
  end (c ∷ cs) s = end cs (step s c).next

-- ---- the checker: "the state and window", which a caller holds between calls
pub record Checker : Type 0 where
  pub state : State
  pub words : List ℤ

-- "A refused call hands both on too"
abbrev pub checker : Checker → Call → Step Checker
checker k (feed line) =
    record {
      out = fed (feed_def k.state k.words line).answer;
      next = record { state = (feed_def k.state k.words line).state; words = (feed_def k.state k.words line).words };
    }
checker k (pull buffer) =
    record {
      out = pulled (pull_def k.state k.words buffer).answer (pull_def k.state k.words buffer).report;
      next = record { state = (pull_def k.state k.words buffer).state; words = k.words };
    }
