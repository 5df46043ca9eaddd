-- The plain machine. From document 01, "Feeding, pulling and the window". Assumes nothing: definitions.
use Rattle.std.specs.Prelude.{ℕ, zero, suc, ◌+◌, cond, List, [], ◌∷◌, ◌++◌, length, ℤ, ◌==◌}
use Rattle.rule.specs.Limits.{event_limit}
use Rattle.rule.specs.Tree.{RuleTree, references}
use Rattle.rule.specs.Build.{tree_of}
use Rattle.log_lines.specs.Line.{line_of}
use Rattle.verdict.specs.Found.{Given, given_in}
use Rattle.verdict.specs.declared.Verdict.{Verdict}
use Rattle.checker.specs.Base.{first_for}
use Rattle.checker.specs.State.{no_totals, counted, Tally}
use Rattle.checker.specs.Feed.{FeedRead, turned, skipped, taken, feed_read, feed_answer}
use Rattle.checker.specs.Pull.{PullRead, short, waits, gave, pull_read, pull_answer, pull_report}
use Rattle.checker.specs.Calls.{Call, feed, pull, fed, pulled, Step}
use Rattle.checker.specs.declared.Totals.{Totals}

-- plain machine is the document's term. "per event the list of its accepted lines, each as its four notes, empty at first; the
-- number p .. and a total for each of the verdicts, 0 at first"; next is p, the instance of the next verdict
pub record Machine : Type 0 where
  pub lists : ℕ → List (List ℤ)
  pub next : ℕ
  pub totals : Totals

-- f at 0, 1, .., n - 1, for what there is "per event"
unfoldable pub tabulated : {A : Type 0} → ℕ → (ℕ → A) → List A
tabulated zero f = []
tabulated (suc n) f = f zero ∷ tabulated n (λ k. f (suc k))

-- "An event's count is the length of its list"
abbrev pub tally_of : Machine → Tally
tally_of m = record { counts = tabulated event_limit (λ (e : ℕ). length (m.lists e)); next = m.next; totals = m.totals }

-- "its four notes join the end of its event's list as one entry"
unfoldable pub joined : Machine → ℕ → List ℤ → Machine
joined m e notes =
    record {
      lists = λ (f : ℕ). cond (f == e) (m.lists f ++ (notes ∷ [])) (m.lists f);
      next = m.next;
      totals = m.totals;
    }

-- "p and that verdict's total go up by 1"
unfoldable pub moved : Machine → Verdict → Machine
moved m v = record { lists = m.lists; next = m.next + 1; totals = counted m.totals v }

-- "A refused line or pull, an ignored line and 'waiting' change nothing"
abbrev pub after_feed : Machine → FeedRead → Machine
after_feed m (turned number place) = m
after_feed m skipped = m
after_feed m (taken e notes) = joined m e notes

-- "A refused line or pull .. and 'waiting' change nothing"
abbrev pub after_pull : Machine → PullRead → Machine
after_pull m short = m
after_pull m waits = m
after_pull m (gave v) = moved m v

-- "It has the rule and W that opening was given", and is fed the line of each feed and the report buffer of each pull
module _ (rule : RuleTree) (w : ℕ) where
  -- "Feeding: a line that 15 names is refused .. Any other line is accepted"
  abbrev pub machine_feed : Machine → List ℕ → FeedRead
  machine_feed m line = feed_read (references rule) w (tally_of m) (line_of line)

  -- "instance p .. by the lists": what is given of it
  abbrev pub given_now : Machine → Given
  given_now m = given_in m.lists m.next

  -- "Pulling: a buffer that 14 names is refused with 14. If instance p is settled by the lists, the answer is its verdict"
  abbrev pub machine_pull : Machine → List ℕ → PullRead
  machine_pull m buffer = pull_read rule (given_now m) (length buffer)

  -- "The plain machine runs beside a list of feeding and pulling calls": one call
  abbrev pub machine : Machine → Call → Step Machine
  machine m (feed line) = record { out = fed (feed_answer (machine_feed m line)); next = after_feed m (machine_feed m line) }
  machine m (pull buffer) =
      record {
        out = pulled (pull_answer (machine_pull m buffer))
            (pull_report m.next (references rule) (given_now m).found buffer (machine_pull m buffer));
        next = after_pull m (machine_pull m buffer);
      }

-- "the rule and W that opening was given", the rule as frames
abbrev pub machine_for : List ℕ → ℕ → Machine → Call → Step Machine
machine_for frames w = machine (tree_of frames) w

-- "empty at first .. 0 at first", and document 02, point 2: "the plain machine's p begin there too"; the rule as frames
abbrev pub at_first : List ℕ → Machine
at_first frames = record { lists = λ e. []; next = first_for frames; totals = no_totals }
