-- Which way a line of an event goes, by the pass over the references of a good state. Assumes nothing.
use Rattle.std.proofs.Common.{◌≡◌, ℕ, ◌+◌, ◌<◌, ◌≤◌, Bool, true, false, List, length, get_or, ℤ, sym, refl, ◌∙◌, arith, le-leb}
use Rattle.std.proofs.lemmas.List.{get_or_default}
use borrow.Author.Tests.{lt-leb}
use Rattle.std.specs.Prelude.{Option, Some, None, Ok, Err, ◌*◌}
use Rattle.rule.specs.Frames.{Bytes}
use Rattle.log_lines.specs.Line.{LineAnswer, line_of}
use Rattle.checker.specs.Limits.{line_limit}
use Rattle.checker.specs.Base.{referenced, base}
use Rattle.checker.specs.State.{with_line, tally_in, with_tally, state_frames, refs_in, with_sum}
use Rattle.checker.specs.Sum.{sum_of}
use Rattle.checker.specs.Parts.{state_of, returned}
use Rattle.checker.specs.Admission.{admitted, admission}
use Rattle.checker.specs.Feed.{FeedRead, taken, feed_event, fed_by, line_in, event_in, feed_def, feed_outcome}
use Rattle.checker.specs.BasePass.{bases_of}
use Rattle.checker.specs.declared.Taken.TheVariants.{Accepted, Ignored}
use Rattle.checker.specs.Ready.{Ready}
use Rattle.checker.specs.declared.refusals.Refusal.TheVariants.{Lines, Full}
use Rattle.checker.specs.declared.parts.Fields.{Fields}
use Rattle.checker.specs.declared.State.{State}
use Rattle.checker.proofs.CodeBase.{bytes_take, within_in, high_none, BaseIs, base-is}
use Rattle.checker.proofs.CodeStateTest.{Facts, ready_facts}

-- ---- what is let through is fed the line
pub fed_by_lem : (s : State) (win : List ℤ) (line : List ℕ) → admission s win ≡ admitted → (d : LineAnswer) → line_of line ≡ d
    → feed_def s win line ≡ fed_by s win (line_in s d)
unfolding feed_def
fed_by_lem s win line a d q = rw (a, q)

-- ---- an event's base says whether it is referenced
base-none : (t : Bool) (b : ℕ) (low : Option ℕ) → BaseIs t b low → low ≡ None → t ≡ false
base-none true b low l e = absurd (let n : Some b ≡ None = sym l.0 ∙ e in cc)
base-none false b low l e = refl

base-some : (t : Bool) (b : ℕ) (low : Option ℕ) (n : ℕ) → BaseIs t b low → low ≡ Some n → (t ≡ true) × ((n ≡ b) × (n ≤ 9099990))
base-some true b low n l e =
    let q : n ≡ b = (let k : Some n ≡ Some b = sym e ∙ l.0 in cc) in
    (refl, (q, omega (arith, l.1)))
base-some false b low n l e = absurd (let k : Some n ≡ None = sym e ∙ l in cc)

-- what the code reads at an event, at any default
pub known-at : (bases : List (Option ℕ)) {e : ℕ} (d : Option ℕ) {known x : Option ℕ} → known ≡ get_or bases e d → e < length bases → known ≡ x → get_or bases e None ≡ x
known-at bases {e} d k l n = get_or_default bases e None d l ∙ sym k ∙ n

-- ---- which way a line of an event goes, with the bases of all events
module _ {frames : List ℕ} {f : Fields} {win : List ℤ} (r : Ready frames f win) (h : (i : ℕ) → get_or frames i 0 < 256)
    {bases : List (Option ℕ)} (q : bases ≡ bases_of (state_frames (state_of frames f)) f.next.0) (e : ℕ) where
  abbrev s : State
  s = state_of frames f

  bytes_in : Bytes (state_frames s)
  bytes_in = bytes_take (f.len * 8) frames h

  facts : Facts s
  facts = ready_facts r

  in_base : e < 8 → BaseIs (referenced (refs_in s) e) (base (refs_in s) e f.next.0) (get_or bases e None)
  in_base l = rw q (base-is bytes_in facts.accepted f.next.0 e facts.totals.low l)

  module _ (notes : List ℤ) where
    pub high_skipped : 8 ≤ e → feed_outcome (returned frames (Ok Ignored) f) win ≡ fed_by (state_of frames f) win (event_in (state_of frames f) e notes)
    unfolding feed_event
    high_skipped l = rw (high_none e (refs_in s) (within_in bytes_in facts.accepted) l)

    pub none-skipped : e < 8 → get_or bases e None ≡ None
        → feed_outcome (returned frames (Ok Ignored) f) win ≡ fed_by (state_of frames f) win (event_in (state_of frames f) e notes)
    unfolding feed_event
    none-skipped l n = rw (base-none (referenced (refs_in s) e) (base (refs_in s) e f.next.0) (get_or bases e None) (in_base l) n)

  module _ (l : e < 8) {low : ℕ} (n : get_or bases e None ≡ Some low) where
    pub low_is : (referenced (refs_in (state_of frames f)) e ≡ true) × ((low ≡ base (refs_in (state_of frames f)) e f.next.0) × (low ≤ 9099990))
    low_is = base-some (referenced (refs_in s) e) (base (refs_in s) e f.next.0) (get_or bases e None) low (in_base l) n

    module _ (notes : List ℤ) where
      pub many-turned : line_limit ≤ get_or f.counts e 0
          → feed_outcome (returned frames (Err Lines) f) win ≡ fed_by (state_of frames f) win (event_in (state_of frames f) e notes)
      unfolding feed_event
      many-turned m = rw (low_is.0, le-leb line_limit (get_or f.counts e 0) m)

      pub full-turned : get_or f.counts e 0 < line_limit → low + f.width ≤ get_or f.counts e 0
          → feed_outcome (returned frames (Err Full) f) win ≡ fed_by (state_of frames f) win (event_in (state_of frames f) e notes)
      unfolding feed_event
      full-turned m k =
          let b : base (refs_in s) e f.next.0 + f.width ≤ get_or f.counts e 0 = omega (arith, low_is.1.0) in
          rw (low_is.0, lt-leb line_limit (get_or f.counts e 0) m, le-leb (base (refs_in s) e f.next.0 + f.width) (get_or f.counts e 0) b)

      pub room-taken : get_or f.counts e 0 < line_limit → get_or f.counts e 0 < low + f.width
          → event_in (state_of frames f) e notes ≡ taken e notes
      unfolding feed_event
      room-taken m k =
          let b : get_or f.counts e 0 < base (refs_in s) e f.next.0 + f.width = omega (arith, low_is.1.0) in
          rw (low_is.0, lt-leb line_limit (get_or f.counts e 0) m, lt-leb (base (refs_in s) e f.next.0 + f.width) (get_or f.counts e 0) b)

-- ---- what the code gives, as a result
pub taken_as : (frames : List ℕ) (f after : Fields) (sum : ℕ) (win win' : List ℤ) (d : FeedRead) (e : ℕ) (notes : List ℤ) → d ≡ taken e notes
    → state_of frames after ≡ with_sum (with_tally (state_of frames f) (with_line (tally_in (state_of frames f)) e)) sum
    → sum ≡ sum_of win'
    → win' ≡ (fed_by (state_of frames f) win (taken e notes)).words
    → feed_outcome (returned frames (Ok Accepted) after) win' ≡ fed_by (state_of frames f) win d
taken_as frames f after sum win win' d e notes k a m b = rw (k, a, m, b)
