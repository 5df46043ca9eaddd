-- After every list of calls: exactly when a pull waits, that a verdict has a present reference, exactly when a line is accepted or
-- finds the window full, and what the window holds; exactly when opening is not refused. Assumes nothing.
use Rattle.std.proofs.Common.{◌≡◌, ℕ, ◌+◌, ◌<◌, ◌≤◌, Bool, true, false, cond, ltb, leb, ◌≢◌, ◌↔◌, List, [], ◌∷◌, length, get_or, ℤ, pos, sym, refl, ap, ◌∙◌, subst, arith, ltb-false, le-ltb, le-leb, leb-false, leb-true}
use borrow.Author.Tests.{lt-leb}
use Rattle.rule.specs.Tree.{Reference, references}
use Rattle.rule.specs.Build.{tree_of}
use Rattle.rule.specs.Check.{checked_of}
use Rattle.log_lines.specs.Line.{line_of}
use Rattle.log_lines.specs.Line as log
use Rattle.numbers.proofs.Bools.{true-false}
use Rattle.verdict.specs.Found.{meant, present, pending, Lookup, found_by, resolve, by_lists, given_in, is_present, is_pending, some_of}
use Rattle.verdict.specs.Value.{value}
use Rattle.verdict.specs.Settled.{settled_by, verdict_of, settled}
use Rattle.verdict.specs.declared.Occurrence.{Occurrence}
use Rattle.std.specs.Prelude.{Option, Some, None}
use Rattle.verdict.specs.declared.Truth.{Truth}
use Rattle.verdict.specs.declared.Verdict.{Verdict}
use Rattle.verdict.proofs.Laws.{none_so}
use Rattle.checker.specs.Limits.{line_limit, report_least}
use Rattle.checker.specs.Answer.{Answer, opened, accepted, ignored, waiting, verdict, refused}
use Rattle.checker.specs.Base.{referenced, base, SomeNotVoid}
use Rattle.checker.specs.State.{count_of, zero_state}
use Rattle.checker.specs.Ring.{word_at}
use Rattle.checker.specs.StateTest.{rule_passes, state_passes}
use Rattle.checker.specs.Admission.{admission}
use Rattle.checker.specs.Feed.{turned, skipped, taken, feed_event, feed_read, feed_answer, feed_def}
use Rattle.checker.specs.Pull.{short, offered, pull_read, pull_answer, pull_def}
use Rattle.checker.specs.Calls.{Call, feed, pull, end, Checker, checker}
use Rattle.checker.specs.Machine.{Machine, at_first, tally_of, machine_for}
use Rattle.checker.specs.Demand.{Unrefused, fresh, answer_of}
use Rattle.checker.specs.declared.Profile.{Profile}
use Rattle.checker.proofs.Simulation.{count-of, out_step}
use Rattle.checker.proofs.Bases.{referenced-below}
use Rattle.checker.proofs.Fresh.{opened-fine, first_on}
use Rattle.checker.proofs.Lists.{in_step}

-- ---- answers told apart by a number; a refusal has 5 more than its own
abbrev code_of : Answer → ℕ
code_of opened = 0
code_of accepted = 1
code_of ignored = 2
code_of waiting = 3
code_of (verdict v) = 4
code_of (refused number place) = 5 + number

-- ---- when a pull waits
waits-by : (t s : Bool) (v : Verdict) → pull_answer (cond t short (offered (cond s (Some v) None))) ≡ waiting → (t ≡ false) × (s ≡ false)
waits-by true s v q = absurd (let z : 19 ≡ 3 = ap code_of q in omega arith)
waits-by false true v q = absurd (let z : 4 ≡ 3 = ap code_of q in omega arith)
waits-by false false v q = (refl, refl)

by-waits : (t s : Bool) (v : Verdict) → t ≡ false → s ≡ false → pull_answer (cond t short (offered (cond s (Some v) None))) ≡ waiting
by-waits t s v p q = rw (p, q)

-- ---- a verdict is handed out only where a reference is present
gives-by : (t s : Bool) (v v' : Verdict) → pull_answer (cond t short (offered (cond s (Some v) None))) ≡ verdict v' → s ≡ true
gives-by true s v v' q = absurd (let z : 19 ≡ 4 = ap code_of q in omega arith)
gives-by false true v v' q = refl
gives-by false false v v' q = absurd (let z : 3 ≡ 4 = ap code_of q in omega arith)

pending-or-present : (l : Lookup) (e n : ℕ) (m : Option Occurrence) → m ≢ None → is_present (found_by l e n m) ≡ false → is_pending (found_by l e n m) ≡ true
pending-or-present l e n None q h = absurd (q refl)
pending-or-present l e n (Some k) q h = go (ltb k.0 (l.count e)) h
  where
    go : (t : Bool) → is_present (cond t (present (l.note_at e n k.0)) pending) ≡ false → is_pending (cond t (present (l.note_at e n k.0)) pending) ≡ true
    go true h = absurd (true-false h)
    go false h = refl

some-present : (l : Lookup) (i : ℕ) (rs : List Reference) (t : Truth) → SomeNotVoid rs i
    → settled_by (some_of is_pending (resolve l i) rs) (some_of is_present (resolve l i) rs) t ≡ true → some_of is_present (resolve l i) rs ≡ true
some-present l i rs t s = go (some_of is_present (resolve l i) rs) (some_of is_pending (resolve l i) rs) refl refl
  where
    go : (a b : Bool) → some_of is_present (resolve l i) rs ≡ a → some_of is_pending (resolve l i) rs ≡ b → settled_by b a t ≡ true → a ≡ true
    go true b p q h = refl
    go false true p q h = absurd (true-false (sym h))
    go false false p q h =
        let r = s.reference in
        let z = pending-or-present l r.event r.note (meant i r) s.not_void (none_so is_present (resolve l i) rs p r s.one) in
        absurd (true-false (sym z ∙ none_so is_pending (resolve l i) rs q r s.one))

-- ---- when a line is accepted, and when the window is full
module _ (e : ℕ) (notes : List ℤ) where
  abbrev answered : Bool → Bool → Bool → Answer
  answered r a b = feed_answer (cond r (cond a (turned 16 0) (cond b (turned 17 0) (taken e notes))) skipped)

  accepted-by : (r a b : Bool) → answered r a b ≡ accepted → (r ≡ true) × (a ≡ false) × (b ≡ false)
  accepted-by true true b q = absurd (let z : 21 ≡ 1 = ap code_of q in omega arith)
  accepted-by true false true q = absurd (let z : 22 ≡ 1 = ap code_of q in omega arith)
  accepted-by true false false q = (refl, refl, refl)
  accepted-by false a b q = absurd (let z : 2 ≡ 1 = ap code_of q in omega arith)

  full_by : (r a b : Bool) → answered r a b ≡ refused 17 0 → (r ≡ true) × (a ≡ false) × (b ≡ true)
  full_by true true b q = absurd (let z : 21 ≡ 22 = ap code_of q in omega arith)
  full_by true false true q = (refl, refl, refl)
  full_by true false false q = absurd (let z : 1 ≡ 22 = ap code_of q in omega arith)
  full_by false a b q = absurd (let z : 2 ≡ 22 = ap code_of q in omega arith)

  by-accepted : (r a b : Bool) → r ≡ true → a ≡ false → b ≡ false → answered r a b ≡ accepted
  by-accepted r a b p q h = rw (p, q, h)

  by-full : (r a b : Bool) → r ≡ true → a ≡ false → b ≡ true → answered r a b ≡ refused 17 0
  by-full r a b p q h = rw (p, q, h)

module _ {profile : Profile} {frames : List ℕ} {w : ℕ} {win : List ℤ} (o : Unrefused profile frames w win) (cs : List Call) where
  abbrev machine_end : Machine
  machine_end = end (machine_for frames w) cs (at_first frames)

  abbrev checker_end : Checker
  checker_end = end checker cs (fresh profile frames w win)

  -- the answer to one call more
  pull-answer : (buffer : List ℕ) → (pull_def (end checker cs (fresh profile frames w win)).state (end checker cs (fresh profile frames w win)).words buffer).answer
      ≡ pull_answer (pull_read (tree_of frames) (given_in machine_end.lists machine_end.next) (length buffer))
  pull-answer buffer = ap answer_of (out_step frames w (opened-fine o) machine_end checker_end (in_step o cs) (pull buffer))

  feed-answer : (line : List ℕ) → (feed_def (end checker cs (fresh profile frames w win)).state (end checker cs (fresh profile frames w win)).words line).answer
      ≡ feed_answer (feed_read (references (tree_of frames)) w (tally_of machine_end) (line_of line))
  feed-answer line = ap answer_of (out_step frames w (opened-fine o) machine_end checker_end (in_step o cs) (feed line))

  pub waiting_exactly : (buffer : List ℕ) → ((pull_def (end checker cs (fresh profile frames w win)).state (end checker cs (fresh profile frames w win)).words buffer).answer ≡ waiting)
      ↔ ((report_least ≤ length buffer) × (settled (given_in (end (machine_for frames w) cs (at_first frames)).lists (end (machine_for frames w) cs (at_first frames)).next) (tree_of frames) ≡ false))
  unfolding pull_read
  waiting_exactly buffer =
      let a = pull-answer buffer in
      let t = ltb (length buffer) report_least in
      let g = given_in machine_end.lists machine_end.next in
      let s = settled g (tree_of frames) in
      let v = verdict_of (value g (tree_of frames)) in (
        λ q. (let h = waits-by t s v (sym a ∙ q) in (ltb-false (length buffer) report_least h.0, h.1)),
        λ h. a ∙ by-waits t s v (le-ltb (length buffer) report_least h.0) h.1,
      )

  pub verdict-present : (buffer : List ℕ) (v : Verdict)
      → (pull_def (end checker cs (fresh profile frames w win)).state (end checker cs (fresh profile frames w win)).words buffer).answer ≡ verdict v
      → some_of is_present (given_in (end (machine_for frames w) cs (at_first frames)).lists (end (machine_for frames w) cs (at_first frames)).next).found (references (tree_of frames)) ≡ true
  unfolding pull_read
  verdict-present buffer v q =
      let g = given_in machine_end.lists machine_end.next in
      let t = value g (tree_of frames) in
      some-present (by_lists machine_end.lists) machine_end.next (references (tree_of frames)) t
      ((first_on o machine_end.next).1 (in_step o cs).sound.begun)
      (gives-by (ltb (length buffer) report_least) (settled g (tree_of frames)) (verdict_of t) v (sym (pull-answer buffer) ∙ q))

  module _ (line : List ℕ) (e : ℕ) (a b c d : ℤ) (l : line_of line ≡ log.line e a b c d) where
    line-answer : (feed_def (end checker cs (fresh profile frames w win)).state (end checker cs (fresh profile frames w win)).words line).answer
        ≡ answered e (a ∷ b ∷ c ∷ d ∷ []) (referenced (references (tree_of frames)) e) (leb line_limit (count_of (tally_of machine_end) e)) (leb (base (references (tree_of frames)) e machine_end.next + w) (count_of (tally_of machine_end) e))
    unfolding feed_event
    line-answer = feed-answer line ∙ ap (λ x. feed_answer (feed_read (references (tree_of frames)) w (tally_of machine_end) x)) l

    count_e : referenced (references (tree_of frames)) e ≡ true → count_of (tally_of machine_end) e ≡ length (machine_end.lists e)
    count_e r = count-of machine_end e (referenced-below 8 (references (tree_of frames)) e (λ x h. ((opened-fine o).limits x h).event) r)

    pub accepted_exactly : ((feed_def (end checker cs (fresh profile frames w win)).state (end checker cs (fresh profile frames w win)).words line).answer ≡ accepted)
        ↔ ((referenced (references (tree_of frames)) e ≡ true) × (length ((end (machine_for frames w) cs (at_first frames)).lists e) < line_limit)
        × (length ((end (machine_for frames w) cs (at_first frames)).lists e) < base (references (tree_of frames)) e (end (machine_for frames w) cs (at_first frames)).next + w))
    accepted_exactly =
        let n = count_of (tally_of machine_end) e in
        let B = base (references (tree_of frames)) e machine_end.next + w in (
          λ q. (let h = accepted-by e (a ∷ b ∷ c ∷ d ∷ []) (referenced (references (tree_of frames)) e) (leb line_limit n) (leb B n) (sym line-answer ∙ q) in
              (h.0, subst (λ (x : ℕ). x < line_limit) (count_e h.0) (leb-false line_limit n h.1), subst (λ (x : ℕ). x < B) (count_e h.0) (leb-false B n h.2))),
          λ h. line-answer ∙ by-accepted e (a ∷ b ∷ c ∷ d ∷ []) (referenced (references (tree_of frames)) e) (leb line_limit n) (leb B n) h.0
              (lt-leb line_limit n (subst (λ (x : ℕ). x < line_limit) (sym (count_e h.0)) h.1)) (lt-leb B n (subst (λ (x : ℕ). x < B) (sym (count_e h.0)) h.2)),
        )

    pub full_exactly : ((feed_def (end checker cs (fresh profile frames w win)).state (end checker cs (fresh profile frames w win)).words line).answer ≡ refused 17 0)
        ↔ ((referenced (references (tree_of frames)) e ≡ true) × (length ((end (machine_for frames w) cs (at_first frames)).lists e) < line_limit)
        × (base (references (tree_of frames)) e (end (machine_for frames w) cs (at_first frames)).next + w ≤ length ((end (machine_for frames w) cs (at_first frames)).lists e)))
    full_exactly =
        let n = count_of (tally_of machine_end) e in
        let B = base (references (tree_of frames)) e machine_end.next + w in (
          λ q. (let h = full_by e (a ∷ b ∷ c ∷ d ∷ []) (referenced (references (tree_of frames)) e) (leb line_limit n) (leb B n) (sym line-answer ∙ q) in
              (h.0, subst (λ (x : ℕ). x < line_limit) (count_e h.0) (leb-false line_limit n h.1), subst (λ (x : ℕ). B ≤ x) (count_e h.0) (leb-true B n h.2))),
          λ h. line-answer ∙ by-full e (a ∷ b ∷ c ∷ d ∷ []) (referenced (references (tree_of frames)) e) (leb line_limit n) (leb B n) h.0
              (lt-leb line_limit n (subst (λ (x : ℕ). x < line_limit) (sym (count_e h.0)) h.1)) (le-leb B n (subst (λ (x : ℕ). B ≤ x) (sym (count_e h.0)) h.2)),
        )

  pub window-holds : (e k n : ℕ) → e < 8 → base (references (tree_of frames)) e (end (machine_for frames w) cs (at_first frames)).next ≤ k → k < length ((end (machine_for frames w) cs (at_first frames)).lists e) → n < 4
      → get_or (end checker cs (fresh profile frames w win)).words (word_at w e k n) (pos 0) ≡ get_or (get_or ((end (machine_for frames w) cs (at_first frames)).lists e) k []) n (pos 0)
  window-holds = (in_step o cs).sim.live

-- ---- the state of a refused opening
pub zero-feed : (win : List ℤ) (line : List ℕ) → (feed_def zero_state win line).answer ≡ refused 12 0
unfolding feed_def admission state_passes rule_passes checked_of
zero-feed win line = refl

pub zero-pull : (win : List ℤ) (buffer : List ℕ) → (pull_def zero_state win buffer).answer ≡ refused 12 0
unfolding pull_def admission state_passes rule_passes checked_of
zero-pull win buffer = refl
