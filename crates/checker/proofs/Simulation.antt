-- One call: the checker in step with the plain machine gives what the machine gives, and stays in step. Assumes nothing.
use Rattle.std.proofs.Common.{◌≡◌, ℕ, ◌+◌, ◌<◌, ◌≤◌, Bool, true, false, cond, eqb, ltb, leb, ◌≢◌, List, [], ◌∷◌, ◌++◌, length, get_or, set, ℤ, pos, sym, refl, ap, ◌∙◌, subst, ap₂, ⊎_elim, arith, length-append, eq-eqb, eqb-true, leb-false, leb-true}
use mathlib.Core.Path.{fun_ext}
use mathlib.Core.List.{Memᴰ}
use lib.ListN.{get_or-append}
use lib.Seq.{get_or-append_seam}
use Rattle.rule.specs.Tree.{Reference, RuleTree, references, LimitsR}
use Rattle.rule.specs.Build.{tree_of}
use Rattle.rule.specs.Check.{checked_of}
use Rattle.rule.specs.CheckTold as checking
use Rattle.log_lines.specs.Line.{LineAnswer, line_of}
use Rattle.log_lines.specs.Line as log
use Rattle.numbers.proofs.Bools.{and-true, true-and}
use Rattle.verdict.specs.Found.{instance_limit, meant, Found, pending, by_lists, found_in, Given, given_in, is_present, is_pending, some_of}
use Rattle.verdict.specs.Value.{value}
use Rattle.verdict.specs.Settled.{settled_by, verdict_of, judgement}
use Rattle.verdict.specs.Later.{with_found}
use Rattle.verdict.specs.declared.Verdict.{Verdict}
use Rattle.std.specs.Prelude.{Option, Some, None}
use Rattle.verdict.proofs.Main.{own-references}
use Rattle.verdict.proofs.Laws.{SameOn, found-same}
use Rattle.checker.specs.Limits.{window_words, line_limit, report_least}
use Rattle.checker.specs.Profile.{profile_passes}
use Rattle.checker.specs.Base.{referenced, or_zero, base}
use Rattle.checker.specs.State.{Tally, count_of, tally_in, state_frames, refs_in, with_line, with_verdict, with_tally, with_sum}
use Rattle.checker.specs.Ring.{word_at, kept}
use Rattle.checker.specs.Sum.{sum_of}
use Rattle.checker.specs.Found.{by_window, found_in_window, given_in_window}
use Rattle.checker.specs.Open.{width_fits, window_fits}
use Rattle.checker.specs.StateTest.{is_accepted, rule_passes, tally_passes, state_passes}
use Rattle.checker.specs.Admission.{admitted, admission}
use Rattle.checker.specs.Feed.{FeedRead, turned, skipped, taken, feed_event, feed_read, feed_answer, FeedResult, fed_by, fed_if, feed_def}
use Rattle.checker.specs.Pull.{PullRead, short, waits, gave, offered, pull_read, pull_answer, pull_report, PullResult, state_after, pulled_if, pull_def}
use Rattle.checker.specs.Calls.{Call, feed, pull, fed, pulled, Checker, checker}
use Rattle.checker.specs.Machine.{Machine, tabulated, tally_of, joined, moved, after_feed, after_pull, machine_feed, machine_pull, machine_for}
use Rattle.checker.proofs.Choices.{cond_case, less_or, same_or, map-own, get_d_tabulated, updated, set-tabulated}
use Rattle.checker.proofs.Admissions.{let_in}
use Rattle.checker.proofs.Tallies.{Sound, tally-good, sound-line, sound-verdict}
use Rattle.checker.proofs.Ring.{length-kept, kept-other, kept-old, kept_new}
use Rattle.checker.proofs.Bases.{referenced-below, base_le, base_mono, late-pending}

-- what opening has checked of the frames and of W
pub record Fine (frames : List ℕ) (w : ℕ) : Type 0 where
  pub accepted : checked_of frames ≡ checking.accepted
  pub width : width_fits w ≡ true
  pub some : references (tree_of frames) ≡ [] → ⊥
  pub limits : (r : Reference) → Memᴰ r (references (tree_of frames)) → LimitsR r

-- "Each accepted occurrence from base on is found there, all four notes"
abbrev pub Live : List Reference → ℕ → Machine → List ℤ → Type 0
Live refs w m words =
    (e k n : ℕ) → e < 8 → base refs e m.next ≤ k → k < length (m.lists e) → n < 4
    → get_or words (word_at w e k n) (pos 0) ≡ get_or (get_or (m.lists e) k []) n (pos 0)

-- a checker in step with the machine
pub record Sim (frames : List ℕ) (w : ℕ) (m : Machine) (k : Checker) : Type 0 where
  pub rule : state_frames k.state ≡ frames
  pub len : profile_passes k.state.profile k.state.width k.state.len ≡ true
  pub width : k.state.width ≡ w
  pub tally : tally_in k.state ≡ tally_of m
  pub long : length k.words ≡ window_words w
  pub sum : k.state.sum ≡ sum_of k.words
  pub live : Live (references (tree_of frames)) w m k.words

pub record Both (frames : List ℕ) (w : ℕ) (m : Machine) (k : Checker) : Type 0 where
  pub sound : Sound (references (tree_of frames)) w (tally_of m)
  pub sim : Sim frames w m k

-- ---- counts
pub count-of : (m : Machine) (e : ℕ) → e < 8 → count_of (tally_of m) e ≡ length (m.lists e)
count-of m e h = get_d_tabulated 8 (λ (f : ℕ). length (m.lists f)) e 0 h

-- ---- what is known of a line that is taken
abbrev pub Took : List Reference → ℕ → Tally → FeedRead → Type 0
Took refs w t (turned number place) = Unit {0}
Took refs w t skipped = Unit {0}
Took refs w t (taken e notes) = (referenced refs e ≡ true) × (count_of t e < line_limit) × (count_of t e < base refs e t.next + w)

pub took : (refs : List Reference) (w : ℕ) (t : Tally) (l : LineAnswer) → Took refs w t (feed_read refs w t l)
unfolding feed_event
took refs w t (log.refused number place) = tt
took refs w t (log.line e n₀ n₁ n₂ n₃) =
    cond_case (Took refs w t) (referenced refs e) _ _
    (λ q. cond_case (Took refs w t) (leb line_limit (count_of t e)) _ _
    (λ _. tt)
    (λ a. cond_case (Took refs w t) (leb (base refs e t.next + w) (count_of t e)) _ _
    (λ _. tt)
    (λ b. (q, leb-false line_limit (count_of t e) a, leb-false (base refs e t.next + w) (count_of t e) b))))
    (λ _. tt)

-- ---- a line is taken: the machine
tally-joined : (m : Machine) (e : ℕ) (notes : List ℤ) → e < 8 → with_line (tally_of m) e ≡ tally_of (joined m e notes)
unfolding joined
tally-joined m e notes h =
    ap (λ (cs : List ℕ). record { counts = cs; next = m.next; totals = m.totals })
    (ap (set (tabulated 8 (λ (f : ℕ). length (m.lists f))) e) (ap (λ (n : ℕ). n + 1) (count-of m e h))
    ∙ set-tabulated 8 (λ (f : ℕ). length (m.lists f)) e (length (m.lists e) + 1) 0 h
    ∙ ap (tabulated 8) (fun_ext same))
  where
    same : (f : ℕ) → updated (λ (g : ℕ). length (m.lists g)) e (length (m.lists e) + 1) f ≡ length (cond (eqb f e) (m.lists f ++ (notes ∷ [])) (m.lists f))
    same f =
        cond_case (λ (b : ℕ). b ≡ length (cond (eqb f e) (m.lists f ++ (notes ∷ [])) (m.lists f))) (eqb f e) (length (m.lists e) + 1) (length (m.lists f))
        (λ q. rw q (ap (λ (g : ℕ). length (m.lists g) + 1) (sym (eqb-true f e q)) ∙ sym (length-append (m.lists f) (notes ∷ []))))
        (λ q. rw q)

list_same : (m : Machine) (e : ℕ) (notes : List ℤ) → (joined m e notes).lists e ≡ m.lists e ++ (notes ∷ [])
unfolding joined
list_same m e notes = rw (eq-eqb e e refl)

list_other : (m : Machine) (e f : ℕ) (notes : List ℤ) → f ≢ e → (joined m e notes).lists f ≡ m.lists f
unfolding joined
list_other m e f notes h = cond_case (λ (l : List (List ℤ)). l ≡ m.lists f) (eqb f e) _ _ (λ q. absurd (h (eqb-true f e q))) (λ _. refl)

joined-next : (m : Machine) (e : ℕ) (notes : List ℤ) → (joined m e notes).next ≡ m.next
unfolding joined
joined-next m e notes = refl

length-same : (m : Machine) (e : ℕ) (notes : List ℤ) → length ((joined m e notes).lists e) ≡ length (m.lists e) + 1
length-same m e notes = rw (list_same m e notes) (length-append (m.lists e) (notes ∷ []))

-- ---- a line is taken: the window
module _ (refs : List Reference) (w : ℕ) (m : Machine) (words : List ℤ) (wide : 0 < w) (long : length words ≡ window_words w) (live : Live refs w m words) where
  live-joined : (e : ℕ) (notes : List ℤ) → e < 8 → length (m.lists e) < base refs e m.next + w
      → Live refs w (joined m e notes) (kept words w e (base refs e m.next) (length (m.lists e)) notes)
  live-joined e notes he hw f k n hf hb hk hn = ⊎_elim same other (same_or f e)
    where
      old : k < length (m.lists e) → base refs e m.next ≤ k → get_or (kept words w e (base refs e m.next) (length (m.lists e)) notes) (word_at w e k n) (pos 0) ≡ get_or (get_or (m.lists e ++ (notes ∷ [])) k []) n (pos 0)
      old l b =
          kept-old w words notes wide e (base refs e m.next) (length (m.lists e)) k n l (omega arith) hn
          ∙ live e k n he b l hn
          ∙ ap (λ (x : List ℤ). get_or x n (pos 0)) (sym (get_or-append (m.lists e) (notes ∷ []) [] k l))

      new : k ≡ length (m.lists e) → base refs e m.next ≤ k → get_or (kept words w e (base refs e m.next) (length (m.lists e)) notes) (word_at w e k n) (pos 0) ≡ get_or (get_or (m.lists e ++ (notes ∷ [])) k []) n (pos 0)
      new q b =
          rw q
          (kept_new w words notes wide e (base refs e m.next) (length (m.lists e)) n he (omega arith) hn long
          ∙ ap (λ (x : List ℤ). get_or x n (pos 0)) (sym (get_or-append_seam (m.lists e) notes [] [])))

      same : f ≡ e → get_or (kept words w e (base refs e m.next) (length (m.lists e)) notes) (word_at w f k n) (pos 0) ≡ get_or (get_or ((joined m e notes).lists f) k []) n (pos 0)
      same q =
          let b : base refs e m.next ≤ k = rw (q, joined-next m e notes) at hb in
          let h : k < length (m.lists e) + 1 = rw (q, length-same m e notes) at hk in
          rw (q, list_same m e notes) (⊎_elim (λ l. old l b) (λ (l : length (m.lists e) ≤ k). new (omega arith) b) (less_or k (length (m.lists e))))

      other : f ≢ e → get_or (kept words w e (base refs e m.next) (length (m.lists e)) notes) (word_at w f k n) (pos 0) ≡ get_or (get_or ((joined m e notes).lists f) k []) n (pos 0)
      other q =
          kept-other w words notes wide e f (base refs e m.next) (length (m.lists e)) k n q hn
          ∙ live f k n hf (rw (joined-next m e notes) at hb) (rw (list_other m e f notes q) at hk) hn
          ∙ ap (λ (l : List (List ℤ)). get_or (get_or l k []) n (pos 0)) (sym (list_other m e f notes q))

-- ---- a verdict is pulled
no_present : (rs : List Reference) (found : Reference → Found) → ((r : Reference) → Memᴰ r rs → found r ≡ pending) → some_of is_present found rs ≡ false
no_present [] found h = refl
no_present (x ∷ xs) found h = rw (h x (Memᴰ.head refl)) (no_present xs found (λ r m. h r (Memᴰ.tail m)))

one-pending : (rs : List Reference) (found : Reference → Found) → (rs ≡ [] → ⊥) → ((r : Reference) → Memᴰ r rs → found r ≡ pending) → some_of is_pending found rs ≡ true
one-pending [] found l h = absurd (l refl)
one-pending (x ∷ xs) found l h = rw (h x (Memᴰ.head refl))

pub all-pending : (rule : RuleTree) (g : Given) → (references rule ≡ [] → ⊥) → ((r : Reference) → Memᴰ r (references rule) → g.found r ≡ pending)
    → judgement g rule ≡ None
all-pending rule g l h =
    ap₂ (λ (a b : Bool). cond (settled_by a b (value g rule)) (Some (verdict_of (value g rule))) None)
    (one-pending (references rule) g.found l h) (no_present (references rule) g.found h)

pub verdict-settled : (v : Verdict) → Some v ≡ None → ⊥
verdict-settled v q = cc

-- what is known of a verdict that is given
abbrev pub Gave : RuleTree → Given → PullRead → Type 0
Gave rule g short = Unit {0}
Gave rule g waits = Unit {0}
Gave rule g (gave v) = judgement g rule ≡ Some v

gave-by : (rule : RuleTree) (g : Given) (j : Option Verdict) → judgement g rule ≡ j → Gave rule g (offered j)
gave-by rule g None q = tt
gave-by rule g (Some v) q = q

pub gave-judged : (rule : RuleTree) (g : Given) (n : ℕ) → Gave rule g (pull_read rule g n)
unfolding pull_read
gave-judged rule g n =
    cond_case (Gave rule g) (ltb n report_least) short (offered (judgement g rule)) (λ _. tt) (λ _. gave-by rule g (judgement g rule) refl)

module _ (frames : List ℕ) (w : ℕ) (ok : Fine frames w) where
  abbrev refs : List Reference
  refs = references (tree_of frames)

  wide : 0 < w
  wide = leb-true 1 w (and-true (leb 1 w) _ ok.width).0

  -- an instance with a verdict is not the last
  gave-low : (m : Machine) (v : Verdict) → Sound (references (tree_of frames)) w (tally_of m) → judgement (given_in m.lists m.next) (tree_of frames) ≡ Some v → m.next < instance_limit
  gave-low m v x q =
      ⊎_elim
      (λ l. l)
      (λ (l : instance_limit ≤ m.next). absurd (verdict-settled v (sym q ∙ all-pending (tree_of frames) (given_in m.lists m.next) ok.some
      (λ r h. late-pending (by_lists m.lists) r m.next (ok.limits r h).least (ok.limits r h).offset (few r h) l))))
      (less_or m.next instance_limit)
    where
      few : (r : Reference) → Memᴰ r (references (tree_of frames)) → length (m.lists r.event) ≤ line_limit
      few r h = omega (arith, count-of m r.event (ok.limits r h).event, (x.counts r.event (ok.limits r h).event).few)

  module _ (m : Machine) (k : Checker) (b : Both frames w m k) where
    -- what goes by the rule, W and the counts goes as in the machine
    as_machine : {A : Type 0} (f : List Reference → ℕ → Tally → A) → f (refs_in k.state) k.state.width (tally_in k.state) ≡ f (references (tree_of frames)) w (tally_of m)
    as_machine f =
        ap (λ (x : List ℕ). f (references (tree_of x)) k.state.width (tally_in k.state)) b.sim.rule
        ∙ ap₂ (f (references (tree_of frames))) b.sim.width b.sim.tally

    -- ---- 12, 13 and 27 do not come
    pub good : state_passes k.state ≡ true
    unfolding state_passes rule_passes
    good =
        true-and _ _
        (true-and _ _
        (true-and _ _ b.sim.len (ap (λ (x : List ℕ). is_accepted (checked_of x)) b.sim.rule ∙ ap is_accepted ok.accepted))
        (ap width_fits b.sim.width ∙ ok.width))
        (as_machine tally_passes ∙ tally-good (references (tree_of frames)) w (tally_of m) b.sound)

    fits : window_fits k.state.width k.words ≡ true
    fits = eq-eqb (length k.words) (window_words k.state.width) (b.sim.long ∙ ap window_words (sym b.sim.width))

    pub in_step_stays : admission k.state k.words ≡ admitted
    in_step_stays = let_in k.state k.words good fits (eq-eqb k.state.sum (sum_of k.words) b.sim.sum)

    -- ---- feeding
    feed_eq : (line : List ℕ) → feed_def k.state k.words line ≡ fed_by k.state k.words (machine_feed (tree_of frames) w m line)
    unfolding feed_def
    feed_eq line =
        ap (fed_if k.state k.words line) in_step_stays
        ∙ ap (fed_by k.state k.words) (as_machine (λ (rs : List Reference) (v : ℕ) (t : Tally). feed_read rs v t (line_of line)))

    sim-taken : (e : ℕ) (notes : List ℤ) → e < 8 → length (m.lists e) < base (references (tree_of frames)) e m.next + w
        → Sim frames w (joined m e notes) (record { state = (fed_by k.state k.words (taken e notes)).state; words = (fed_by k.state k.words (taken e notes)).words })
    sim-taken e notes he hw =
        record {
          rule = unfold with_tally in unfold with_sum in b.sim.rule;
          len = unfold with_tally in unfold with_sum in b.sim.len;
          width = unfold with_tally in unfold with_sum in b.sim.width;
          tally = unfold with_tally in unfold with_sum in (ap (λ (t : Tally). with_line t e) b.sim.tally ∙ tally-joined m e notes he);
          long = rw words-kept (length-kept w k.words notes wide e (base refs e m.next) (length (m.lists e)) ∙ b.sim.long);
          sum = unfold with_sum in refl;
          live = rw words-kept (live-joined refs w m k.words wide b.sim.long b.sim.live e notes he hw);
        }
      where
        words-kept : (fed_by k.state k.words (taken e notes)).words ≡ kept k.words w e (base (references (tree_of frames)) e m.next) (length (m.lists e)) notes
        words-kept =
            as_machine (λ (rs : List Reference) (v : ℕ) (t : Tally). kept k.words v e (base rs e t.next) (count_of t e) notes)
            ∙ ap (λ (c : ℕ). kept k.words w e (base (references (tree_of frames)) e m.next) c notes) (count-of m e he)

    both-fed : (f : FeedRead) → Took (references (tree_of frames)) w (tally_of m) f
        → Both frames w (after_feed m f) (record { state = (fed_by k.state k.words f).state; words = (fed_by k.state k.words f).words })
    both-fed (turned number place) t = b
    both-fed skipped t = b
    both-fed (taken e notes) t =
        let he : e < 8 = referenced-below 8 refs e (λ r h. (ok.limits r h).event) t.0 in
        let h₂ : length (m.lists e) < base refs e m.next + w = omega (arith, t.2, count-of m e he) in
        record {
          sound = subst (Sound refs w) (tally-joined m e notes he) (sound-line refs w (tally_of m) b.sound e t.0 t.1 t.2);
          sim = sim-taken e notes he h₂;
        }

    -- ---- pulling
    -- the window says of each reference what the lists say
    window_same : SameOn (references (tree_of frames)) (found_in_window w (tally_of m).counts k.words m.next) (found_in m.lists m.next)
    window_same r h =
        found-same (by_window w (tally_of m).counts k.words) (by_lists m.lists) r.event r.note (count-of m r.event (ok.limits r h).event) (meant m.next r)
        (λ o q l. b.sim.live r.event o.0 r.note (ok.limits r h).event (omega (arith, base_le (references (tree_of frames)) m.next r h, ap or_zero q)) l (ok.limits r h).note)

    abbrev result_of : RuleTree → Given → List ℕ → PullRead → PullResult
    result_of t g buffer x =
        record { answer = pull_answer x; state = state_after k.state x; report = pull_report g.instance (references t) g.found buffer x }

    abbrev result_at : RuleTree → Given → List ℕ → PullResult
    result_at t g buffer = result_of t g buffer (pull_read t g (length buffer))

    report-own : (p : ℕ) (t : RuleTree) (found found' : Reference → Found) (buffer : List ℕ) → SameOn (references t) found found' → (x : PullRead)
        → pull_report p (references t) found buffer x ≡ pull_report p (references t) found' buffer x
    report-own p t found found' buffer s short = refl
    report-own p t found found' buffer s waits = refl
    report-own p t found found' buffer s (gave Verdict.True) = refl
    report-own p t found found' buffer s (gave Verdict.False) = rw (map-own found found' (references t) s)
    report-own p t found found' buffer s (gave Verdict.Unknown) = refl

    read-own : (t : RuleTree) (g : Given) (found : Reference → Found) (n : ℕ) → SameOn (references t) g.found found → pull_read t g n ≡ pull_read t (with_found g found) n
    unfolding pull_read
    read-own t g found n s = ap (λ (j : Option Verdict). cond (ltb n report_least) short (offered j)) (own-references g found t s)

    result_own : (t : RuleTree) (g : Given) (found : Reference → Found) (buffer : List ℕ) → SameOn (references t) g.found found → result_at t g buffer ≡ result_at t (with_found g found) buffer
    result_own t g found buffer s =
        let x = pull_read t (with_found g found) (length buffer) in
        ap (result_of t g buffer) (read-own t g found (length buffer) s)
        ∙ ap (λ (l : List ℕ). record { answer = pull_answer x; state = state_after k.state x; report = l }) (report-own g.instance t g.found found buffer s x)

    pull_eq : (buffer : List ℕ) → pull_def k.state k.words buffer ≡ result_at (tree_of frames) (given_in m.lists m.next) buffer
    unfolding pull_def
    pull_eq buffer =
        ap (pulled_if k.state k.words buffer) in_step_stays
        ∙ ap (λ (x : List ℕ). result_at (tree_of x) (given_in_window k.state.width k.state.counts k.words k.state.next.0) buffer) b.sim.rule
        ∙ ap₂ (λ (v : ℕ) (t : Tally). result_at (tree_of frames) (given_in_window v t.counts k.words t.next) buffer) b.sim.width b.sim.tally
        ∙ result_own (tree_of frames) (given_in_window w (tally_of m).counts k.words m.next) (found_in m.lists m.next) buffer window_same

    both-pulled : (x : PullRead) → Gave (tree_of frames) (given_in m.lists m.next) x
        → Both frames w (after_pull m x) (record { state = state_after k.state x; words = k.words })
    both-pulled short t = b
    both-pulled waits t = b
    both-pulled (gave v) t =
        record {
          sound = unfold moved in sound-verdict refs w (tally_of m) v b.sound (gave-low m v b.sound t);
          sim =
              record {
                rule = unfold with_tally in b.sim.rule;
                len = unfold with_tally in b.sim.len;
                width = unfold with_tally in b.sim.width;
                tally = unfold with_tally in unfold moved in ap (λ (y : Tally). with_verdict y v) b.sim.tally;
                long = b.sim.long;
                sum = unfold with_tally in b.sim.sum;
                live = unfold moved in λ e j n he hb hk hn. b.sim.live e j n he (omega (arith, base_mono refs e m.next (m.next + 1) (omega arith))) hk hn;
              };
        }

    -- ---- one call
    pub out_step : (c : Call) → (checker k c).out ≡ (machine_for frames w m c).out
    out_step (feed line) = ap (λ (x : FeedResult). fed x.answer) (feed_eq line) ∙ answer_eq (machine_feed (tree_of frames) w m line)
      where
        answer_eq : (f : FeedRead) → fed (fed_by k.state k.words f).answer ≡ fed (feed_answer f)
        answer_eq (turned number place) = refl
        answer_eq skipped = refl
        answer_eq (taken e notes) = refl
    out_step (pull buffer) = ap (λ (x : PullResult). pulled x.answer x.report) (pull_eq buffer)

    pub next-step : (c : Call) → Both frames w (machine_for frames w m c).next (checker k c).next
    next-step (feed line) =
        subst (λ (x : FeedResult). Both frames w (after_feed m (machine_feed (tree_of frames) w m line)) (record { state = x.state; words = x.words })) (sym (feed_eq line))
        (both-fed (machine_feed (tree_of frames) w m line) (took refs w (tally_of m) (line_of line)))
    next-step (pull buffer) =
        subst (λ (x : PullResult). Both frames w (after_pull m (machine_pull (tree_of frames) w m buffer)) (record { state = x.state; words = k.words })) (sym (pull_eq buffer))
        (both-pulled (machine_pull (tree_of frames) w m buffer) (gave-judged (tree_of frames) (given_in m.lists m.next) (length buffer)))
