-- The report of each false verdict that a list hands out, and what two lists for one rule leave free in it. Assumes nothing.
use Rattle.std.proofs.Common.{◌≡◌, ℕ, zero, suc, ◌+◌, Bool, true, false, cond, ltb, List, [], ◌∷◌, ◌++◌, map, get_or, ℤ, sym, refl, ap, subst, inl, inr, add-zero, arith}
use Rattle.rule.specs.Tree.{Reference, references}
use Rattle.rule.specs.Build.{tree_of}
use Rattle.verdict.specs.Found.{meant, Found, present, pending, void, Lookup, found_by, by_lists, found_in}
use Rattle.verdict.specs.Later.{Gains, MoreLines}
use Rattle.verdict.specs.declared.Occurrence.{Occurrence}
use Rattle.std.specs.Prelude.{Option, Some, None}
use Rattle.verdict.specs.declared.Verdict.{Verdict}
use Rattle.verdict.specs.declared.Verdict.TheVariants.{False, Unknown}
use Rattle.verdict.proofs.Main.{lines_gain}
use Rattle.checker.specs.Base.{first_for}
use Rattle.checker.specs.Feed.{FeedRead, turned, skipped, taken, feed_answer}
use Rattle.checker.specs.Report.{report_bytes, written}
use Rattle.checker.specs.Pull.{PullRead, short, waits, gave, pull_answer, pull_report}
use Rattle.checker.specs.Calls.{Call, feed, pull, outs, end}
use Rattle.checker.specs.Machine.{Machine, at_first, joined, moved, after_feed, after_pull, machine_feed, machine_pull, machine_for}
use Rattle.checker.specs.Demand.{Unrefused, handed, verdicts, is_it, machine_after, handed_out, accepted_in, Reordered}
use Rattle.checker.specs.Demand.{reporting, reports, reports_out, Reported, ReportedTwice}
use Rattle.checker.specs.Demand.{FreeBetween, equal, present_pending, pending_present}
use Rattle.checker.specs.declared.Profile.{Profile}
use Rattle.checker.proofs.Lists as lists
use Rattle.checker.proofs.Final.{more_trans, more-end}
use Rattle.checker.proofs.Order.{order-more}

unknown-false : Unknown ≡ False → ⊥
unknown-false q = omega (arith, ap (is_it False) q)

module _ (frames : List ℕ) (w : ℕ) where
  -- the report of instance i by a machine's lists, in a buffer
  abbrev report_by : Machine → ℕ → List ℕ → List ℕ
  report_by m i buffer = written (report_bytes i (map (found_in m.lists i) (references (tree_of frames)))) buffer

  -- ---- a pull of a list from m on wrote it
  record Wrote (m : Machine) (cs : List Call) (i : ℕ) (report : List ℕ) : Type 0 where
    pub before : List Call
    pub buffer : List ℕ
    pub after : List Call
    pub split : before ++ (pull buffer ∷ after) ≡ cs
    pub turn : (end (machine_for frames w) before m).next ≡ i
    pub bytes : report ≡ report_by (end (machine_for frames w) before m) i buffer

  wrote_later : (m : Machine) (c : Call) (cs : List Call) (i : ℕ) (report : List ℕ)
      → Wrote (machine_for frames w m c).next cs i report → Wrote m (c ∷ cs) i report
  unfolding end
  wrote_later m c cs i report h =
      record {
        before = c ∷ h.before;
        buffer = h.buffer;
        after = h.after;
        split = ap (λ (l : List Call). c ∷ l) h.split;
        turn = h.turn;
        bytes = h.bytes;
      }

  wrote_here : (m : Machine) (buffer : List ℕ) (cs : List Call) → Wrote m (pull buffer ∷ cs) m.next (report_by m m.next buffer)
  unfolding end
  wrote_here m buffer cs = record { before = []; buffer = buffer; after = cs; split = refl; turn = refl; bytes = refl }

  -- each false verdict among vs, the first of instance p, has such a pull; rs are the buffers beside vs
  abbrev AllWrote : Machine → List Call → ℕ → List Verdict → List (List ℕ) → Type 0
  AllWrote m cs p vs rs = (k : ℕ) → get_or vs k Unknown ≡ False → Wrote m cs (p + k) (get_or rs k [])

  wrote_fed : (m : Machine) (cs : List Call) (f : FeedRead) (vs : List Verdict) (rs : List (List ℕ))
      → AllWrote m cs (after_feed m f).next vs rs → AllWrote m cs m.next (handed (feed_answer f) vs) rs
  unfolding joined
  wrote_fed m cs (turned number place) vs rs h = h
  wrote_fed m cs skipped vs rs h = h
  wrote_fed m cs (taken e notes) vs rs h = h

  -- the report buffer after a pull
  abbrev pub buffer_by : Machine → List ℕ → PullRead → List ℕ
  buffer_by m buffer x = pull_report m.next (references (tree_of frames)) (found_in m.lists m.next) buffer x

  wrote_pulled : (m : Machine) (buffer : List ℕ) (cs : List Call) (x : PullRead) (vs : List Verdict) (rs : List (List ℕ))
      → AllWrote m (pull buffer ∷ cs) (after_pull m x).next vs rs
      → AllWrote m (pull buffer ∷ cs) m.next (handed (pull_answer x) vs) (reporting (pull_answer x) (buffer_by m buffer x) rs)
  unfolding moved
  wrote_pulled m buffer cs short vs rs h k q = h k q
  wrote_pulled m buffer cs waits vs rs h k q = h k q
  wrote_pulled m buffer cs (gave v) vs rs h zero q = rw (add-zero, q) (wrote_here m buffer cs)
  wrote_pulled m buffer cs (gave v) vs rs h (suc k) q =
      subst (λ (i : ℕ). Wrote m (pull buffer ∷ cs) i (get_or rs k [])) (omega arith) (h k q)

  all_wrote : (cs : List Call) (m : Machine)
      → AllWrote m cs m.next (verdicts (outs (machine_for frames w) cs m)) (reports (outs (machine_for frames w) cs m))
  unfolding outs verdicts reports
  all_wrote [] m = λ k q. absurd (unknown-false q)
  all_wrote (feed line ∷ cs) m =
      let f = machine_feed (tree_of frames) w m line in
      let os = outs (machine_for frames w) cs (after_feed m f) in
      wrote_fed m (feed line ∷ cs) f (verdicts os) (reports os)
      (λ k q. wrote_later m (feed line) cs ((after_feed m f).next + k) (get_or (reports os) k []) (all_wrote cs (after_feed m f) k q))
  all_wrote (pull buffer ∷ cs) m =
      let x = machine_pull (tree_of frames) w m buffer in
      let os = outs (machine_for frames w) cs (after_pull m x) in
      wrote_pulled m buffer cs x (verdicts os) (reports os)
      (λ k q. wrote_later m (pull buffer) cs ((after_pull m x).next + k) (get_or (reports os) k []) (all_wrote cs (after_pull m x) k q))

  -- ---- a list's lines begin with those of its front
  more-front : (front rest : List Call) (m : Machine)
      → MoreLines (end (machine_for frames w) front m).lists (end (machine_for frames w) (front ++ rest) m).lists
  unfolding end
  more-front [] rest m = more-end frames w rest m
  more-front (c ∷ front) rest m = more-front front rest (machine_for frames w m c).next

  more-before : (front rest cs : List Call) → front ++ rest ≡ cs
      → MoreLines (machine_after frames w front).lists (machine_after frames w cs).lists
  more-before front rest cs q = rw (sym q) (more-front front rest (at_first frames))

  reported : (cs : List Call) (i : ℕ) (report : List ℕ) → Wrote (at_first frames) cs i report → Reported frames w cs i report
  reported cs i report h =
      let more = more-before h.before (pull h.buffer ∷ h.after) cs h.split in
      record {
        before = h.before;
        buffer = h.buffer;
        after = h.after;
        split = h.split;
        turn = h.turn;
        bytes = h.bytes;
        gains = lines_gain (machine_after frames w h.before).lists (machine_after frames w cs).lists more i;
      }

module _ {profile : Profile} {frames : List ℕ} {w : ℕ} {win : List ℤ} (o : Unrefused profile frames w win) (cs : List Call) where
  pub report : (i : ℕ) → get_or (handed_out profile frames w win cs) i Unknown ≡ False
      → Reported frames w cs (first_for frames + i) (get_or (reports_out profile frames w win cs) i [])
  report i q =
      let h = all_wrote frames w cs (at_first frames) i (rw (sym (lists.answers o cs)) q) in
      rw (lists.answers o cs) (reported frames w cs (first_for frames + i) _ h)

-- ---- two lists whose lines begin the same ones
free_by : (x y : Found) (z : ℤ) (t : Bool) → Gains x (cond t (present z) pending) → Gains y (cond t (present z) pending) → FreeBetween x y
free_by x y z t (inl p) (inl q) = rw (p, q) (equal (cond t (present z) pending))
free_by x y z t (inr p) (inr q) = rw (p, q) (equal pending)
free_by x y z true (inl p) (inr q) = rw (p, q) (present_pending z)
free_by x y z true (inr p) (inl q) = rw (p, q) (pending_present z)
free_by x y z false (inl p) (inr q) = rw (p, q) (equal pending)
free_by x y z false (inr p) (inl q) = rw (p, q) (equal pending)

free_at : (l l' l'' : Lookup) (e n : ℕ) (m : Option Occurrence) → Gains (found_by l e n m) (found_by l'' e n m) → Gains (found_by l' e n m) (found_by l'' e n m)
    → FreeBetween (found_by l e n m) (found_by l' e n m)
free_at l l' l'' e n None p q = equal void
free_at l l' l'' e n (Some k) p q = free_by _ _ (l''.note_at e n k.0) (ltb k.0 (l''.count e)) p q

free_between : (a b c : ℕ → List (List ℤ)) → MoreLines a c → MoreLines b c
    → (i : ℕ) (r : Reference) → FreeBetween (found_in a i r) (found_in b i r)
free_between a b c p q i r =
    free_at (by_lists a) (by_lists b) (by_lists c) r.event r.note (meant i r) (lines_gain a c p i r) (lines_gain b c q i r)

module _ {profile profile' : Profile} {frames : List ℕ} {w w' : ℕ} {win win' : List ℤ}
    (o : Unrefused profile frames w win) (o' : Unrefused profile' frames w' win') (cs cs' : List Call) where
  pub two-reports : MoreLines (machine_after frames w cs).lists (machine_after frames w' cs').lists → (i : ℕ)
      → get_or (handed_out profile frames w win cs) i Unknown ≡ False → get_or (handed_out profile' frames w' win' cs') i Unknown ≡ False
      → ReportedTwice frames w w' cs cs' (first_for frames + i)
      (get_or (reports_out profile frames w win cs) i []) (get_or (reports_out profile' frames w' win' cs') i [])
  two-reports more i q q' =
      let x = report o cs i q in
      let y = report o' cs' i q' in
      let a = (machine_after frames w x.before).lists in
      let b = (machine_after frames w' y.before).lists in
      let c = (machine_after frames w' cs').lists in
      let first = more-before frames w x.before (pull x.buffer ∷ x.after) cs x.split in
      let second = more-before frames w' y.before (pull y.buffer ∷ y.after) cs' y.split in
      record {
        first = x;
        second = y;
        marks = free_between a b c (more_trans a (machine_after frames w cs).lists c first more) second (first_for frames + i);
      }

  pub order-reports : Reordered (accepted_in frames w cs (at_first frames)) (accepted_in frames w' cs' (at_first frames)) → (i : ℕ)
      → get_or (handed_out profile frames w win cs) i Unknown ≡ False → get_or (handed_out profile' frames w' win' cs') i Unknown ≡ False
      → ReportedTwice frames w w' cs cs' (first_for frames + i)
      (get_or (reports_out profile frames w win cs) i []) (get_or (reports_out profile' frames w' win' cs') i [])
  order-reports r = two-reports (order-more frames w w' cs cs' r)
