-- The walk over a log: laws of `to_lf`, and that it yields the log's lines. Assumes nothing.
use Rattle.std.specs.Prelude.{Some, None, take_while, ◌==◌}
use Rattle.std.specs.List.{prefix_len}
use Rattle.std.proofs.lemmas.Option.{none-some, same_Some}
use Rattle.std.proofs.lemmas.List.Folds.{length-prefix_len}
use mathlib.Core.Path.{◌≡◌, refl, sym, ap, subst, ◌∙◌}
use mathlib.Core.Bool.{Bool, true, false, cond, not}
use mathlib.Core.Logic.{◌↔◌}
use mathlib.Core.List.{List, [], ◌∷◌}
use Prim.Native.Nat.{ℕ, zero, suc, ◌+◌, ◌-◌, ◌≤◌, ◌<◌}
use native.Mathlib.Numerals.{add-one}
use native.Mathlib.Omega.{arith}
use lib.Dec.{ltb, leb, eqb}
use lib.ListN.{length, take, drop, get_or, length-drop, drop_of_length-le}
use lib.Seq.{drop-cons, drop-drop}
use borrow.Author.Tests.{lt-ltb, le-ltb, ltb-true, ltb-false, leb-true, leb-false}
use denote.Ref.{Bor}
use Rattle.log_lines.specs.Walk.{onto, lines_of, to_lf, end_of, line_at, onward, walked, found_end}
use Rattle.log_lines.specs.Walk.{start_of, line_here, moved_on, at_log_end, Yields, over, more}
use Rattle.log_lines.specs.declared.walk.LogReader.{LogReader}
use Rattle.log_lines.specs.declared.walk.Span.{Span}

-- ---- how far the first LF is
toLF-within : (s : List ℕ) → to_lf s ≤ length s
unfolding to_lf
toLF-within [] = omega arith
toLF-within (b ∷ s) = go (eqb b 10) (toLF-within s)
  where
    go : (t : Bool) → to_lf s ≤ length s → cond t 0 (suc (to_lf s)) ≤ suc (length s)
    go true h = omega arith
    go false h = omega arith

prefix-lf : (s : List ℕ) → prefix_len (λ b. not (b == 10)) s ≡ to_lf s
unfolding to_lf
prefix-lf [] = refl
prefix-lf (b ∷ s) = go (eqb b 10) (prefix-lf s)
  where
    go : (t : Bool) → prefix_len (λ b. not (b == 10)) s ≡ to_lf s
        → cond (not t) (1 + prefix_len (λ b. not (b == 10)) s) 0 ≡ cond t 0 (suc (to_lf s))
    go true h = refl
    go false h = omega arith

-- the bytes before it are those that the library's `take_while` takes
pub lf_counted : (s : List ℕ) → length (take_while (λ b. not (b == 10)) s) ≡ to_lf s
lf_counted s = length-prefix_len (λ b. not (b == 10)) s ∙ prefix-lf s

pub end_of_within : (log : List ℕ) (at : ℕ) → at ≤ length log → end_of log at ≤ length log
end_of_within log at h = omega (arith, toLF-within (drop at log), length-drop at log)

-- ---- the first line, and those after it
first-line : (b : ℕ) (s : List ℕ) → lines_of (b ∷ s) ≡ take (to_lf (b ∷ s)) (b ∷ s) ∷ lines_of (drop (suc (to_lf (b ∷ s))) (b ∷ s))
unfolding lines_of to_lf
first-line b [] = go (eqb b 10)
  where
    go : (t : Bool) → cond t ([] ∷ []) ((b ∷ []) ∷ []) ≡ take (cond t 0 1) (b ∷ []) ∷ lines_of (drop (suc (cond t 0 1)) (b ∷ []))
    go true = refl
    go false = refl
first-line b (x ∷ s) = go (eqb b 10) (first-line x s)
  where
    go : (t : Bool) → lines_of (x ∷ s) ≡ take (to_lf (x ∷ s)) (x ∷ s) ∷ lines_of (drop (suc (to_lf (x ∷ s))) (x ∷ s))
        → cond t ([] ∷ lines_of (x ∷ s)) (onto b (lines_of (x ∷ s))) ≡ take (cond t 0 (suc (to_lf (x ∷ s)))) (b ∷ x ∷ s) ∷ lines_of (drop (suc (cond t 0 (suc (to_lf (x ∷ s))))) (b ∷ x ∷ s))
    go true ih = refl
    go false ih = ap (onto b) ih

lines_next : (log : List ℕ) (at : ℕ) → at < length log → lines_of (drop at log) ≡ take (to_lf (drop at log)) (drop at log) ∷ lines_of (drop (suc (end_of log at)) log)
lines_next log at h =
    let n : at + suc (to_lf (drop at log)) ≡ suc (end_of log at) = omega arith in
    whole (drop at log) (drop-cons log at 0 h) ∙ rw (drop-drop, n)
  where
    whole : (s : List ℕ) → s ≡ get_or log at 0 ∷ drop (suc at) log → lines_of s ≡ take (to_lf s) s ∷ lines_of (drop (suc (to_lf s)) s)
    whole [] e = absurd (let z : ◌≡◌ {A = ℕ} 0 1 = cc in omega arith)
    whole (b ∷ s) e = first-line b s

-- what stands past the log's end is nothing
none-past : (log : List ℕ) (at : ℕ) → length log ≤ at → lines_of (drop at log) ≡ []
unfolding lines_of
none-past log at h = rw (drop_of_length-le log h)

-- ---- the walk
module _ (log : List ℕ) where
  pub found-end : (at : ℕ) → length log ≤ at → line_at log at ≡ None
  unfolding line_at
  found-end at h = rw (le-ltb at (length log) h)

  -- where the next line starts
  next_of : ℕ → ℕ
  next_of at = cond (ltb (end_of log at) (length log)) (end_of log at + 1) (end_of log at)

  -- the line that starts at a place
  abbrev found_of : ℕ → Span
  found_of at = record { start = at; end = end_of log at; next = next_of at }

  found-line : (at : ℕ) → at < length log → line_at log at ≡ Some (found_of at)
  unfolding line_at next_of
  found-line at h = rw (lt-ltb at (length log) h)

  -- the log's end by the place alone
  pub end-tested : (at : ℕ) → leb (length log) at ≡ found_end (line_at log at)
  end-tested at = go (leb (length log) at) refl
    where
      go : (t : Bool) → leb (length log) at ≡ t → t ≡ found_end (line_at log at)
      go true e = sym (ap found_end (found-end at (leb-true (length log) at e)))
      go false e = sym (ap found_end (found-line at (leb-false (length log) at e)))

  -- the next line lies beyond this one and within the log, and from there on stand the other lines
  next-rest : (at : ℕ) → at < length log → (at < next_of at) × (next_of at ≤ length log) × (lines_of (drop (suc (end_of log at)) log) ≡ lines_of (drop (next_of at) log))
  unfolding next_of
  next-rest at h = go (ltb (end_of log at) (length log)) refl
    where
      go : (t : Bool) → ltb (end_of log at) (length log) ≡ t
          → (at < cond t (end_of log at + 1) (end_of log at)) × (cond t (end_of log at + 1) (end_of log at) ≤ length log)
          × (lines_of (drop (suc (end_of log at)) log) ≡ lines_of (drop (cond t (end_of log at + 1) (end_of log at)) log))
      go true e = let q = ltb-true (end_of log at) (length log) e in (omega arith, omega arith, rw add-one)
      go false e =
          let q = ltb-false (end_of log at) (length log) e in
          let w = end_of_within log at (omega arith) in
          (omega arith, omega arith, none-past log (suc (end_of log at)) (omega arith) ∙ sym (none-past log (end_of log at) q))

  walk_from : (k at : ℕ) → at ≤ length log → length log - at ≤ k → walked k log at ≡ lines_of (drop at log)
  unfolding walked
  walk_from zero at h l = sym (none-past log at (omega arith))
  walk_from (suc k) at h l = go (ltb at (length log)) refl (λ a. walk_from k a)
    where
      go : (t : Bool) → ltb at (length log) ≡ t → ((a : ℕ) → a ≤ length log → length log - a ≤ k → walked k log a ≡ lines_of (drop a log))
          → onward log (walked k log) (line_at log at) ≡ lines_of (drop at log)
      go false e ih =
          let q = ltb-false at (length log) e in
          ap (onward log (walked k log)) (found-end at q) ∙ sym (none-past log at q)
      go true e ih =
          let q = ltb-true at (length log) e in
          let r = next-rest at q in
          let w : end_of log at - at ≡ to_lf (drop at log) = omega arith in
          ap (onward log (walked k log)) (found-line at q)
          ∙ (rw (w, ih (next_of at) r.1 (omega arith), ← r.2) (sym (lines_next log at q)))

-- walking a log from its start yields exactly its lines, in order, none left out
pub walks_all : (log : List ℕ) → walked (length log) log 0 ≡ lines_of log
walks_all log = walk_from log (length log) 0 (omega arith) (omega arith)

-- a line that was found lies within the log, and the next starts past its start
pub line-within : (log : List ℕ) (at : ℕ) (l : Span) → line_at log at ≡ Some l
    → (l.start ≤ l.end) × (l.end ≤ length log) × (at < l.next) × (l.next ≤ length log)
line-within log at l f = go (ltb at (length log)) refl
  where
    go : (t : Bool) → ltb at (length log) ≡ t → (l.start ≤ l.end) × (l.end ≤ length log) × (at < l.next) × (l.next ≤ length log)
    go false q = absurd (none-some l (sym (found-end log at (ltb-false at (length log) q)) ∙ f))
    go true q =
        let h = ltb-true at (length log) q in
        let r = next-rest log at h in
        let w = end_of_within log at (omega arith) in
        let z : found_of log at ≡ l = same_Some _ _ (sym (found-line log at h) ∙ f) in
        rw (sym z) (omega arith, w, r.0, r.1)

-- ---- the reader
-- the lines from its place on
abbrev lines_from : LogReader → List (List ℕ)
lines_from r = lines_of (drop r.at r.log.now)

module _ (r : LogReader) where
  end_reached : length r.log.now ≤ r.at → at_log_end r ≡ true
  end_reached h = ap found_end (found-end r.log.now r.at h)

  end_ahead : r.at < length r.log.now → at_log_end r ≡ false
  end_ahead h = ap found_end (found-line r.log.now r.at h)

  -- before the log's end stand its line and those after it
  lines-here : r.at < length r.log.now → lines_from r ≡ line_here r ∷ lines_from (moved_on r)
  lines-here h =
      let log = r.log.now in
      let w : end_of log r.at - r.at ≡ to_lf (drop r.at log) = omega arith in
      rw (found-line log r.at h, w, ← (next-rest log r.at h).2) (lines_next log r.at h)

  -- it moves on within the log
  moves : r.at < length r.log.now → (r.at < (moved_on r).at) × ((moved_on r).at ≤ length r.log.now)
  unfolding next_of
  moves h = let q = next-rest r.log.now r.at h in rw (found-line r.log.now r.at h) (q.0, q.1)

-- it hands out all of them
yields_all : (k : ℕ) (r : LogReader) → r.at ≤ length r.log.now → length r.log.now - r.at ≤ k → Yields r (lines_from r)
yields_all zero r h l =
    let q : length r.log.now ≤ r.at = omega arith in
    subst (Yields r) (sym (none-past r.log.now r.at q)) (over r (end_reached r q))
yields_all (suc k) r h l = go (ltb r.at (length r.log.now)) refl (yields_all k (moved_on r))
  where
    go : (t : Bool) → ltb r.at (length r.log.now) ≡ t
        → ((moved_on r).at ≤ length r.log.now → length r.log.now - (moved_on r).at ≤ k → Yields (moved_on r) (lines_from (moved_on r)))
        → Yields r (lines_from r)
    go false e ih =
        let q = ltb-false r.at (length r.log.now) e in
        subst (Yields r) (sym (none-past r.log.now r.at q)) (over r (end_reached r q))
    go true e ih =
        let q = ltb-true r.at (length r.log.now) e in
        let m = moves r q in
        subst (Yields r) (sym (lines-here r q)) (more r (lines_from (moved_on r)) (end_ahead r q) (ih m.1 (omega arith)))

-- and nothing else
yields_only : (r : LogReader) (ls : List (List ℕ)) → Yields r ls → ls ≡ lines_from r
yields_only _ _ (over r e) = go (ltb r.at (length r.log.now)) refl
  where
    go : (t : Bool) → ltb r.at (length r.log.now) ≡ t → [] ≡ lines_from r
    go true q = absurd (let a = end_ahead r (ltb-true r.at _ q) in let z : ◌≡◌ {A = ℕ} 0 1 = cc in omega arith)
    go false q = sym (none-past r.log.now r.at (ltb-false r.at _ q))
yields_only _ _ (more r ls e y) = go (ltb r.at (length r.log.now)) refl (yields_only (moved_on r) ls y)
  where
    go : (t : Bool) → ltb r.at (length r.log.now) ≡ t → ls ≡ lines_from (moved_on r) → line_here r ∷ ls ≡ lines_from r
    go true q ih = ap (λ (ms : List (List ℕ)). line_here r ∷ ms) ih ∙ sym (lines-here r (ltb-true r.at _ q))
    go false q ih = absurd (let a = end_reached r (ltb-false r.at _ q) in let z : ◌≡◌ {A = ℕ} 0 1 = cc in omega arith)

-- from the start, exactly the log's lines
pub reader_walks : (log : Bor (List ℕ)) (ls : List (List ℕ)) → Yields (start_of log) ls ↔ ls ≡ lines_of log.now
reader_walks log ls = (
  yields_only (start_of log) ls,
  λ e. subst (Yields (start_of log)) (sym e) (yields_all (length log.now) (start_of log) (omega arith) (omega arith)),
)

-- where the log ends, and what lies within it
pub ruleset end_steps = (end-tested, line-within)
