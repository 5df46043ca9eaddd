-- The log in chunks: 35 bytes decide a line, a line may be cut anywhere, and the chunks' lines are the log's. Assumes nothing.
use Rattle.std.proofs.Common.{◌≡◌, ℕ, zero, suc, ◌+◌, ◌-◌, ◌<◌, ◌≤◌, min, Bool, true, false, cond, eqb, ltb, List, [], ◌∷◌, ◌++◌, length, take, drop, ℤ, sym, refl, ap, ◌∙◌, subst, append_assoc, append-nil, arith, length-append, length-drop, drop_of_length-le, length-take, length-take-le, take_all, take-take, drop-drop, ltb-false, ltb-true, lt-ltb}
use Rattle.std.specs.Prelude.{Option, Some, None}
use native.Mathlib.Decide.{dec_lt}
use lib.Seq.{take-append-le}
use Rattle.log_lines.specs.Digit.{is_digit}
use Rattle.log_lines.specs.Line.{LineAnswer, digits_at_front, bad_place, line_of, refused}
use Rattle.log_lines.specs.Walk.{to_lf, end_of, line_at}
use Rattle.log_lines.specs.declared.walk.Span.{Span}
use Rattle.log_lines.proofs.Main.{line-of-other, end_of_within, line-within}
use Rattle.checker.specs.Admission.{Admission, admitted, barred, admission}
use Rattle.checker.specs.Feed.{fed_by, line_in, fed_if, feed_def}
use Rattle.checker.specs.declared.State.{State}
use Rattle.bench.specs.Kept.{kept_limit, held_with}
use Rattle.bench.specs.Progress.{Progress, Chunked, fed_line, after_line, after_bytes}
use Rattle.bench.specs.Carried.{roomy, before, After, AfterChunked}
use Rattle.bench.proofs.RunLaws.{after_trans, line_grows, line_before}

-- ---- 35 bytes decide a line
digits-take : (n : ℕ) (l : List ℕ) → digits_at_front (take n l) ≡ min n (digits_at_front l)
unfolding digits_at_front
digits-take zero l = omega arith
digits-take (suc n) [] = omega arith
digits-take (suc n) (b ∷ l) = go (is_digit b) (digits-take n l)
  where
    go : (t : Bool) → digits_at_front (take n l) ≡ min n (digits_at_front l)
        → cond t (suc (digits_at_front (take n l))) 0 ≡ min (suc n) (cond t (suc (digits_at_front l)) 0)
    go true e = omega arith
    go false e = omega arith

place_kept : (l : List ℕ) → kept_limit < length l → bad_place (take kept_limit l) ≡ bad_place l
unfolding bad_place
place_kept l h = omega (arith, digits-take kept_limit l, length-take-le kept_limit l (omega arith))

line_kept : (l : List ℕ) → line_of (take kept_limit l) ≡ line_of l
line_kept l =
    elim (dec_lt kept_limit (length l)) [
      | yes h ↦
          line-of-other (take kept_limit l) (λ e f. omega (arith, length-take-le kept_limit l (omega arith)))
          ∙ ap (refused 15) (place_kept l h)
          ∙ sym (line-of-other l (λ e f. omega arith))
      | no h ↦ ap line_of (take_all kept_limit l (omega arith))
    ]

feed-kept : (s : State) (win : List ℤ) (l : List ℕ) → feed_def s win (take kept_limit l) ≡ feed_def s win l
unfolding feed_def
feed-kept s win l = go (admission s win)
  where
    go : (a : Admission) → fed_if s win (take kept_limit l) a ≡ fed_if s win l a
    go admitted = ap (λ (d : LineAnswer). fed_by s win (line_in s d)) (line_kept l)
    go (barred number) = refl

pub after_kept : (x : Progress) (l : List ℕ) → after_line x (take kept_limit l) ≡ after_line x l
unfolding fed_line
after_kept x l = rw (feed-kept x.state x.words l)

-- ---- what is kept, part by part
pub kept_on : (a t : List ℕ) → take kept_limit (take kept_limit a ++ t) ≡ take kept_limit (a ++ t)
kept_on a t =
    elim (dec_lt kept_limit (length a)) [
      | yes h ↦
          let l : length (take kept_limit a) ≡ kept_limit = length-take-le kept_limit a (omega arith) in
          take-append-le kept_limit (take kept_limit a) t (omega arith)
          ∙ take-take kept_limit kept_limit a (omega arith)
          ∙ sym (take-append-le kept_limit a t (omega arith))
      | no h ↦ ap (λ (s : List ℕ). take kept_limit (s ++ t)) (take_all kept_limit a (omega arith))
    ]

held_with_next : (h : List ℕ) (b : ℕ) (t : List ℕ) → take kept_limit (held_with h (b ∷ []) ++ t) ≡ take kept_limit (h ++ (b ∷ t))
held_with_next h b t = kept_on (h ++ (b ∷ [])) t ∙ ap (take kept_limit) (append_assoc h (b ∷ []) t)

kept-short : (s : List ℕ) → length (take kept_limit s) ≤ kept_limit
kept-short s = omega (arith, length-take kept_limit s)

-- ---- a chunk's first line, and what is left of it
abbrev holding : Progress → List ℕ → Chunked
holding x h = record { progress = x; held = h }

split-line : (x : Progress) (h r : List ℕ) → to_lf r < length r
    → after_bytes (holding x h) r ≡ after_bytes (holding (after_line x (h ++ take (to_lf r) r)) []) (drop (suc (to_lf r)) r)
unfolding after_bytes to_lf
split-line x h [] l = absurd (omega arith)
split-line x h (b ∷ r) l = go (eqb b 10) l (split-line x (held_with h (b ∷ [])) r)
  where
    whole : (t : List ℕ) → after_line x (held_with h (b ∷ []) ++ t) ≡ after_line x (h ++ (b ∷ t))
    whole t =
        sym (after_kept x (held_with h (b ∷ []) ++ t)) ∙ ap (after_line x) (held_with_next h b t) ∙ after_kept x (h ++ (b ∷ t))

    go : (t : Bool) → cond t 0 (suc (to_lf r)) < suc (length r)
        → (to_lf r < length r → after_bytes (holding x (held_with h (b ∷ []))) r ≡ after_bytes (holding (after_line x (held_with h (b ∷ []) ++ take (to_lf r) r)) []) (drop (suc (to_lf r)) r))
        → after_bytes (cond t (holding (after_line x h) []) (holding x (held_with h (b ∷ [])))) r
        ≡ after_bytes (holding (after_line x (h ++ take (cond t 0 (suc (to_lf r))) (b ∷ r))) []) (drop (suc (cond t 0 (suc (to_lf r)))) (b ∷ r))
    go true m i = ap (λ (s : List ℕ). after_bytes (holding (after_line x s) []) r) (sym (append-nil h))
    go false m i =
        i (omega arith)
        ∙ ap (λ (y : Progress). after_bytes (holding y []) (drop (suc (to_lf r)) r)) (whole (take (to_lf r) r))

none_next : (x : Progress) (h : List ℕ) (b : ℕ) (r : List ℕ) (t : Bool) → cond t 0 (suc (to_lf r)) ≡ suc (length r)
    → (to_lf r ≡ length r → after_bytes (holding x (held_with h (b ∷ []))) r ≡ holding x (held_with (held_with h (b ∷ [])) r))
    → after_bytes (cond t (holding (after_line x h) []) (holding x (held_with h (b ∷ [])))) r ≡ holding x (held_with h (b ∷ r))
none_next x h b r true m i = absurd (omega arith)
none_next x h b r false m i = i (omega arith) ∙ ap (holding x) (held_with_next h b r)

split-none : (x : Progress) (h r : List ℕ) → length h ≤ kept_limit → to_lf r ≡ length r → after_bytes (holding x h) r ≡ holding x (held_with h r)
unfolding after_bytes to_lf
split-none x h [] l e = ap (holding x) (sym (ap (take kept_limit) (append-nil h) ∙ take_all kept_limit h l))
split-none x h (b ∷ r) l e = none_next x h b r (eqb b 10) e (split-none x (held_with h (b ∷ [])) r (kept-short (h ++ (b ∷ []))))

-- whatever is held, if something is left
split-some : (x : Progress) (h r : List ℕ) → 0 < length r → to_lf r ≡ length r → after_bytes (holding x h) r ≡ holding x (held_with h r)
unfolding after_bytes to_lf
split-some x h [] l e = absurd (omega arith)
split-some x h (b ∷ r) l e = none_next x h b r (eqb b 10) e (split-none x (held_with h (b ∷ [])) r (kept-short (h ++ (b ∷ []))))

-- ---- what was written before stays in front
abbrev before_open : List ℕ → Chunked → Chunked
before_open w o = record { progress = before w o.progress; held = o.held }

bytes-before : (w : List ℕ) (o : Chunked) (s : List ℕ) → after_bytes (before_open w o) s ≡ before_open w (after_bytes o s)
unfolding after_bytes
bytes-before w o [] = refl
bytes-before w o (b ∷ s) = go (eqb b 10) (λ p. bytes-before w p s)
  where
    go : (t : Bool) → ((p : Chunked) → after_bytes (before_open w p) s ≡ before_open w (after_bytes p s))
        → after_bytes (cond t (holding (after_line (before w o.progress) o.held) []) (holding (before w o.progress) (held_with o.held (b ∷ [])))) s
        ≡ before_open w (after_bytes (cond t (holding (after_line o.progress o.held) []) (holding o.progress (held_with o.held (b ∷ [])))) s)
    go true i =
        ap (λ (y : Progress). after_bytes (holding y []) s) (line_before w o.progress o.held)
        ∙ i (holding (after_line o.progress o.held) [])
    go false i = i (holding o.progress (held_with o.held (b ∷ [])))

bytes_grow : (o : Chunked) (s : List ℕ) → length o.progress.said ≤ length (after_bytes o s).progress.said
unfolding after_bytes
bytes_grow o [] = omega arith
bytes_grow o (b ∷ s) = go (eqb b 10) (λ p. bytes_grow p s)
  where
    go : (t : Bool) → ((p : Chunked) → length p.progress.said ≤ length (after_bytes p s).progress.said)
        → length o.progress.said
        ≤ length (after_bytes (cond t (holding (after_line o.progress o.held) []) (holding o.progress (held_with o.held (b ∷ [])))) s).progress.said
    go true i = let g = line_grows o.progress o.held in let j = i (holding (after_line o.progress o.held) []) in omega arith
    go false i = i (holding o.progress (held_with o.held (b ∷ [])))

-- ---- the loop over a chunk's lines
-- what `line_at` finds inside a log: where a line starts and ends, and where the next starts
abbrev Found : List ℕ → (at b e n : ℕ) → Type 0
Found s at b e n = (b ≡ at) × ((e ≡ end_of s at) × (n ≡ cond (ltb (end_of s at) (length s)) (end_of s at + 1) (end_of s at)))

found_below : (s : List ℕ) (at : ℕ) (l : Span) → line_at s at ≡ Some l → at < length s
found_below s at l f = omega (arith, line-within s at l f)

found_at : (s : List ℕ) (at : ℕ) (l : Span) → line_at s at ≡ Some l → Found s at l.start l.end l.next
unfolding line_at
found_at s at l f =
    let h : at < length s = found_below s at l f in
    let g = rw (lt-ltb at (length s) h) at f in
    (cc, (cc, cc))

-- a line within the log
pub span_in : (s : List ℕ) (at : ℕ) (l : Span) {o : Option Span} → o ≡ line_at s at → o ≡ Some l
    → (l.start ≤ l.end) × (l.end ≤ length s) × (at < l.next) × (l.next ≤ length s)
span_in s at l p q = line-within s at l (sym p ∙ q)

pub end-past : (s : List ℕ) (at : ℕ) → line_at s at ≡ None → length s ≤ at
unfolding line_at
end-past s at f =
    elim (dec_lt at (length s)) [
      | yes h ↦
          let g = rw (lt-ltb at (length s) h) at f in
          let z : ◌≡◌ {A = ℕ} 0 1 = cc in
          omega arith
      | no h ↦ omega arith
    ]

-- a line that ends in the chunk
chunk_line : (s : List ℕ) (at b e n : ℕ) → Found s at b e n → at < length s → e < n
    → (want : Chunked) (x : Progress) (h : List ℕ) (y : Progress) → AfterChunked want (after_bytes (holding x h) (drop at s))
    → After (after_line x (h ++ take (e - b) (drop b s))) y → AfterChunked want (after_bytes (holding y []) (drop n s))
chunk_line s at b e n found l m want x h y w a = go (ltb (end_of s at) (length s)) refl found.1.1
  where
    go : (t : Bool) → ltb (end_of s at) (length s) ≡ t → n ≡ cond t (end_of s at + 1) (end_of s at) → AfterChunked want (after_bytes (holding y []) (drop n s))
    go false d c = absurd (omega (arith, found.1.0))
    go true d c =
        let k = ltb-true (end_of s at) (length s) d in
        let r : List ℕ = drop at s in
        let u : e - at ≡ to_lf r = omega (arith, found.1.0) in
        let v : at + suc (to_lf r) ≡ n = omega arith in
        let g : to_lf r < length r = omega (arith, length-drop at s) in
        let a' : after_line x (h ++ take (to_lf r) r) ≡ before a.written y = rw (found.0, u) at a.same in
        let i : after_bytes (holding x h) r ≡ before_open a.written (after_bytes (holding y []) (drop n s)) =
        split-line x h r g
        ∙ ap (λ (z : Progress). after_bytes (holding z []) (drop (suc (to_lf r)) r)) a'
        ∙ ap (after_bytes (holding (before a.written y) [])) (drop-drop (suc (to_lf r)) at s ∙ ap (λ (j : ℕ). drop j s) v)
        ∙ bytes-before a.written (holding y []) (drop n s) in
        let j = rw i at w in
        let z : List ℕ = (after_bytes (holding y []) (drop n s)).progress.said in
        let o : length (after_line x (h ++ take (e - b) (drop b s))).said ≡ length a.written + length y.said =
        ap (λ (q : Progress). length q.said) a.same ∙ length-append a.written y.said in
        let small : length (a.written ++ z) ≤ roomy → a.written ≡ [] =
        λ p. a.whole (omega (arith, length-append a.written z, bytes_grow (holding y []) (drop n s))) in
        record {
          progress = after_trans j.progress (record { written = a.written; same = refl; whole = small });
          held = j.held;
        }

pub line_ended : (s : List ℕ) (at : ℕ) (l : Span) → line_at s at ≡ Some l → l.end < l.next → (want o q : Chunked) → AfterChunked want (after_bytes o (drop at s))
    → After (after_line o.progress (o.held ++ take (l.end - l.start) (drop l.start s))) q.progress → q.held ≡ [] → AfterChunked want (after_bytes q (drop l.next s))
line_ended s at l f m want o q w a h =
    let c = chunk_line s at l.start l.end l.next (found_at s at l f) (found_below s at l f) m want o.progress o.held q.progress w a in
    subst (λ (k : List ℕ). AfterChunked want (after_bytes (holding q.progress k) (drop l.next s))) (sym h) c

pub bytes-done : (s : List ℕ) (at : ℕ) (o : Chunked) → length s ≤ at → after_bytes o (drop at s) ≡ o
unfolding after_bytes
bytes-done s at o h = rw (drop_of_length-le s h)

-- the rest of a chunk
chunk_rest : (s : List ℕ) (at b e n : ℕ) → Found s at b e n → at < length s → n ≤ e
    → (want : Chunked) (x : Progress) (h : List ℕ) → AfterChunked want (after_bytes (holding x h) (drop at s))
    → (length s ≤ n) × AfterChunked want (holding x (held_with h (take (e - b) (drop b s))))
chunk_rest s at b e n found l m want x h w = go (ltb (end_of s at) (length s)) refl found.1.1
  where
    go : (t : Bool) → ltb (end_of s at) (length s) ≡ t → n ≡ cond t (end_of s at + 1) (end_of s at) → (length s ≤ n) × AfterChunked want (holding x (held_with h (take (e - b) (drop b s))))
    go true d c = absurd (omega (arith, found.1.0))
    go false d c =
        let o = ltb-false (end_of s at) (length s) d in
        let v = end_of_within s at (omega arith) in
        let r : List ℕ = drop at s in
        let g : length r ≡ length s - at = length-drop at s in
        let u : to_lf r ≡ length r = omega arith in
        let i : take (e - b) (drop b s) ≡ r = rw found.0 (take_all (e - at) r (omega (arith, found.1.0))) in
        (omega arith, rw i (rw (split-some x h r (omega arith) u) at w))

pub line_rests : (s : List ℕ) (at : ℕ) (l : Span) → line_at s at ≡ Some l → l.next ≤ l.end → (want o : Chunked) → AfterChunked want (after_bytes o (drop at s))
    → (k : List ℕ) → k ≡ held_with o.held (take (l.end - l.start) (drop l.start s)) → AfterChunked want (after_bytes (holding o.progress k) (drop l.next s))
line_rests s at l f m want o w k h =
    let r = chunk_rest s at l.start l.end l.next (found_at s at l f) (found_below s at l f) m want o.progress o.held w in
    rw (bytes-done s l.next (holding o.progress k) r.0, h) r.1
