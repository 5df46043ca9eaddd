-- The pass over the references finds each event's base and the first instance, and 12 by it is 12. Assumes nothing.
use Rattle.std.proofs.Common.{◌≡◌, ℕ, zero, suc, ◌+◌, ◌-◌, ◌*◌, ◌<◌, ◌≤◌, min, Bool, true, false, cond, ◌&&◌, eqb, leb, ◌≢◌, List, [], ◌∷◌, map, length, get_or, take, set, replicate, ℤ, pos, negsuc, ◌+ℤ◌, nat_abs, sym, refl, ap, ◌∙◌, subst, mul-le-mul, suc-mul, add-one, arith, take_all, length-set, get_or-set_other, get_or-set_same, ltb-true, ne_eqb, eqb-true, leb-true}
use Rattle.std.proofs.Math.Bool.{and_comm}
use Rattle.std.proofs.lemmas.Grind.{div_ceil_times}
use Rattle.std.proofs.lemmas.List.Folds.{list_all_more}
use Rattle.std.proofs.lemmas.Nat.{div_below, le-div}
use Rattle.std.proofs.lemmas.Slice.Zip.{length-zip, get_or-zip}
use Rattle.std.specs.Int.{div_ceil}
use Rattle.std.specs.List.{list_all, zip}
use Rattle.std.specs.Prelude.{Option, Some, None}
use borrow.Author.Tests.{eqb-false}
use Rattle.numbers.proofs.Bools.{and-false}
use lib.Signed.{lt_z}
use Rattle.rule.specs.Limits.{event_limit, offset_limit}
use Rattle.rule.specs.Frames.{Bytes, frame_at, frame_count}
use Rattle.rule.specs.Tree.{Reference, RuleTree, LimitsR, IsRule, references}
use Rattle.rule.specs.Build.{tree_of}
use Rattle.rule.specs.Check.{checked_of}
use Rattle.rule.specs.CheckTold as checking
use Rattle.rule.specs.declared.Frame.{Frame}
use Rattle.rule.proofs.Main.{tree-of, frames_exactly}
use Rattle.rule.proofs.Laws.{AllWithin, references-within, reference-at, passed, over-references, over_references, bytes-by}
use Rattle.verdict.specs.Found.{instance_limit, meant_by}
use Rattle.verdict.proofs.Laws.{nat_abs_add}
use Rattle.checker.specs.Limits.{line_limit}
use Rattle.checker.specs.Base.{of_event, is_some, referenced, or_zero, start_at, smallest, base, first_instance, first_for}
use Rattle.checker.specs.State.{Tally}
use Rattle.checker.specs.StateTest.{all_to, count_passes, totals_pass, tally_passes}
use Rattle.checker.specs.BasePass.{lowest, lowered, bases_to, bases_of, Startable, Passable, count_fits, tally_fits}
use Rattle.checker.specs.BasePass.{rounded_up, first_by, first_of, sooner, first_to}
use Rattle.checker.specs.declared.Totals.{Totals}
use Rattle.checker.proofs.Bases.{first-of-most, within_member, first-smallest}

-- ---- the tree of accepted bytes
pub bytes_take : (n : ℕ) (s : List ℕ) → ((i : ℕ) → get_or s i 0 < 256) → Bytes (take n s)
bytes_take n s h = bytes-by (take n s) (λ i l. at n s i (h i))
  where
    at : (n : ℕ) (s : List ℕ) (i : ℕ) → get_or s i 0 < 256 → get_or (take n s) i 0 < 256
    at zero s i h = omega arith
    at (suc n) [] i h = omega arith
    at (suc n) (x ∷ xs) zero h = h
    at (suc n) (x ∷ xs) (suc i) h = at n xs i h

pub accepted-rule : {s : List ℕ} → Bytes s → checked_of s ≡ checking.accepted → IsRule s
accepted-rule b e = let p = (frames_exactly b).0 e in record { tree = p.tree; limits = p.limits; bytes = p.bytes }

pub within_in : {s : List ℕ} → Bytes s → checked_of s ≡ checking.accepted → AllWithin (references (tree_of s))
within_in {s} b e =
    let r : IsRule s = accepted-rule b e in
    subst (λ (t : RuleTree). AllWithin (references t)) (sym (tree-of r)) (references-within r.tree r.limits)

-- ---- the steps of the pass
pub startable : (s : List ℕ) (p k : ℕ) → Passable s p → k < frame_count s → (x : Frame) → x ≡ frame_at s k → Startable p x
startable s p k h l x e =
    subst (λ (y : Frame). Startable p y) (sym e)
    (record { instance_in = h.instance_in; limits = λ q. reference-at s k l (passed s h.accepted) q })

-- what it holds after the first k frames
pub record PassHolds (s : List ℕ) (p k : ℕ) (bases : List (Option ℕ)) (first : ℕ) : Type 0 where
  pub long : length bases ≡ event_limit
  pub its_bases : bases ≡ bases_to s p k
  pub its_first : first ≡ first_to s k

-- ---- an event's references
event-within : (e : ℕ) (rs : List Reference) → AllWithin rs → AllWithin (of_event e rs)
unfolding of_event
event-within e [] w = tt
event-within e (r ∷ rs) w = go (eqb r.event e) (event-within e rs w.1)
  where
    go : (t : Bool) → AllWithin (of_event e rs) → AllWithin (cond t (r ∷ of_event e rs) (of_event e rs))
    go true i = (w.0, i)
    go false i = i

-- none is referenced from 8 on
pub high_none : (e : ℕ) (rs : List Reference) → AllWithin rs → 8 ≤ e → referenced rs e ≡ false
unfolding referenced of_event
high_none e [] w h = refl
high_none e (r ∷ rs) w h =
    let q : eqb r.event e ≡ false = ne_eqb r.event e (λ z. omega (arith, w.0.event)) in
    rw q (high_none e rs w.1 h)

-- ---- the smallest, taken one by one
abbrev min_over : ℕ → List ℕ → ℕ
min_over a [] = a
min_over a (n ∷ ns) = min_over (min a n) ns

min-over : (a : ℕ) (ns : List ℕ) → min_over a ns ≡ smallest (a ∷ ns)
unfolding smallest
min-over a [] = refl
min-over a (n ∷ []) = refl
min-over a (n ∷ (m ∷ ns)) = min-over (min a n) (m ∷ ns) ∙ regroup (smallest (m ∷ ns))
  where
    regroup : (x : ℕ) → min (min a n) x ≡ min a (min n x)
    regroup x = omega arith

smallest-first : (n : ℕ) (ns : List ℕ) → smallest (n ∷ ns) ≤ n
unfolding smallest
smallest-first n [] = omega arith
smallest-first n (m ∷ ns) = omega arith

-- the smallest so far, if there was a number, with others
abbrev lows : Option ℕ → List ℕ → Option ℕ
lows a [] = a
lows a (n ∷ ns) = lows (Some (lowest a n)) ns

lows-some : (a : ℕ) (ns : List ℕ) → lows (Some a) ns ≡ Some (min_over a ns)
lows-some a [] = refl
lows-some a (n ∷ ns) = lows-some (min a n) ns

at_same : (ls : List (Option ℕ)) (f e a : ℕ) → f ≡ e → e < length ls
    → get_or (set ls f (Some (lowest (get_or ls f None) a))) e None ≡ Some (lowest (get_or ls e None) a)
at_same ls f e a q h = rw q (get_or-set_same ls e (Some (lowest (get_or ls e None) a)) None h)

low-over : (p e : ℕ) (rs : List Reference) (ls : List (Option ℕ)) → e < length ls
    → get_or (over_references (lowered p) rs ls) e None ≡ lows (get_or ls e None) (map (start_at p) (of_event e rs))
unfolding of_event
low-over p e [] ls h = refl
low-over p e (r ∷ rs) ls h =
    low-over p e rs (lowered p r ls) (rw (length-set ls r.event (Some (lowest (get_or ls r.event None) (start_at p r)))) h) ∙ go (eqb r.event e) refl
  where
    go : (t : Bool) → eqb r.event e ≡ t
        → lows (get_or (lowered p r ls) e None) (map (start_at p) (of_event e rs)) ≡ lows (get_or ls e None) (map (start_at p) (cond t (r ∷ of_event e rs) (of_event e rs)))
    go true d = ap (λ (n : Option ℕ). lows n (map (start_at p) (of_event e rs))) (at_same ls r.event e (start_at p r) (eqb-true r.event e d) h)
    go false d =
        ap (λ (n : Option ℕ). lows n (map (start_at p) (of_event e rs)))
        (get_or-set_other ls r.event e (Some (lowest (get_or ls r.event None) (start_at p r))) None (λ z. eqb-false r.event e d (sym z)))

-- ---- where a reference starts
or_zero_size : (z : ℤ) → or_zero (meant_by z) ≤ nat_abs z
or_zero_size (pos k) = omega arith
or_zero_size (negsuc k) = omega arith

start-most : (p : ℕ) (r : Reference) → LimitsR r → p ≤ instance_limit → start_at p r ≤ 9099990
start-most p r l h =
    let m : r.factor * p ≤ 9 * 1009999 = mul-le-mul l.factor h in
    let n : nat_abs (pos (r.factor * p) +ℤ r.offset) ≤ r.factor * p + nat_abs r.offset = nat_abs_add (pos (r.factor * p)) r.offset in
    let o : nat_abs r.offset ≤ 9999 = l.offset in
    let z : start_at p r ≤ nat_abs (pos (r.factor * p) +ℤ r.offset) = or_zero_size (pos (r.factor * p) +ℤ r.offset) in
    omega arith

-- ---- what the pass holds of an event that is referenced, and of one that is not
abbrev pub BaseIs : Bool → ℕ → Option ℕ → Type 0
BaseIs true b low = (low ≡ Some b) × (b ≤ 9099990)
BaseIs false b low = low ≡ None

-- taken one by one from a number that the first does not exceed
min-from : (f : Reference → ℕ) (m : ℕ) (r : Reference) (l : List Reference) → f r ≤ m → min_over m (map f (r ∷ l)) ≡ smallest (map f (r ∷ l))
min-from f m r l h =
    let e : min m (f r) ≡ f r = omega arith in
    ap (λ (n : ℕ). min_over n (map f l)) e ∙ min-over (f r) (map f l)

low_by : (p : ℕ) (low : Option ℕ) (l : List Reference) → AllWithin l → p ≤ instance_limit → low ≡ lows None (map (start_at p) l)
    → BaseIs (is_some l) (smallest (map (start_at p) l)) low
low_by p low [] w h q = q
low_by p low (r ∷ l) w h q =
    let m : start_at p r ≤ 9099990 = start-most p r w.0 h in
    let e : low ≡ Some (smallest (start_at p r ∷ map (start_at p) l)) =
    q ∙ lows-some (start_at p r) (map (start_at p) l) ∙ ap Some (min-over (start_at p r) (map (start_at p) l)) in
    let s : smallest (start_at p r ∷ map (start_at p) l) ≤ start_at p r = smallest-first (start_at p r) (map (start_at p) l) in
    (e, omega arith)

nones : (n e : ℕ) → ◌≡◌ {A = Option ℕ} (get_or (replicate n None) e None) None
nones zero e = refl
nones (suc n) zero = refl
nones (suc n) (suc e) = nones n e

pub base-is : {s : List ℕ} → Bytes s → checked_of s ≡ checking.accepted → (p e : ℕ) → p ≤ instance_limit → e < 8
    → BaseIs (referenced (references (tree_of s)) e) (base (references (tree_of s)) e p) (get_or (bases_of s p) e None)
unfolding bases_of referenced base
base-is {s} b q p e h l =
    let r : IsRule s = accepted-rule b q in
    let ls : List (Option ℕ) = replicate event_limit None in
    let refs : List Reference = references (tree_of s) in
    let over : bases_of s p ≡ over_references (lowered p) refs ls =
    over-references (lowered p) r ls ∙ ap (λ (t : RuleTree). over_references (lowered p) (references t) ls) (sym (tree-of r)) in
    low_by p (get_or (bases_of s p) e None) (of_event e refs) (event-within e refs (within_in b q)) h
    (ap (λ (x : List (Option ℕ)). get_or x e None) over ∙ low-over p e refs ls l ∙ ap (λ (n : Option ℕ). lows n (map (start_at p) (of_event e refs))) (nones event_limit e))

-- ---- the first instance
-- by the offset's sign
rounded-up : (n d : ℕ) → 1 ≤ d → div_ceil n d ≡ rounded_up n d
rounded-up n d h =
    let q : ℕ = div_ceil n d in
    let t = div_ceil_times n d h in
    let low : q ≤ rounded_up n d = le-div q (n + (d - 1)) d h (omega (arith, t.1)) in
    let more : n + (d - 1) < suc q * d = rw (suc-mul q d) (omega (arith, t.0)) in
    omega (arith, div_below (n + (d - 1)) d (suc q) h more)

pub first_below : (f : ℕ) (z : ℤ) → 1 ≤ f → lt_z z (pos 0) ≡ true → div_ceil (nat_abs z) f ≡ first_by f z
first_below f (pos k) h e = absurd (let l : k < 0 = ltb-true k 0 e in omega arith)
first_below f (negsuc k) h e = rounded-up (suc k) f h

first-over : (rs : List Reference) (first : ℕ) → over_references sooner rs first ≡ min_over first (map first_of rs)
first-over [] first = refl
first-over (r ∷ rs) first = first-over rs (min first (first_of r))

first-from : (rs : List Reference) → rs ≢ [] → AllWithin rs → min_over offset_limit (map first_of rs) ≡ first_instance rs
first-from [] n w = absurd (n refl)
first-from (r ∷ rs) n w =
    min-from first_of offset_limit r rs (first-of-most r w.0) ∙ sym (first-smallest (r ∷ rs) n (within_member (r ∷ rs) w))

first-is : {s : List ℕ} → Bytes s → checked_of s ≡ checking.accepted → first_to s (frame_count s) ≡ first_for s
unfolding accepted-rule
first-is {s} b q =
    let r : IsRule s = accepted-rule b q in
    let some : references (tree_of s) ≢ [] = λ z. ((frames_exactly b).0 q).named (ap references (sym (tree-of r)) ∙ z) in
    over-references sooner r offset_limit
    ∙ first-over (references r.tree) offset_limit
    ∙ ap (λ (t : RuleTree). min_over offset_limit (map first_of (references t))) (sym (tree-of r))
    ∙ first-from (references (tree_of s)) some (within_in b q)

-- what it holds in the end
pub pass-found : {s : List ℕ} → Bytes s → (p k : ℕ) → Passable s p → k ≡ frame_count s → (bases : List (Option ℕ)) (first : ℕ) → PassHolds s p k bases first
    → (bases ≡ bases_of s p) × (first ≡ first_for s)
unfolding bases_of
pass-found {s} b p k h e bases first x =
    (x.its_bases ∙ ap (bases_to s p) e, x.its_first ∙ ap (first_to s) e ∙ first-is b h.accepted)

-- ---- 12
count_same : (t : Bool) (b : ℕ) (low : Option ℕ) (w c : ℕ) → BaseIs t b low → count_fits w low c ≡ (leb c line_limit && cond t (leb c (b + w)) (eqb c 0))
count_same true b low w c l = rw l.0
count_same false b low w c l = rw l

all_same : (n : ℕ) (f g : ℕ → Bool) → ((e : ℕ) → e < n → f e ≡ g e) → all_to n f ≡ all_to n g
unfolding all_to
all_same zero f g h = refl
all_same (suc n) f g h = rw (h n (omega arith), all_same n f g (λ e l. h e (omega arith)))

pub tally-same : {s : List ℕ} → Bytes s → checked_of s ≡ checking.accepted → (w : ℕ) (counts : List ℕ) (p : ℕ) (totals : Totals)
    → tally_fits s w counts p totals ≡ tally_passes (references (tree_of s)) w (record { counts = counts; next = p; totals = totals })
unfolding tally_fits tally_passes count_passes
tally-same {s} b q w counts p totals = go (leb p instance_limit) refl
  where
    t : Tally
    t = record { counts = counts; next = p; totals = totals }

    refs : List Reference
    refs = references (tree_of s)

    all : p ≤ instance_limit → all_to event_limit (λ e. count_fits w (get_or (bases_of s p) e None) (get_or counts e 0)) ≡ all_to event_limit (count_passes refs w t)
    all h = all_same 8 (λ e. count_fits w (get_or (bases_of s p) e None) (get_or counts e 0)) (count_passes refs w t)
        (λ e l. count_same (referenced refs e) (base refs e p) (get_or (bases_of s p) e None) w (get_or counts e 0) (base-is b q p e h l))

    go : (x : Bool) → leb p instance_limit ≡ x
        → (x && (all_to event_limit (λ e. count_fits w (get_or (bases_of s p) e None) (get_or counts e 0)) && totals_pass (first_for s) p totals))
        ≡ (all_to event_limit (count_passes refs w t) && (x && totals_pass (first_for s) p totals))
    go true d = ap (λ (a : Bool). a && totals_pass (first_for s) p totals) (all (leb-true p instance_limit d))
    go false d = sym (and-false (all_to event_limit (count_passes refs w t)))

-- ---- every event, over lists
all-taken : {A : Type 0} (p : A → Bool) (d : A) (xs : List A) (n : ℕ) → n ≤ length xs → list_all p (take n xs) ≡ all_to n (λ i. p (get_or xs i d))
unfolding all_to
all-taken p d xs zero h = refl
all-taken p d xs (suc n) h =
    rw (← add-one n, list_all_more p xs n d (omega arith), all-taken p d xs n (omega arith)) (and_comm (all_to n (λ i. p (get_or xs i d))) (p (get_or xs n d)))

pub zip-fit : (w : ℕ) (bases : List (Option ℕ)) (counts : List ℕ) → length bases ≡ event_limit → length counts ≡ event_limit
    → list_all (λ (x : Option ℕ × ℕ). count_fits w x.0 x.1) (zip bases counts) ≡ all_to event_limit (λ e. count_fits w (get_or bases e None) (get_or counts e 0))
zip-fit w bases counts h k =
    let fit : Option ℕ × ℕ → Bool = λ x. count_fits w x.0 x.1 in
    let n : length (zip bases counts) ≡ 8 = length-zip bases counts ∙ omega arith in
    ap (list_all fit) (sym (take_all 8 (zip bases counts) (omega arith)))
    ∙ all-taken fit (None, 0) (zip bases counts) 8 (omega arith)
    ∙ all_same 8 (λ e. fit (get_or (zip bases counts) e (None, 0))) (λ e. count_fits w (get_or bases e None) (get_or counts e 0))
    (λ e l. ap fit (get_or-zip bases counts e (None, 0) (omega arith) (omega arith)))
