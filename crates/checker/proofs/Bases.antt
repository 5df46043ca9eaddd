-- Laws of a rule's references: an event's base is at most the start of each of its references, is that of one of them, and rises
-- with p; the first instance is the least at which some reference isn't void. Assumes nothing.
use Rattle.std.proofs.Common.{◌≡◌, ℕ, zero, suc, ◌+◌, ◌-◌, ◌*◌, ◌<◌, ◌≤◌, Bool, true, false, cond, ◌||◌, eqb, ltb, ◌≢◌, ◌↔◌, List, [], ◌∷◌, map, ℤ, pos, negsuc, ◌+ℤ◌, ◌*ℤ◌, nat_abs, sym, refl, ap, ◌∙◌, subst, inl, inr, ⊎_elim, mul-le-mul_right, suc-mul, mul_comm, div-lt_iff_lt-mul, mul-le-mul_left, arith, le→leb, leb→le, ltb-true, le-ltb, lt-ltb, eq-eqb, eqb-true}
use mathlib.Core.Bool.{or-true}
use mathlib.Core.List.Memᴰ
use mathlib.Core.List.{Memᴰ}
use lib.IntN.{sub_ℕ, pos-ne-negsuc}
use Rattle.rule.specs.Limits.{offset_limit}
use Rattle.rule.specs.Tree.{Reference, LimitsR}
use Rattle.rule.proofs.Laws.{AllWithin}
use Rattle.numbers.proofs.Bools.{true-false}
use Rattle.verdict.specs.Found.{meant_by, meant, pending, Lookup, resolve}
use Rattle.verdict.specs.declared.Occurrence.{Occurrence}
use Rattle.std.specs.Prelude.{Option, Some, None}
use Rattle.verdict.proofs.Laws.{resolve-late}
use Rattle.checker.specs.Base.{of_event, is_some, referenced, or_zero, start_at, smallest, base}
use Rattle.checker.specs.Base.{ReferenceTo, Referenced, Maximum, SmallestStart}
use Rattle.checker.specs.Base.{is_not_void, some_not_void, first_from, first_instance, SomeNotVoid, FirstInstance}
use Rattle.checker.specs.BasePass.{rounded_up, first_by, first_of}
use Rattle.checker.proofs.Choices.{cond_case, never_true, less_or}

-- ---- an event's references
in_event : (e : ℕ) (refs : List Reference) (r : Reference) → r.event ≡ e → Memᴰ r refs → Memᴰ r (of_event e refs)
unfolding of_event
in_event e [] r q m = elim m [ ]
in_event e (x ∷ xs) r q m =
    ⊎_elim
    (λ (p : r ≡ x). rw (eq-eqb x.event e (ap (λ (y : Reference). y.event) (sym p) ∙ q)) (Memᴰ.head p))
    (λ (n : Memᴰ r xs). cond_case (λ l. Memᴰ r l) (eqb x.event e) _ _ (λ _. Memᴰ.tail (in_event e xs r q n)) (λ _. in_event e xs r q n))
    (Memᴰ.cases_cons m)

event_in_lem : (e : ℕ) (refs : List Reference) (r : Reference) → Memᴰ r (of_event e refs) → ReferenceTo refs e r
unfolding of_event
event_in_lem e [] r m = elim m [ ]
event_in_lem e (x ∷ xs) r m = go (eqb x.event e) refl m (event_in_lem e xs r)
  where
    later : ReferenceTo xs e r → ReferenceTo (x ∷ xs) e r
    later h = record { one = Memᴰ.tail h.one; names = h.names }

    go : (t : Bool) → eqb x.event e ≡ t → Memᴰ r (cond t (x ∷ of_event e xs) (of_event e xs))
        → (Memᴰ r (of_event e xs) → ReferenceTo xs e r) → ReferenceTo (x ∷ xs) e r
    go true d m ih =
        ⊎_elim
        (λ (p : r ≡ x). record { one = Memᴰ.head p; names = ap (λ (y : Reference). y.event) p ∙ eqb-true x.event e d })
        (λ (n : Memᴰ r (of_event e xs)). later (ih n))
        (Memᴰ.cases_cons m)
    go false d m ih = later (ih m)

some_member : (l : List Reference) (r : Reference) → Memᴰ r l → is_some l ≡ true
some_member [] r m = elim m [ ]
some_member (x ∷ xs) r m = refl

some_one : (l : List Reference) → is_some l ≡ true → (r : Reference) × Memᴰ r l
some_one [] q = absurd (true-false (sym q))
some_one (x ∷ xs) q = (x, Memᴰ.head refl)

pub referenced_exactly : (refs : List Reference) (e : ℕ) → (referenced refs e ≡ true) ↔ Referenced refs e
unfolding referenced
referenced_exactly refs e = (
  λ q. (let x = some_one (of_event e refs) q in record { reference = x.0; its = event_in_lem e refs x.0 x.1 }),
  λ h. some_member (of_event e refs) h.reference (in_event e refs h.reference h.its.names h.its.one),
)

pub referenced-below : (n : ℕ) (refs : List Reference) (e : ℕ) → ((r : Reference) → Memᴰ r refs → r.event < n) → referenced refs e ≡ true → e < n
unfolding referenced of_event
referenced-below n [] e h q = absurd (true-false (sym q))
referenced-below n (x ∷ xs) e h q = go (eqb x.event e) refl q (referenced-below n xs e (λ r m. h r (Memᴰ.tail m)))
  where
    go : (t : Bool) → eqb x.event e ≡ t → is_some (cond t (x ∷ of_event e xs) (of_event e xs)) ≡ true → (is_some (of_event e xs) ≡ true → e < n) → e < n
    go true d q ih = omega (arith, eqb-true x.event e d, h x (Memᴰ.head refl))
    go false d q ih = ih q

-- ---- where a reference starts
or_zero_sub : (a b : ℕ) → or_zero (meant_by (sub_ℕ a b)) ≡ a - b
or_zero_sub a b =
    cond_case (λ z. or_zero (meant_by z) ≡ a - b) (ltb a b) (negsuc (b - suc a)) (pos (a - b))
    (λ e. omega (arith, ltb-true a b e))
    (λ e. refl)

or_zero_mono : (z : ℤ) (a b : ℕ) → a ≤ b → or_zero (meant_by (pos a +ℤ z)) ≤ or_zero (meant_by (pos b +ℤ z))
or_zero_mono (pos k) a b h = omega arith
or_zero_mono (negsuc k) a b h = rw (or_zero_sub a (suc k), or_zero_sub b (suc k)) (omega arith)

start_mono : (r : Reference) (p q : ℕ) → p ≤ q → start_at p r ≤ start_at q r
start_mono r p q h = or_zero_mono r.offset (r.factor * p) (r.factor * q) (mul-le-mul_left r.factor h)

-- as a maximum of signed numbers
start-by : (z : ℤ) (n : ℕ) → (or_zero (meant_by z) ≡ n) ↔ Maximum (pos 0) z (pos n)
start-by (pos k) n = (
  λ q. record {
    one = inr (ap pos (sym q));
    first = record { le = le→leb 0 n (omega arith) };
    second = record { le = le→leb k n (omega (arith, q)) };
  },
  λ m. ⊎_elim
      (λ (q : pos n ≡ pos 0). let z : n ≡ 0 = ap nat_abs q in omega (arith, leb→le k n m.second.le))
      (λ (q : pos n ≡ pos k). sym (ap nat_abs q))
      m.one,
)
start-by (negsuc k) n = (
  λ q. record {
    one = inl (ap pos (sym q));
    first = record { le = le→leb 0 n (omega arith) };
    second = record { le = tt };
  },
  λ m. ⊎_elim
      (λ (q : pos n ≡ pos 0). sym (ap nat_abs q))
      (λ (q : pos n ≡ negsuc k). absurd (pos-ne-negsuc n k q))
      m.one,
)

pub start_exactly : (p n : ℕ) (r : Reference)
    → (start_at p r ≡ n) ↔ Maximum (pos 0) (pos r.factor *ℤ pos p +ℤ r.offset) (pos n)
start_exactly p n r = start-by (pos r.factor *ℤ pos p +ℤ r.offset) n

-- ---- the smallest
smallest_le : (f : Reference → ℕ) (l : List Reference) (r : Reference) → Memᴰ r l → smallest (map f l) ≤ f r
unfolding smallest
smallest_le f [] r m = elim m [ ]
smallest_le f (x ∷ []) r m =
    ⊎_elim (λ (p : r ≡ x). omega (arith, ap f p)) (λ (n : Memᴰ r []). elim n [ ]) (Memᴰ.cases_cons m)
smallest_le f (x ∷ (y ∷ l)) r m =
    ⊎_elim
    (λ (p : r ≡ x). omega (arith, ap f p))
    (λ (n : Memᴰ r (y ∷ l)). omega (arith, smallest_le f (y ∷ l) r n))
    (Memᴰ.cases_cons m)

smallest-one : (f : Reference → ℕ) (l : List Reference) (r : Reference) → Memᴰ r l
    → (x : Reference) × Memᴰ x l × (smallest (map f l) ≡ f x)
unfolding smallest
smallest-one f [] r m = elim m [ ]
smallest-one f (x ∷ []) r m = (x, Memᴰ.head refl, refl)
smallest-one f (x ∷ (y ∷ l)) r m =
    let n = smallest-one f (y ∷ l) y (Memᴰ.head refl) in
    ⊎_elim
    (λ (h : f x < smallest (map f (y ∷ l))). (x, Memᴰ.head refl, omega arith))
    (λ (h : smallest (map f (y ∷ l)) ≤ f x). (n.0, Memᴰ.tail n.1, omega (arith, n.2)))
    (less_or (f x) (smallest (map f (y ∷ l))))

smallest_mono : (f g : Reference → ℕ) → ((r : Reference) → f r ≤ g r) → (l : List Reference) → smallest (map f l) ≤ smallest (map g l)
unfolding smallest
smallest_mono f g h [] = omega arith
smallest_mono f g h (x ∷ []) = h x
smallest_mono f g h (x ∷ (y ∷ l)) = omega (arith, h x, smallest_mono f g h (y ∷ l))

pub base_le : (refs : List Reference) (p : ℕ) (r : Reference) → Memᴰ r refs → base refs r.event p ≤ start_at p r
unfolding base
base_le refs p r m = smallest_le (start_at p) (of_event r.event refs) r (in_event r.event refs r refl m)

pub base_exactly : (refs : List Reference) (e p b : ℕ) → Referenced refs e → (base refs e p ≡ b) ↔ SmallestStart refs e p b
unfolding base
base_exactly refs e p b h =
    let n = smallest-one (start_at p) (of_event e refs) h.reference (its_in h.reference h.its) in
    let i = event_in_lem e refs n.0 n.1 in (
      λ q. record {
        reference = n.0;
        its = i;
        equal = sym q ∙ n.2;
        at_most = λ r j. omega (arith, q, least r j);
      },
      λ m. omega (arith, least m.reference m.its, m.equal, m.at_most n.0 i, n.2),
    )
  where
    its_in : (r : Reference) → ReferenceTo refs e r → Memᴰ r (of_event e refs)
    its_in r j = in_event e refs r j.names j.one

    least : (r : Reference) → ReferenceTo refs e r → smallest (map (start_at p) (of_event e refs)) ≤ start_at p r
    least r j = smallest_le (start_at p) (of_event e refs) r (its_in r j)

pub base_mono : (refs : List Reference) (e p q : ℕ) → p ≤ q → base refs e p ≤ base refs e q
unfolding base
base_mono refs e p q h = smallest_mono (start_at p) (start_at q) (λ r. start_mono r p q h) (of_event e refs)

-- ---- the first instance at which a reference isn't void
not_void : (m : Option Occurrence) → (m ≢ None) ↔ (is_not_void m ≡ true)
not_void None = (λ n. absurd (n refl), λ q. absurd (true-false (sym q)))
not_void (Some k) = (λ n. refl, λ q z. true-false (ap is_not_void z))

some-not-void : (refs : List Reference) (i : ℕ) → (some_not_void refs i ≡ true) ↔ SomeNotVoid refs i
unfolding some_not_void
some-not-void [] i = (λ q. absurd (true-false (sym q)), λ h. elim h.one [ ])
some-not-void (x ∷ xs) i = (to (is_not_void (meant i x)) refl (some-not-void xs i).0, back (some-not-void xs i).1)
  where
    to : (t : Bool) → is_not_void (meant i x) ≡ t → (some_not_void xs i ≡ true → SomeNotVoid xs i)
        → (t || some_not_void xs i) ≡ true → SomeNotVoid (x ∷ xs) i
    to true e ih q = record { reference = x; one = Memᴰ.head refl; not_void = (not_void (meant i x)).1 e }
    to false e ih q = let h = ih q in record { reference = h.reference; one = Memᴰ.tail h.one; not_void = h.not_void }

    back : (SomeNotVoid xs i → some_not_void xs i ≡ true) → SomeNotVoid (x ∷ xs) i → (is_not_void (meant i x) || some_not_void xs i) ≡ true
    back ih h =
        ⊎_elim
        (λ (p : h.reference ≡ x). rw ((not_void (meant i x)).0 (λ z. h.not_void (ap (meant i) p ∙ z))))
        (λ (m : Memᴰ h.reference xs).
        rw (ih (record { reference = h.reference; one = m; not_void = h.not_void })) (or-true (is_not_void (meant i x))))
        (Memᴰ.cases_cons h.one)

first_found : (n i m : ℕ) (f : ℕ → Bool) → i ≤ m → m ≤ i + n → f m ≡ true → ((j : ℕ) → j < m → f j ≡ false) → first_from n i f ≡ m
unfolding first_from
first_found zero i m f a b t none = omega arith
first_found (suc n) i m f a b t none =
    ⊎_elim
    (λ (l : i < m). rw (none i l) (first_found n (i + 1) m f (omega arith) (omega arith) t none))
    (λ (l : m ≤ i). let e : i ≡ m = omega arith in rw (e, t))
    (less_or i m)

-- by the offset's sign, as a quotient
round_exactly : (n d i : ℕ) → 1 ≤ d → (rounded_up n d ≤ i) ↔ (n ≤ d * i)
round_exactly n d i h =
    let b = div-lt_iff_lt-mul {k = d} {x = n + (d - 1)} {y = suc i} (omega arith) in
    let m = suc-mul i d in
    let c = mul_comm i d in (
      λ l. omega (arith, b.0 (omega (arith, l)), m, c),
      λ l. omega (arith, b.1 (omega (arith, l, m, c))),
    )

void-sub : (a b : ℕ) → (meant_by (sub_ℕ a b) ≢ None) ↔ (b ≤ a)
void-sub a b = (
  λ n. ⊎_elim (λ (h : a < b). absurd (n (rw (lt-ltb a b h)))) (λ (h : b ≤ a). h) (less_or a b),
  λ h. (not_void (meant_by (sub_ℕ a b))).1 (rw (le-ltb a b h)),
)

void-by : (f i : ℕ) (z : ℤ) → 1 ≤ f → (meant_by (pos (f * i) +ℤ z) ≢ None) ↔ (first_by f z ≤ i)
void-by f i (pos k) h = (λ n. omega arith, λ l q. true-false (ap is_not_void q))
void-by f i (negsuc k) h =
    let s = void-sub (f * i) (suc k) in
    let r = round_exactly (suc k) f i h in
    (λ n. r.1 (s.0 n), λ l. s.1 (r.0 l))

first-by-most : (f : ℕ) (z : ℤ) → 1 ≤ f → nat_abs z ≤ offset_limit → first_by f z ≤ offset_limit
first-by-most f (pos k) h l = omega arith
first-by-most f (negsuc k) h l = (round_exactly (suc k) f offset_limit h).1 (omega (arith, l, mul-le-mul_right offset_limit h))

pub first-of-most : (r : Reference) → LimitsR r → first_of r ≤ offset_limit
first-of-most r l = first-by-most r.factor r.offset l.least l.offset

pub within_member : (rs : List Reference) → AllWithin rs → (r : Reference) → Memᴰ r rs → LimitsR r
within_member [] a r m = elim m [ ]
within_member (x ∷ xs) a r m =
    ⊎_elim
    (λ (p : r ≡ x). subst LimitsR (sym p) a.0)
    (λ (n : Memᴰ r xs). within_member xs a.1 r n)
    (Memᴰ.cases_cons m)

-- of a rule: the search finds the smallest of the quotients
module _ (refs : List Reference) (some : refs ≢ []) (limits : (r : Reference) → Memᴰ r refs → LimitsR r) where
  one-first : (x : Reference) × Memᴰ x refs × (smallest (map first_of refs) ≡ first_of x)
  one-first = go refs refl
    where
      go : (l : List Reference) → refs ≡ l → (x : Reference) × Memᴰ x refs × (smallest (map first_of refs) ≡ first_of x)
      go [] q = absurd (some q)
      go (r ∷ l) q = smallest-one first_of refs r (rw q (Memᴰ.head refl))

  smallest-on : (i : ℕ) → SomeNotVoid refs i ↔ (smallest (map first_of refs) ≤ i)
  smallest-on i = (
    λ s. (let r = s.reference in
        omega (arith, smallest_le first_of refs r s.one, (void-by r.factor i r.offset (limits r s.one).least).0 s.not_void)),
    λ h. (let x = one-first in record {
      reference = x.0;
      one = x.1;
      not_void = (void-by x.0.factor i x.0.offset (limits x.0 x.1).least).1 (omega (arith, x.2, h));
    }),
  )

  smallest-most : smallest (map first_of refs) ≤ offset_limit
  smallest-most = let x = one-first in omega (arith, x.2, first-of-most x.0 (limits x.0 x.1))

  pub first-smallest : first_instance refs ≡ smallest (map first_of refs)
  unfolding first_instance
  first-smallest =
      let q = smallest (map first_of refs) in
      first_found offset_limit 0 q (some_not_void refs) (omega arith) (omega (arith, smallest-most))
      ((some-not-void refs q).1 ((smallest-on q).1 (omega arith)))
      (λ j l. never_true (some_not_void refs j) (λ t. absurd (omega (arith, l, (smallest-on j).0 ((some-not-void refs j).0 t)))))

  pub first_on : (i : ℕ) → SomeNotVoid refs i ↔ (first_instance refs ≤ i)
  first_on i = rw first-smallest (smallest-on i)

  pub first_exactly : (n : ℕ) → (first_instance refs ≡ n) ↔ FirstInstance refs n
  first_exactly n = (
    λ q. record {
      some = (first_on n).1 (omega (arith, q));
      least = λ i s. omega (arith, q, (first_on i).0 s);
    },
    λ f. (let m = first_instance refs in omega (arith, (first_on n).0 f.some, f.least m ((first_on m).1 (omega arith)))),
  )

  pub first-most : first_instance refs ≤ offset_limit
  first-most = omega (arith, first-smallest, smallest-most)

-- ---- an instance so late that 1,000,000 lines do not reach its references
pub late-pending : (l : Lookup) (r : Reference) (p : ℕ) → 1 ≤ r.factor → nat_abs r.offset ≤ 9999 → l.count r.event ≤ 1000000 → 1009999 ≤ p
    → resolve l p r ≡ pending
late-pending l r p h₁ h₂ h₃ h₄ = resolve-late l p r (omega (arith, mul-le-mul_right p h₁))
