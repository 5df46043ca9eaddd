-- Examples of the definitions, computed: document 01's first rule, M11, and the decimals of document 02, point 1. Assumes nothing.
use mathlib.Core.Path.{◌≡◌, refl}
use mathlib.Core.Option.{none, some}
use mathlib.Core.List.{List, [], ◌∷◌, ◌++◌, map}
use Prim.Native.Nat.{ℕ, zero, suc, ◌^◌}
use lib.IntN.{ℤ, pos, negsuc}
use lib.ListN.{take}
use Rattle.rule.specs.Frames.{add, subtract, multiply, equal, less, at_most, more, kind_of}
use Rattle.rule.specs.Tree.{Sum, literal, instance, reference, arithmetic, Cond, relation, not, RuleTree, postfix, bytes_of, magnitude}
use Rattle.rule.specs.References.{reference_count}
use Rattle.rule.specs.Order.{order_of}
use Rattle.rule.specs.Sizes.{sizes_fit}
use Rattle.rule.specs.Build.{tree_of}
use Rattle.rule.specs.Check.{checked_of}
use Rattle.rule.specs.CheckTold as checking

-- note 0 of event e at i + o
abbrev t : ℕ → ℤ → Sum
t e o = reference (record { event = e; note = 0; factor = 1; offset = o })

-- a rule without a scale
abbrev pub unscaled : Cond → RuleTree
unscaled c = record { scale = none; condition = c }

abbrev frames : Cond → List ℕ
frames c = bytes_of (postfix (unscaled c))

-- t(out[i]) - t(in[i]) <= 25, with the events in, out
abbrev under : Cond
under = relation at_most (arithmetic subtract (t 1 (pos 0)) (t 0 (pos 0))) (literal 0 25)

abbrev pub latency : RuleTree
latency = unscaled under

latency-frames : frames under
    ≡ 0x03 ∷ 1 ∷ 0 ∷ 1 ∷ 0 ∷ 0 ∷ 0 ∷ 0 ∷ 0x03 ∷ 0 ∷ 0 ∷ 1 ∷ 0 ∷ 0 ∷ 0 ∷ 0 ∷ 0x12 ∷ 0 ∷ 0 ∷ 0 ∷ 0 ∷ 0 ∷ 0 ∷ 0
    ∷ 0x01 ∷ 0 ∷ 0 ∷ 0 ∷ 0 ∷ 0 ∷ 0 ∷ 25 ∷ 0x24 ∷ 0 ∷ 0 ∷ 0 ∷ 0 ∷ 0 ∷ 0 ∷ 0 ∷ []
latency-frames = refl

latency-accepted : checked_of (frames under) ≡ checking.accepted
unfolding checked_of order_of reference_count sizes_fit kind_of
latency-accepted = refl

latency-tree : tree_of (frames under) ≡ latency
unfolding tree_of kind_of
latency-tree = refl

-- t(a[i-2]) > 0: an offset below 0
abbrev before : Cond
before = relation more (t 0 (negsuc 1)) (literal 0 0)

before-frames : frames before
    ≡ 0x03 ∷ 0 ∷ 0 ∷ 1 ∷ 255 ∷ 255 ∷ 255 ∷ 254 ∷ 0x01 ∷ 0 ∷ 0 ∷ 0 ∷ 0 ∷ 0 ∷ 0 ∷ 0 ∷ 0x25 ∷ 0 ∷ 0 ∷ 0 ∷ 0 ∷ 0 ∷ 0 ∷ 0 ∷ []
before-frames = refl

before-accepted : checked_of (frames before) ≡ checking.accepted
unfolding checked_of order_of reference_count sizes_fit kind_of
before-accepted = refl

-- M11: a product of two notes is accepted, plus 1 it is refused with 8
abbrev product : Sum
product = arithmetic multiply (t 0 (pos 0)) (t 1 (pos 0))

m11-magnitude : (magnitude 0 product).amount ≡ 2 ^ 62
m11-magnitude = refl

m11 : checked_of (frames (relation less product (literal 0 1))) ≡ checking.accepted
unfolding checked_of order_of reference_count sizes_fit kind_of
m11 = refl

m11_plus_1 : checked_of (frames (relation less (arithmetic add product (literal 0 1)) (literal 0 1))) ≡ checking.refused 8 0
unfolding checked_of order_of reference_count sizes_fit kind_of
m11_plus_1 = refl

-- the other refusals
no_bytes : checked_of [] ≡ checking.refused 9 0
unfolding checked_of
no_bytes = refl

-- the end is wrong: two frames of the three
cut : checked_of (take 16 (frames before)) ≡ checking.refused 10 2
unfolding checked_of order_of reference_count sizes_fit kind_of
cut = refl

-- a relation over three sums
three : checked_of (take 8 (frames before) ++ frames before) ≡ checking.refused 10 3
unfolding checked_of order_of reference_count sizes_fit kind_of
three = refl

-- i = i
no_note : checked_of (frames (relation equal instance instance)) ≡ checking.refused 7 0
unfolding checked_of order_of reference_count sizes_fit kind_of
no_note = refl

-- ---- 10: each field's limit from both sides
-- a note of an event, at factor × i + offset, more than a literal
abbrev field : ℕ → ℕ → ℕ → ℤ → ℕ → Cond
field e n f o l = relation more (reference (record { event = e; note = n; factor = f; offset = o })) (literal 0 l)

fields-checked : map (λ c. checked_of (frames c))
    (field 7 3 9 (pos 9999) 2147483647 ∷ field 0 0 1 (negsuc 9998) 0
    ∷ field 8 3 9 (pos 9999) 2147483647 ∷ field 7 4 9 (pos 9999) 2147483647 ∷ field 7 3 0 (pos 9999) 2147483647
    ∷ field 7 3 10 (pos 9999) 2147483647 ∷ field 7 3 9 (pos 10000) 2147483647 ∷ field 0 0 1 (negsuc 9999) 0
    ∷ field 7 3 9 (pos 9999) 2147483648 ∷ [])
    ≡ checking.accepted ∷ checking.accepted
    ∷ checking.refused 10 0 ∷ checking.refused 10 0 ∷ checking.refused 10 0
    ∷ checking.refused 10 0 ∷ checking.refused 10 0 ∷ checking.refused 10 0
    ∷ checking.refused 10 1 ∷ []
unfolding checked_of order_of reference_count sizes_fit kind_of
fields-checked = refl

-- 9: lengths, of a rule with 64 frames, and with 65
abbrev plus_ones : ℕ → Sum
plus_ones zero = t 0 (pos 0)
plus_ones (suc n) = arithmetic add (plus_ones n) (literal 0 1)

lengths-checked : map checked_of
    (frames (not (relation more (plus_ones 30) (literal 0 0))) ∷ frames (not (not (relation more (plus_ones 30) (literal 0 0))))
    ∷ take 8 (frames under) ∷ take 7 (frames under) ∷ take 9 (frames under) ∷ [])
    ≡ checking.accepted ∷ checking.refused 9 0 ∷ checking.refused 10 1 ∷ checking.refused 9 0 ∷ checking.refused 9 0 ∷ []
unfolding checked_of order_of reference_count sizes_fit kind_of
lengths-checked = refl

-- ---- decimals, of document 02, point 1
-- a rule with a scale
abbrev pub scaled : ℕ → Cond → RuleTree
scaled k c = record { scale = some k; condition = c }

-- scale 1; t(out[i]) - t(in[i]) <= 12.5: the head, and a literal's decimals in byte 1
abbrev half : RuleTree
half = scaled 1 (relation at_most (arithmetic subtract (t 1 (pos 0)) (t 0 (pos 0))) (literal 1 125))

half-frames : bytes_of (postfix half)
    ≡ 0x04 ∷ 1 ∷ 0 ∷ 0 ∷ 0 ∷ 0 ∷ 0 ∷ 0 ∷ 0x03 ∷ 1 ∷ 0 ∷ 1 ∷ 0 ∷ 0 ∷ 0 ∷ 0 ∷ 0x03 ∷ 0 ∷ 0 ∷ 1 ∷ 0 ∷ 0 ∷ 0 ∷ 0
    ∷ 0x12 ∷ 0 ∷ 0 ∷ 0 ∷ 0 ∷ 0 ∷ 0 ∷ 0 ∷ 0x01 ∷ 1 ∷ 0 ∷ 0 ∷ 0 ∷ 0 ∷ 0 ∷ 125 ∷ 0x24 ∷ 0 ∷ 0 ∷ 0 ∷ 0 ∷ 0 ∷ 0 ∷ 0 ∷ []
half-frames = refl

half-accepted : checked_of (bytes_of (postfix half)) ≡ checking.accepted
unfolding checked_of order_of reference_count sizes_fit kind_of
half-accepted = refl

half-tree : tree_of (bytes_of (postfix half)) ≡ half
unfolding tree_of kind_of
half-tree = refl

-- 10: k and a literal's decimals from both sides; decimals with no head in front
decimals-checked : map (λ t. checked_of (bytes_of (postfix t)))
    (scaled 6 (relation more (t 0 (pos 0)) (literal 6 1)) ∷ scaled 0 (relation more (t 0 (pos 0)) (literal 0 1))
    ∷ scaled 7 (relation more (t 0 (pos 0)) (literal 0 1)) ∷ scaled 6 (relation more (t 0 (pos 0)) (literal 7 1))
    ∷ unscaled (relation more (t 0 (pos 0)) (literal 1 1)) ∷ [])
    ≡ checking.accepted ∷ checking.accepted
    ∷ checking.refused 10 0 ∷ checking.refused 10 2 ∷ checking.refused 10 1 ∷ []
unfolding checked_of order_of reference_count sizes_fit kind_of
decimals-checked = refl

-- 10: a frame of kind 04 alone, twice, and behind a reference
abbrev head1 : List ℕ
head1 = take 8 (bytes_of (postfix half))

heads_checked : map checked_of
    (head1 ∷ (head1 ++ bytes_of (postfix half)) ∷ (take 8 (frames before) ++ bytes_of (postfix half)) ∷ [])
    ≡ checking.refused 10 1 ∷ checking.refused 10 1 ∷ checking.refused 10 1 ∷ []
unfolding checked_of order_of reference_count sizes_fit kind_of
heads_checked = refl

-- 8: a side of a relation is brought to the greater count. A note is at most 2^31 and 2^31 × 10^9 is below 2^62; × 10^10 is above
abbrev wide : ℕ → ℕ → RuleTree
wide k l = scaled k (relation less (t 0 (pos 0)) (arithmetic multiply (literal 6 1) (literal l 1)))

sides-checked : map (λ t. checked_of (bytes_of (postfix t))) (wide 3 6 ∷ wide 2 6 ∷ wide 0 3 ∷ wide 0 4 ∷ [])
    ≡ checking.accepted ∷ checking.refused 8 0 ∷ checking.accepted ∷ checking.refused 8 0 ∷ []
unfolding checked_of order_of reference_count sizes_fit kind_of
sides-checked = refl
