-- Terms and their counts of decimals. From document 02, point 1. Assumes nothing: definitions.
use Rattle.std.specs.Prelude.{ℕ, ◌+◌, ◌-◌, ◌^◌, max}

-- "A term has a value and a count of decimals"
pub record Term (A : Type 0) : Type 0 where
  pub amount : A
  pub decimals : ℕ

-- of its parts
abbrev pub term : {A : Type 0} → A → ℕ → Term A
term v d = record { amount = v; decimals = d }

-- "the greater count"
abbrev pub greater : {A : Type 0} → Term A → Term A → ℕ
greater x y = max x.decimals y.decimals

module _ {A : Type 0} (times : A → ℕ → A) where
  -- "bring .. exactly to the .. count" d: multiplied by a power of ten
  abbrev pub brought : ℕ → Term A → A
  brought d x = times x.amount (10 ^ (d - x.decimals))

  -- "both sides" of a sum or a relation, brought "to the greater count"
  abbrev pub left_side : Term A → Term A → A
  left_side x y = brought (greater x y) x

  -- the right one
  abbrev pub right_side : Term A → Term A → A
  right_side x y = brought (greater x y) y

  -- "Sums .. bring both sides exactly to the greater count"
  abbrev pub joined : (A → A → A) → Term A → Term A → Term A
  joined f x y = term (f (left_side x y) (right_side x y)) (greater x y)

-- "a product adds the counts"
abbrev pub multiplied : {A : Type 0} → (A → A → A) → Term A → Term A → Term A
multiplied f x y = term (f x.amount y.amount) (x.decimals + y.decimals)
