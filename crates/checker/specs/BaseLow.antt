-- The base of an event in one number, as the code keeps it. No public contract cites it. Assumes nothing.
use Rattle.std.specs.Prelude.{◌≡◌, ℕ, Bool, true, false, cond, ◌==◌, Option, Some, None, refl}
use Rattle.std.proofs.Common.{eqb, sym, eqb-true}

-- what stands for the base of "an unreferenced event", which has none; no base is as large
abbrev pub no_base : ℕ
no_base = 4294967295

-- "The base of an event" that a number stands for, if it has one
abbrev pub base_by : ℕ → Option ℕ
base_by low = cond (low == no_base) None (Some low)

-- "The base of an event", if it has one, by the number that stands for it
abbrev pub low_of : Option ℕ → ℕ
low_of None = no_base
low_of (Some low) = low

-- the number is got back
pub low_back : (low : ℕ) → low_of (base_by low) ≡ low
low_back low = go (eqb low no_base) refl
  where
    go : (t : Bool) → eqb low no_base ≡ t → low_of (cond t None (Some low)) ≡ low
    go true q = sym (eqb-true low no_base q)
    go false q = refl
