-- What later lines may change of a reference and of a truth value. From document 01, "Verdicts" and "Feeding, pulling and the
-- window". Assumes nothing: definitions.
use Rattle.std.specs.Prelude.{◌≡◌, ◌⊎◌, ℕ, ℤ}
use mathlib.Core.List.{List, ◌++◌, Memᴰ}
use Rattle.rule.specs.Tree.{Reference, RuleTree, references}
use Rattle.verdict.specs.Found.{Found, pending, Given}
use Rattle.verdict.specs.declared.Truth.{Truth}
use Rattle.verdict.specs.declared.Truth.TheVariants.{Unknown}

-- "pending if not yet accepted": with later lines a reference stays as it is, or was pending
abbrev pub Gains : Found → Found → Type 0
Gains a b = (a ≡ b) ⊎ (a ≡ pending)

-- "pending if not yet accepted": the same instance, where references are as other lines make them
abbrev pub with_found : Given → (Reference → Found) → Given
with_found g found = record { instance = g.instance; found = found }

-- so each reference that a rule "names"
abbrev pub GainsIn : RuleTree → (Reference → Found) → (Reference → Found) → Type 0
GainsIn t found found' = (r : Reference) → Memᴰ r (references t) → Gains (found r) (found' r)

-- a truth value stays as it is, or was "unknown"
abbrev pub Sharpens : Truth → Truth → Type 0
Sharpens a b = (a ≡ Unknown) ⊎ (a ≡ b)

-- "per event the list of its accepted lines": the same and perhaps more after them
abbrev pub MoreLines : (ℕ → List (List ℤ)) → (ℕ → List (List ℤ)) → Type 0
MoreLines lines lines' = (e : ℕ) → (more : List (List ℤ)) × (lines e ++ more ≡ lines' e)
