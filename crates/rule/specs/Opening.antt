-- The answer of the check, in the words of trees. From document 01, "What is turned down", 7 to 10.
-- Assumes nothing: definitions.
use Rattle.std.specs.Prelude.{◌≡◌, List, [], ◌++◌, ℕ, suc, ◌*◌, ◌%◌, ◌≤◌, ◌<◌, length, take}
use Rattle.rule.specs.Limits.{frame_limit, frame_bytes}
use Rattle.rule.specs.Tree.{RuleTree, Limits, postfix, bytes_of, IsRule, references, magnitudes, NoneExceeds}
use Rattle.rule.specs.CheckTold.{CheckAnswer, refused}
use Rattle.rule.specs.CheckTold as checking

-- "8 to 512 in steps of 8"
pub record Whole (n : ℕ) : Type 0 where
  pub least : frame_bytes ≤ n
  pub most : n ≤ frame_limit * frame_bytes
  pub steps : n % frame_bytes ≡ 0

-- some bytes more make a rule, of any length
pub record Begins (s : List ℕ) : Type 0 where
  pub rest : List ℕ
  pub rule : IsRule (s ++ rest)

-- "the first frame that with those before it begins no such rule of any length (their count if only the end is wrong)"
pub record PlaceOf10 (s : List ℕ) (p : ℕ) : Type 0 where
  pub inside : p * frame_bytes ≤ length s
  pub before : Begins (take (p * frame_bytes) s)
  pub here : p * frame_bytes < length s → Begins (take (suc p * frame_bytes) s) → ⊥
  pub end : p * frame_bytes ≡ length s → IsRule s → ⊥

-- each answer, with what holds of the bytes and what the earlier checks leave
pub data Opening (s : List ℕ) : CheckAnswer → Type 0 where
  refused_9 : (Whole (length s) → ⊥) → Opening s (refused 9 0)
  refused_10 : {p : ℕ} → Whole (length s) → PlaceOf10 s p → Opening s (refused 10 p)
  refused_7 : Whole (length s) → (r : IsRule s) → references r.tree ≡ [] → Opening s (refused 7 0)
  refused_8 : Whole (length s) → (r : IsRule s) → (references r.tree ≡ [] → ⊥)
      → (NoneExceeds (magnitudes r.tree) → ⊥) → Opening s (refused 8 0)
  accepted : Whole (length s) → (r : IsRule s) → (references r.tree ≡ [] → ⊥) → NoneExceeds (magnitudes r.tree)
      → Opening s checking.accepted

-- frames that opening takes: of a tree within the limits, at most 64, with a reference, no magnitude over 2^62
pub record Proper (s : List ℕ) : Type 0 where
  pub tree : RuleTree
  pub limits : Limits tree
  pub bytes : s ≡ bytes_of (postfix tree)
  pub short : length (postfix tree) ≤ frame_limit
  pub named : references tree ≡ [] → ⊥
  pub exact : NoneExceeds (magnitudes tree)
