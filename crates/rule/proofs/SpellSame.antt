-- Names and numbers of a tree stand at tokens of the text; 4, 5 and 18 by the reader's codes and capped values are 4, 5 and 18 by
-- letters and decimal values. Assumes nothing.
use mathlib.Core.Path.{◌≡◌}
use mathlib.Core.List.{List, [], Memᴰ}
use Prim.Native.Nat.{ℕ}
use Rattle.rule.specs.Class.{Letters}
use Rattle.rule.specs.Token.{name_kind, tokens}
use Rattle.rule.specs.Grammar.{Rule, yield, words}
use Rattle.rule.specs.Measure.{Named, names, Sized, numbers}
use Rattle.rule.proofs.ReaderRefusals.{first-name, first-number, first-decimals}
use Rattle.rule.specs.Memory.{code_at, value_at, decimals_at}
use Rattle.rule.specs.Spelling.{TokenOf, NumberOf, name_at, first_name, first_number, first_decimals, letters}
use Rattle.rule.proofs.SpellLists.{all_in}
use Rattle.rule.proofs.SpellTokens
use Rattle.rule.proofs.SpellNames
use Rattle.rule.proofs.SpellNumbers

module _ (text : List ℕ) (x : Rule) where
  -- each name of a tree stands at a name token of the text, and its bytes are letters
  pub names-lettered : yield x ≡ words (tokens text) → (n : Named) → Memᴰ n (names x) → TokenOf text name_kind (name_at n) × Letters (letters text (name_at n))
  names-lettered y n i =
      (all_in (λ m. TokenOf text name_kind (name_at m)) i (SpellTokens.names-tokens text x y), all_in (λ m. Letters (letters text (name_at m))) i (SpellTokens.names-lettered text x y))

  -- each number of a tree stands at a number token of the text, and its bytes are digits, or is a literal and stands at a decimal
  pub numbers-digits : yield x ≡ words (tokens text) → (n : Sized) → Memᴰ n (numbers x) → NumberOf text n
  numbers-digits y n i = all_in (NumberOf text) i (SpellTokens.numbers-tokens text x y)

  -- 4: the first bad name by codes is the first by letters
  pub first-name-same : yield x ≡ words (tokens text) → first-name (code_at text) (value_at text) (decimals_at text) [] (names x) ≡ first_name text [] (names x)
  first-name-same y = SpellNames.first-name-same text [] (names x) tt (SpellTokens.names-lettered text x y)

  -- 5: the first number beyond its limit by capped values is the first by decimal values
  pub first-number-same : first-number (code_at text) (value_at text) (decimals_at text) (numbers x) ≡ first_number text (numbers x)
  first-number-same = SpellNumbers.first-number-same text (numbers x)

  -- 18: the first of too many decimals by capped values is the first by decimal values
  pub first-decimals-same : first-decimals (code_at text) (value_at text) (decimals_at text) (numbers x) ≡ first_decimals text (numbers x)
  first-decimals-same = SpellNumbers.first-decimals-same text (numbers x)
