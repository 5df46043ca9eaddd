-- What a tree means by codes and capped values is what it means by letters and decimal values, where no name, no number and no
-- decimals are bad.
-- Assumes nothing.
use mathlib.Core.Path.{◌≡◌, refl, ap, ap₂, sym, ◌∙◌}
use mathlib.Core.Option.{Option, none, some}
use mathlib.Core.List.{List, []}
use Prim.Native.Nat.{ℕ}
use Rattle.rule.specs.Grammar.{Rule, rule, yield, words}
use Rattle.rule.specs.Scale.{head_of}
use Rattle.rule.specs.Tree
use Rattle.rule.specs.Token.{tokens}
use Rattle.rule.specs.Measure.{frames, Named, declared, used, Sized, sized_by, flat, names_of, numbers_of, header, names, numbers}
use Rattle.rule.proofs.ReaderRefusals.{codes}
use Rattle.rule.specs.Memory.{position, code_at, value_at, decimals_at}
use Rattle.rule.specs.Spelling.{name_at, first_name, first_number, first_decimals, number_of_name, decimal, letters}
use Rattle.rule.specs.declared.parts.Place.{Place}
use Rattle.rule.specs.declared.parts.Role.{Role}
use Rattle.rule.specs.declared.parts.Role.TheVariants.{Event, Note}
use Rattle.rule.proofs.FrameDrafts.{All, all_right, Numbered, Valued, Alike, alike, all_alike}
use Rattle.rule.proofs.FrameMeanings.{postfix-frames}
use Rattle.rule.proofs.SpellLists.{all_map, all-flat}
use Rattle.rule.proofs.SpellTokens
use Rattle.rule.proofs.SpellNames
use Rattle.rule.proofs.SpellNumbers
use Rattle.rule.proofs.FrameParsing.{suffix_unique}
use Rattle.rule.specs.Meaning.{meaning_of, meaning}

-- the scale of a tree by two ways to value numbers
scale-alike : (number number' : Role → Place → ℕ) (value value' decimals : Place → ℕ) (x : Rule) → All (Valued number number' value value' decimals) (numbers x)
    → (meaning_of (number Event) (number Note) value decimals x).scale ≡ (meaning_of (number' Event) (number' Note) value' decimals x).scale
scale-alike number number' value value' decimals (rule e es n ns none c) k = refl
scale-alike number number' value value' decimals (rule e es n ns (some p) c) k = ap some k.0

both : (t u : Tree.RuleTree) → t.scale ≡ u.scale → t.condition ≡ u.condition → t ≡ u
both t u e f = ap₂ (λ (z : Option ℕ) (c : Tree.Cond). made z c) e f
  where
    made : Option ℕ → Tree.Cond → Tree.RuleTree
    made z c = record { scale = z; condition = c }

-- two ways to number names and to value numbers that agree on those of the tree give one meaning, since they give one list of frames
meaning-alike : (number number' : Role → Place → ℕ) (value value' decimals : Place → ℕ) (x : Rule) → All (Numbered number number' value value' decimals) (names x)
    → All (Valued number number' value value' decimals) (numbers x)
    → meaning_of (number Event) (number Note) value decimals x ≡ meaning_of (number' Event) (number' Note) value' decimals x
meaning-alike number number' value value' decimals x h k =
    let named = all_right (Numbered number number' value value' decimals) (header x) (flat names_of (frames x)) h in
    let all = all-flat (Numbered number number' value value' decimals) (Valued number number' value value' decimals) (Alike number number' value value' decimals) names_of numbers_of (alike number number' value value' decimals) (frames x) named k in
    both (meaning_of (number Event) (number Note) value decimals x) (meaning_of (number' Event) (number' Note) value' decimals x)
    (scale-alike number number' value value' decimals x k)
    (suffix_unique (head_of (meaning_of (number Event) (number Note) value decimals x).scale) (head_of (meaning_of (number' Event) (number' Note) value' decimals x).scale)
    (meaning_of (number Event) (number Note) value decimals x).condition (meaning_of (number' Event) (number' Note) value' decimals x).condition
    (postfix-frames (number Event) (number Note) value decimals x ∙ (all_alike number number' value value' decimals (frames x) all ∙ sym (postfix-frames (number' Event) (number' Note) value' decimals x))))

-- the number of the name at a place by codes, as the reader finds it among those that the tree declares in its role
abbrev pub coded_number : List ℕ → Rule → Role → Place → ℕ
coded_number text x r p = position (code_at text p) (codes (code_at text) (value_at text) (decimals_at text) r (names x))

-- what a tree means by codes and capped values
abbrev pub coded_meaning : List ℕ → Rule → Tree.RuleTree
coded_meaning text x = meaning_of (coded_number text x Event) (coded_number text x Note) (value_at text) (decimals_at text) x

-- where no name, no number and no decimals are bad, the meaning by codes and capped values is that by letters and decimal values
pub meaning-same : (text : List ℕ) (x : Rule) → yield x ≡ words (tokens text) → first_name text [] (names x) ≡ none → first_number text (numbers x) ≡ none → first_decimals text (numbers x) ≡ none → coded_meaning text x ≡ meaning text x
meaning-same text x y e f g = meaning-alike (coded_number text x) by_letters (value_at text) by_decimal (decimals_at text) x numbered valued
  where
    by_letters : Role → Place → ℕ
    by_letters r p = number_of_name text r x p

    by_decimal : Place → ℕ
    by_decimal p = decimal (letters text p)

    one_name : (n : Named) → ((r : Role) → coded_number text x r (name_at n) ≡ by_letters r (name_at n)) → Numbered (coded_number text x) by_letters (value_at text) by_decimal (decimals_at text) n
    one_name (declared r p) h = tt
    one_name (used r p) h = h r

    numbered : All (Numbered (coded_number text x) by_letters (value_at text) by_decimal (decimals_at text)) (names x)
    numbered = all_map (λ n. (r : Role) → coded_number text x r (name_at n) ≡ by_letters r (name_at n)) (Numbered (coded_number text x) by_letters (value_at text) by_decimal (decimals_at text)) (names x) one_name (SpellNames.name-number-same text (names x) (SpellTokens.names-lettered text x y) e)

    one_number : (n : Sized) → SpellNumbers.Exact text n → Valued (coded_number text x) by_letters (value_at text) by_decimal (decimals_at text) n
    one_number (sized_by l p) h = h

    valued : All (Valued (coded_number text x) by_letters (value_at text) by_decimal (decimals_at text)) (numbers x)
    valued = all_map (SpellNumbers.Exact text) (Valued (coded_number text x) by_letters (value_at text) by_decimal (decimals_at text)) (numbers x) one_number (SpellNumbers.value_same text (numbers x) f (SpellNumbers.all-few text (numbers x) g))
