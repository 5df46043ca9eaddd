-- The bytes of a tree's frames are those of the rule that it means, which is within the limits. Assumes nothing.
use mathlib.Core.Path.{◌≡◌, refl, ap, ap₂, sym, subst, ◌∙◌}
use mathlib.Core.List.{List, [], ◌∷◌, ◌++◌}
use mathlib.Core.Option.{none}
use Prim.Native.Nat.{ℕ, zero, suc, ◌-◌, ◌*◌, ◌%◌, ◌≤◌}
use native.Mathlib.Omega.{arith}
use lib.IntN.{pos, neg_ℤ, nat_abs}
use lib.ListN.{length, take, replicate}
use lib.Seq.{take_at}
use mir.Syntax.{w32}
use mir.Val.{of_z}
use Rattle.numbers.proofs.Ints.{nat_abs_neg}
use Rattle.rule.specs.Limits.{decimal_limit, factor_limit, offset_limit, frame_limit, frame_bytes, buffer_bytes}
use Rattle.rule.specs.Grammar.{Rule}
use Rattle.rule.specs.Tree.{RuleTree, Limits, postfix, bytes_of, IsRule}
use Rattle.rule.specs.Measure.{frames, names, numbers}
use Rattle.rule.specs.Draft.{Draft, head, lit, index_var, ref, plain}
use Rattle.rule.proofs.ReaderRefusals.{codes, first-name, first-number, first-decimals}
use Rattle.rule.specs.Memory.{position, negated, factor_of, offset_of, fields, code_at, value_at, decimals_at}
use Rattle.rule.proofs.ReaderFrames.{each, tree_bytes}
use Rattle.rule.specs.Spelling.{number_of_name, decimal, letters}
use Rattle.rule.specs.Answers.{Within}
use Rattle.rule.specs.declared.memory.RawFrame.{RawFrame}
use Rattle.rule.specs.declared.parts.Place.{Place}
use Rattle.rule.specs.declared.parts.Role.TheVariants.{Event, Note}
use Rattle.rule.specs.declared.parts.Sign.TheVariants.{Plus, Minus}
use Rattle.rule.specs.declared.parts.Multiple.{Multiple}
use Rattle.rule.specs.declared.parts.Multiple.TheVariants.{Once, Times}
use Rattle.rule.specs.declared.parts.Shift.{Shift}
use Rattle.rule.specs.declared.parts.Shift.TheVariants.{Unshifted, By}
use Rattle.rule.specs.Meaning.{factor_at, offset_at, meaning}
use Rattle.rule.proofs.SpellSame.{first-name-same, first-number-same, first-decimals-same}
use Rattle.rule.proofs.SpellDecimals.{decimals-fit, most-six}
use Rattle.rule.proofs.SpellMeaning.{coded_number, coded_meaning, meaning-same}
use Rattle.rule.proofs.FrameDrafts.{All, length-each, frame_of, LimitsD, reference-fits}
use Rattle.rule.proofs.FrameMeanings.{most_decimals, postfix-frames, limits-frames}
use Rattle.rule.proofs.FrameLimits.{frames-fit}
use Rattle.rule.proofs.FrameFilling.{eight, packed, packed-length, filled}

-- a number below 0 as a word
pub negated_word : (v : ℕ) → v ≤ offset_limit → negated v ≡ of_z w32 (neg_ℤ (pos v))
unfolding negated
negated_word zero h = refl
negated_word (suc v) h = omega arith

-- ---- one frame
module _ (code value decimals : Place → ℕ) (E N : List ℕ) where
  abbrev event : Place → ℕ
  event p = position (code p) E

  abbrev note : Place → ℕ
  note p = position (code p) N

  same-factor : (f : Multiple) → factor_at event note value decimals f ≤ factor_limit → factor_of code value decimals f ≡ factor_at event note value decimals f
  same-factor Once h = refl
  same-factor (Times p) h = omega arith

  same-offset : (o : Shift) → nat_abs (offset_at event note value decimals o) ≤ offset_limit → offset_of code value decimals o ≡ of_z w32 (offset_at event note value decimals o)
  same-offset Unshifted h = refl
  same-offset (By Plus p) h = refl
  same-offset (By Minus p) h = negated_word (value p) (subst (λ (n : ℕ). n ≤ offset_limit) (nat_abs_neg (pos (value p))) h)

  same-eight : (z : ℕ) → z ≤ decimal_limit → (d : Draft) → LimitsD event note value decimals z d → eight (fields code value decimals E N d) ≡ bytes_of (frame_of event note value decimals d ∷ [])
  same-eight z k (head p) l = let q : value p ≤ 6 = l.1.0.1 in let e : value p % 256 ≡ value p = omega arith in rw e
  same-eight z k (lit p) l = let q : decimals p ≤ z = l.1.0.1 in let e : decimals p % 256 ≡ decimals p = omega arith in rw e
  same-eight z k index_var l = refl
  same-eight z k (ref n e f o) l = let q = reference-fits event note value decimals z n e f o l in rw (same-factor f q.factor, same-offset o q.offset)
  same-eight z h (plain k) l = refl

  -- ---- all frames
  same-packed : (z : ℕ) → z ≤ decimal_limit → (ds : List Draft) → All (LimitsD event note value decimals z) ds → packed (each (fields code value decimals E N) ds) ≡ bytes_of (each (frame_of event note value decimals) ds)
  same-packed z k [] l = refl
  same-packed z k (d ∷ ds) l = ap₂ (λ (a b : List ℕ). a ++ b) (same-eight z k d l.0) (same-packed z k ds l.1)

-- ---- a tree that a text spells
-- the rule that a tree means has as many frames as the tree
pub meaning-count : (text : List ℕ) (x : Rule) → length (postfix (meaning text x)) ≡ length (frames x)
meaning-count text x =
    ap length (postfix-frames (number_of_name text Event x) (number_of_name text Note x) (λ p. decimal (letters text p)) (decimals_at text) x)
    ∙ length-each (frame_of (number_of_name text Event x) (number_of_name text Note x) (λ p. decimal (letters text p)) (decimals_at text)) (frames x)

module _ (text : List ℕ) (x : Rule) (w : Within text x) where
  -- at most 64 frames of the tree
  pub few_frames : length (frames x) ≤ frame_limit
  few_frames = subst (λ (n : ℕ). n ≤ frame_limit) (meaning-count text x) w.few_frames

  -- no name is bad by codes, no number by capped values
  pub coded-names : first-name (code_at text) (value_at text) (decimals_at text) [] (names x) ≡ none
  coded-names = first-name-same text x w.spelled.spells ∙ w.names_good

  pub coded-numbers : first-number (code_at text) (value_at text) (decimals_at text) (numbers x) ≡ none
  coded-numbers = first-number-same text x ∙ w.numbers_good

  same : coded_meaning text x ≡ meaning text x
  same = meaning-same text x w.spelled.spells w.names_good w.numbers_good w.decimals_good

  pub coded-decimals : first-decimals (code_at text) (value_at text) (decimals_at text) (numbers x) ≡ none
  coded-decimals = first-decimals-same text x ∙ w.decimals_good

  fit : All (LimitsD (coded_number text x Event) (coded_number text x Note) (value_at text) (decimals_at text) (most_decimals x)) (frames x)
  fit = frames-fit (code_at text) (value_at text) (decimals_at text) (most_decimals x) x coded-names coded-numbers (decimals-fit text x w.spelled.spells w.decimals_good)

  pub meaning-limits : Limits (meaning text x)
  meaning-limits = subst Limits same (limits-frames (coded_number text x Event) (coded_number text x Note) (value_at text) (decimals_at text) x fit)

  abbrev put-fields : List RawFrame
  put-fields = each (fields (code_at text) (value_at text) (decimals_at text) (codes (code_at text) (value_at text) (decimals_at text) Event (names x)) (codes (code_at text) (value_at text) (decimals_at text) Note (names x))) (frames x)

  put_count : length put-fields ≡ length (frames x)
  put_count = length-each (fields (code_at text) (value_at text) (decimals_at text) (codes (code_at text) (value_at text) (decimals_at text) Event (names x)) (codes (code_at text) (value_at text) (decimals_at text) Note (names x))) (frames x)

  packed-meaning : packed put-fields ≡ bytes_of (postfix (meaning text x))
  packed-meaning =
      same-packed (code_at text) (value_at text) (decimals_at text) (codes (code_at text) (value_at text) (decimals_at text) Event (names x)) (codes (code_at text) (value_at text) (decimals_at text) Note (names x)) (most_decimals x) (most-six x) (frames x) fit
      ∙ ap bytes_of (sym (postfix-frames (coded_number text x Event) (coded_number text x Note) (value_at text) (decimals_at text) x))
      ∙ ap (λ (t : RuleTree). bytes_of (postfix t)) same

  -- the tree's bytes: the meaning's frames, and zero after the last
  pub tree-bytes : tree_bytes text x ≡ bytes_of (postfix (meaning text x)) ++ replicate (buffer_bytes - length (frames x) * frame_bytes) 0
  tree-bytes =
      filled put-fields (rw put_count few_frames)
      ∙ ap₂ (λ (l : List ℕ) (n : ℕ). l ++ replicate (512 - n * 8) 0) packed-meaning put_count

  -- the frames alone
  pub tree-taken : take (length (frames x) * frame_bytes) (tree_bytes text x) ≡ bytes_of (postfix (meaning text x))
  tree-taken =
      ap (λ (l : List ℕ). take (length (frames x) * 8) l) tree-bytes
      ∙ take_at (bytes_of (postfix (meaning text x))) (replicate (512 - length (frames x) * 8) 0) (length (frames x) * 8)
      (ap length (sym packed-meaning) ∙ (packed-length put-fields ∙ ap (λ (n : ℕ). n * 8) put_count))

  -- they are the frames of a rule, of the one that the tree means
  abbrev pub tree-rule : IsRule (take (length (frames x) * frame_bytes) (tree_bytes text x))
  tree-rule = record { tree = meaning text x; limits = meaning-limits; bytes = tree-taken }
