-- A `LogReader` taken apart for a call on its slice and its number, which the walks of the functions over a reader cite.
-- The struct is Copy: what it owns is had twice, one copy is kept whole, and of the other what log owns goes to the callee, beside the
-- lifetime's token. Assumes nothing.
use mathlib.Core.Path.{◌≡◌, refl}
use mathlib.Core.List.{List, [], ◌∷◌}
use Prim.Native.Nat.{◌<◌, ◌^◌}
use lib.ListN.{length}
use seplogic.Ra.Ura.{Ura}
use mir.Syntax.{named, w64}
use mir.Val.{Val, vint}
use base.Logic.{SProp, ent, sep}
use base.Fml.{Lft, Share, Fml, ftrue, flft}
use types.Logic.{Logic, sem}
use contract.Lifetimes.{Lfts}
use types.Kit.{‵, raw, ◌⊛◌, given, ⋆, ◌$◌, ◌∵◌, !, qed, move, drop, use1, use2, split, learn, fsplit, fjoin, frame, done}
use denote.RattleType.{RattleType, owns}
use denote.Laws.{Is}
use denote.Plain.{uint_Makes}
use denote.Builtin.{u8, usize}
use denote.Signature.{named_lft}
use denote.Slice.{slice_val, ShrSlice}
use denote.Steps.{owned, nothing}
use denote.Struct.Declared.{Declared}
use denote.Struct.Laws as LL
use denote.Struct.Rest.{all_own, field_own, rest, own_open, own_out}
use denote.Struct.Values.{Values}
use Rattle.log_lines.specs.declared.walk.LogReader.{LogReader}
use Rattle.log_lines.specs.contracts.walk.LogReader as T
use Rattle.log_lines.proofs.walk.LogReader.TheLaws as T'

-- the struct's type, over the signature's lifetimes
abbrev pub B : Lfts 1 → RattleType
B κs = T.the_row (named_lft 1 0 tt κs)

module _ (κ : Lft) where
  -- the struct's type and laws
  abbrev pub D : Declared
  D = T.the_type (named_lft 1 0 tt (κ, tt))

  abbrev pub L : LL.Laws D
  L = T'.the_laws (named_lft 1 0 tt (κ, tt))

-- a struct's machine value, and those of its fields, as a callee is passed them
abbrev pub mach : LogReader → Val
mach d = T'.lowered d

abbrev pub passed : LogReader → List Val × (List Val × Unit {0})
passed d = (slice_val d.log.ref_ptr (length d.log.now) ∷ [], (vint w64 d.at ∷ [], tt))

module _ (κ : Lft) (d : LogReader) where
  -- its fields' values
  abbrev pub vd : Values (D κ).parts
  vd = (d.log, (d.at, tt))

  abbrev pub Own : Fml
  Own = (B (κ, tt)).own_val d (mach d ∷ [])

module _ {M : Type 1} {𝓤 : Ura M} (𝓛 : Logic 𝓤) (κ : Lft) (q : Share) (d : LogReader) where
  -- what a function over a reader has at entry gives what a callee asks of the slice and the number, and what the struct owns is kept
  pub apart : (asked : SProp 𝓤)
      → ent 𝓤 (⋆ 𝓛 ((‵ (flft κ q) ⊛ ‵ ftrue) ∷ ‵ (owns (ShrSlice (named 0) κ u8 ∷ usize ∷ []) (d.log, (d.at, tt)) (passed d)) ∷ [])) asked
      → d.at < 2 ^ 64
      → ent 𝓤 (⋆ 𝓛 ((‵ (flft κ q) ⊛ ‵ ftrue) ∷ ‵ (owns (B (κ, tt) ∷ []) (d, tt) (mach d ∷ [], tt)) ∷ [])) (sep 𝓤 asked (sem 𝓛 (Own κ d)))
  apart asked given_by fits =
      qed 𝓛 ((‵ (flft κ q) ⊛ ‵ ftrue) ∷ ‵ (owns (B (κ, tt) ∷ []) (d, tt) (mach d ∷ [], tt)) ∷ []) ∵
      move ! (1 ∷ []) $ fsplit ! $ move ! (1 ∷ []) $ drop ! $ use1 𝓛 (‵ (Own κ d) ⊛ ‵ (Own κ d)) ((LL.copy (D κ) (T'.the_copy (named_lft 1 0 tt (κ, tt))) 𝓛).twice d (mach d ∷ [])) $ split ! $
      use1 𝓛 (given (mach d ∷ [] ≡ mach d ∷ []) (‵ (all_own (D κ).parts (L κ) (vd κ d)))) (own_open 𝓛 (D κ) (L κ) (vd κ d) (mach d)) $ learn ! (λ _. use1 𝓛 (‵ (field_own (D κ).parts (L κ) 0 d.log) ⊛ ‵ (rest (D κ).parts (L κ) 0 (vd κ d))) (own_out 𝓛 (D κ).parts (L κ) 0 (vd κ d)) $ split ! $
      -- [what log owns; what at owns; what the struct owns; the token]
      move ! (1 ∷ []) $ drop ! $ nothing ! $ owned ! usize (Is usize) (uint_Makes 𝓛 w64) d.at _ (refl, fits) $ fjoin ! $ move ! (1 ∷ 0 ∷ []) $ fjoin ! $
      move ! (2 ∷ 0 ∷ []) $ use2 𝓛 (raw asked) given_by $ frame ! $ done !)
