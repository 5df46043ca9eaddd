-- The evaluator's pass over the frames: what its contract says for every array of marks and of notes.
-- That it is the value of the rule's tree is proved (Main, judge_accepted). Assumes nothing: definitions.
use Rattle.std.specs.Prelude.{Bool, false, cond, not, ◌||◌, List, [], ◌∷◌, ℕ, zero, suc, eqb, ℤ, pos}
use Rattle.std.specs.Prelude.{get_or, drop, Option}
use Rattle.rule.specs.Frames.{Source, literal, instance, reference, Relation, kind_of, frame_at, frame_count}
use Rattle.rule.specs.Frames.{Kind, operand, arithmetic, absolute, relation, negation, connective, none}
use Rattle.rule.specs.Scale.{note_decimals, head_frames, scale_of, body}
use Rattle.rule.specs.Decimals.{Term, term}
use Rattle.rule.specs.Build.{top1, top2}
use Rattle.rule.specs.declared.Frame.{Frame}
use Rattle.verdict.specs.Kleene.{not_k, connected, truth}
use Rattle.verdict.specs.Value.{computed, size_of, compared}
use Rattle.verdict.specs.Settled.{judged_by}
use Rattle.verdict.specs.Marks.{present_mark, pending_mark}
use Rattle.verdict.specs.declared.Truth.{Truth}
use Rattle.verdict.specs.declared.Truth.TheVariants.{Unknown}
use Rattle.verdict.specs.declared.Verdict.{Verdict}
use Rattle.verdict.specs.declared.evaluate.Pass.{Pass}

-- before the first of the frames "in postfix order"
abbrev pub at_start : Pass
at_start = record { sums = []; missing = false; conds = []; pending = false; present = false }

-- with other sums, as kinds "01 literal" to "14 abs" leave them
abbrev pub with_sums : Pass → List (Term ℤ) → Pass
with_sums p vs = record { sums = vs; missing = p.missing; conds = p.conds; pending = p.pending; present = p.present }

-- with other conditions, as kinds "31 not" to "34 implies" leave them
abbrev pub with_conds : Pass → List Truth → Pass
with_conds p cs = record { sums = p.sums; missing = p.missing; conds = cs; pending = p.pending; present = p.present }

-- "03 reference", with its mark and its note, which has so many decimals
abbrev pub with_reference : ℕ → Pass → ℕ → ℤ → Pass
with_reference scale p mark note =
    record {
      sums = term note scale ∷ p.sums;
      missing = p.missing || not (eqb mark present_mark);
      conds = p.conds;
      pending = p.pending || eqb mark pending_mark;
      present = p.present || eqb mark present_mark;
    }

-- "A relation is unknown if it names a void or pending reference, else true or false": of the two sums that are there
abbrev pub relation_truth : Relation → Bool → List (Term ℤ) → Truth
relation_truth r missing [] = Unknown
relation_truth r missing (y ∷ []) = Unknown
relation_truth r missing (y ∷ (x ∷ vs)) = cond missing Unknown (truth (compared r x y))

-- with one of "21 to 26 the relations", which takes the sums; the next one begins with no reference
abbrev pub with_relation : Pass → Relation → Pass
with_relation p r =
    record {
      sums = [];
      missing = false;
      conds = relation_truth r p.missing p.sums ∷ p.conds;
      pending = p.pending;
      present = p.present;
    }

-- "the rule's value": of a rule one condition is left
abbrev pub first_t : List Truth → Truth
first_t [] = Unknown
first_t (t ∷ cs) = t

-- where each note has so many decimals, of the frames behind the head
module _ (scale : ℕ) where
  -- "01 literal, 02 i, 03 reference"; a literal has "its decimals in byte 1"
  abbrev pub operand_by : Source → Frame → ℕ → ℕ → ℤ → Pass → Pass
  operand_by literal x i mark note p = with_sums p (term x.value x.event ∷ p.sums)
  operand_by instance x i mark note p = with_sums p (term (pos i) 0 ∷ p.sums)
  operand_by reference x i mark note p = with_reference scale p mark note

  -- "Kinds are 01 literal, 02 i, ..": one frame more, by its kind; i is the instance number
  abbrev pub pass_by : Kind → Frame → ℕ → ℕ → ℤ → Pass → Pass
  pass_by (operand s) x i mark note p = operand_by s x i mark note p
  pass_by (arithmetic o) x i mark note p = with_sums p (top2 (computed o) p.sums)
  pass_by absolute x i mark note p = with_sums p (top1 size_of p.sums)
  pass_by (relation r) x i mark note p = with_relation p r
  pass_by negation x i mark note p = with_conds p (top1 not_k p.conds)
  pass_by (connective j) x i mark note p = with_conds p (top2 (connected j) p.conds)
  pass_by none x i mark note p = p

  module _ (s : List ℕ) (i : ℕ) (marks : List ℕ) (notes : List ℤ) where
    -- after the first k frames "in postfix order"
    abbrev pub pass_at : ℕ → Pass
    pass_at zero = at_start
    pass_at (suc k) = pass_by (kind_of (frame_at s k).kind) (frame_at s k) i (get_or marks k 0) (get_or notes k (pos 0)) (pass_at k)

    -- "The verdict of a settled instance is the rule's value"
    unfoldable pub body_judgement : Option Verdict
    body_judgement =
        judged_by (pass_at (frame_count s)).pending (pass_at (frame_count s)).present (first_t (pass_at (frame_count s)).conds)

-- what judge answers: of the frames behind the head, by the scale that it carries
unfoldable pub judgement_of : List ℕ → ℕ → List ℕ → List ℤ → Option Verdict
judgement_of s i marks notes =
    body_judgement (note_decimals (scale_of s)) (body s) i (drop (head_frames (scale_of s)) marks)
    (drop (head_frames (scale_of s)) notes)
