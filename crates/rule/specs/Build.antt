-- The tree of a rule's bytes, as a function: the frames, from the first to the last, build it on two stacks.
-- From document 01, "From rule text to frames". Assumes nothing: definitions.
use Rattle.std.specs.Prelude.{List, [], ◌∷◌, ℕ, zero, suc, nat_abs}
use Rattle.rule.specs.Frames.{Source, Relation, Kind, kind_of, frame_at, frame_count}
use Rattle.rule.specs.Tree.{Sum, literal, instance, reference, arithmetic, abs, Cond, relation, not, connective, RuleTree}
use Rattle.rule.specs.Scale.{scale_of}
use Rattle.rule.specs.References.{reference_of}
use Rattle.rule.specs.declared.Frame.{Frame}

-- conditions and sums, the last first
pub data Trees : Type 0 where
  trees : List Cond → List Sum → Trees

-- what is on top of a stack becomes one
module _ {A : Type 0} where
  -- one
  abbrev pub top1 : (A → A) → List A → List A
  top1 f [] = []
  top1 f (a ∷ r) = f a ∷ r

  -- two
  abbrev pub top2 : (A → A → A) → List A → List A
  top2 f [] = []
  top2 f (b ∷ []) = b ∷ []
  top2 f (b ∷ (a ∷ r)) = f a b ∷ r

-- a relation takes the two sums on top
abbrev pub related : Relation → List Cond → List Sum → Trees
related r cs [] = trees cs []
related r cs (b ∷ []) = trees cs []
related r cs (b ∷ (a ∷ ss)) = trees (relation r a b ∷ cs) ss

-- an operand's frame
abbrev pub leaf : Source → Frame → Sum
leaf Source.literal x = literal x.event (nat_abs x.value)
leaf Source.instance x = instance
leaf Source.reference x = reference (reference_of x)

-- one frame more, by its kind
abbrev pub built_by : Kind → Frame → List Cond → List Sum → Trees
built_by (Kind.operand o) x cs ss = trees cs (leaf o x ∷ ss)
built_by (Kind.arithmetic o) x cs ss = trees cs (top2 (arithmetic o) ss)
built_by Kind.absolute x cs ss = trees cs (top1 abs ss)
built_by (Kind.relation r) x cs ss = related r cs ss
built_by Kind.negation x cs ss = trees (top1 not cs) ss
built_by (Kind.connective j) x cs ss = trees (top2 (connective j) cs) ss
built_by Kind.none x cs ss = trees cs ss

-- by its kind byte
abbrev pub built : Frame → Trees → Trees
built x (trees cs ss) = built_by (kind_of x.kind) x cs ss

-- after the first i frames
abbrev pub trees_at : List ℕ → ℕ → Trees
trees_at s zero = trees [] []
trees_at s (suc i) = built (frame_at s i) (trees_at s i)

-- the last condition; some tree where there is none
abbrev pub first_c : Trees → Cond
first_c (trees [] ss) = relation Relation.equal instance instance
first_c (trees (t ∷ cs) ss) = t

-- of bytes that are a rule, the rule's tree (Main, tree-of); the head builds nothing
unfoldable pub tree_of : List ℕ → RuleTree
tree_of s = record { scale = scale_of s; condition = first_c (trees_at s (frame_count s)) }
