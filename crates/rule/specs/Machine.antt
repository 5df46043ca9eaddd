-- The reader of the grammar as a machine: a stack of what is still to come, one step for each token, and a memory that what is
-- read acts on. The theorems in proofs/GrammarRules tie it to the grammar. Assumes nothing: definitions.
use Rattle.std.specs.Prelude.{ℕ, ◌+◌, cond, List, [], ◌∷◌, leb, eqb}
use Rattle.rule.specs.ReadLimits.{depth_limit}
use Rattle.rule.specs.Frames.{Arithmetic, Connective, Kind}
use Rattle.rule.specs.Token.{name_kind, number_kind, events_kind, notes_kind, index_kind, abs_kind}
use Rattle.rule.specs.Token.{arrow_kind, bars_kind, ampersands_kind, decimal_kind, scale_kind}
use Rattle.rule.specs.declared.Token.{Token}
use Rattle.rule.specs.Grammar.{semicolon, bang, open_brace, close_brace, open_paren, close_paren, open_bracket}
use Rattle.rule.specs.Grammar.{close_bracket, star, rel_mark, rels, sign_mark, signs, by_mark, place}
use Rattle.rule.specs.declared.parts.Place.{Place}
use Rattle.rule.specs.declared.parts.Role.{Role}
use Rattle.rule.specs.declared.parts.Role.TheVariants.{Event, Note}
use Rattle.rule.specs.declared.parts.Limit.{Limit}
use Rattle.rule.specs.declared.parts.Limit.TheVariants.{OfClause, OfLiteral, OfFactor, OfOffset}
use Rattle.rule.specs.declared.parts.Sign.{Sign}
use Rattle.rule.specs.declared.parts.Multiple.{Multiple}
use Rattle.rule.specs.declared.parts.Multiple.TheVariants.{Once, Times}
use Rattle.rule.specs.declared.parts.Shift.TheVariants.{Unshifted, By}
use Rattle.rule.specs.Draft.{Draft, head, lit, index_var, ref, alone, relation_of, sign_of}

-- what reading does, in the order of the text
pub data Act : Type 0 where
  declare uses : Role → Place → Act
  sized : Limit → Place → Act
  enter : ℕ → Act
  out : Draft → Act

-- What may be to come. A number is the depth, at want the kind of a token.
pub data Sym : Type 0 where
  unit ands ors arrow factor muls adds rel want : ℕ → Sym
  name_of names_of : Role → Sym
  clause clause_number : Sym
  ref_event : Place → Sym
  ref_index : Place → Place → Sym
  ref_shift : Place → Place → Multiple → Sym
  ref_by : Place → Place → Multiple → Sign → Sym
  doing : Act → Sym

-- prod: factor {"*" factor}, and then s
abbrev pub prod : ℕ → List Sym → List Sym
prod d s = factor d ∷ muls d ∷ s

-- sum: prod {("+" or "-") prod}
abbrev pub sum : ℕ → List Sym → List Sym
sum d s = factor d ∷ muls d ∷ adds d ∷ s

-- conj: unit {"&&" unit}
abbrev pub conj : ℕ → List Sym → List Sym
conj d s = unit d ∷ ands d ∷ s

-- cond: disj ["->" cond]; disj: conj {"||" conj}
abbrev pub condition : ℕ → List Sym → List Sym
condition d s = unit d ∷ ands d ∷ ors d ∷ arrow d ∷ s

-- rule: "events" name {name} ";" "notes" name {name} ";" ["scale" number ";"] cond
abbrev pub start : List Sym
start =
    want events_kind ∷ name_of Event ∷ names_of Event ∷ want semicolon ∷ want notes_kind ∷ name_of Note ∷ names_of Note
    ∷ want semicolon ∷ clause ∷ condition 0 []

-- one level further in; one over the limit stands for every depth over it
unfoldable pub deeper : ℕ → ℕ
deeper d = cond (leb d depth_limit) (d + 1) d

-- what a token leaves: no rule begins so, or what is to come, and the memory
pub data Next (M : Type 0) : Type 0 where
  stuck : Next M
  on : List Sym → M → Next M

-- the memory after a text of the grammar, or the place of refusal 3
pub data MachineAnswer (M : Type 0) : Type 0 where
  accepted : M → MachineAnswer M
  refused : ℕ → MachineAnswer M

-- on after a token at p
abbrev pub resume : {M : Type 0} → Next M → ℕ → (List Sym → M → MachineAnswer M) → MachineAnswer M
resume stuck p k = refused p
resume (on s m) p k = k s m

module _ (M : Type 0) (act : Act → M → M) where
  -- factor: number, decimal, "i", "(" sum ")", "abs" "(" sum ")", or reference
  unfoldable pub start_factor : ℕ → M → ℕ → Place → List Sym → Next M
  start_factor d m k p s =
      cond (eqb k number_kind) (on s (act (out (lit p)) (act (sized OfLiteral p) m)))
      (cond (eqb k decimal_kind) (on s (act (out (lit p)) (act (sized OfLiteral p) m)))
      (cond (eqb k index_kind) (on s (act (out index_var) m))
      (cond (eqb k open_paren) (on (sum (deeper d) (want close_paren ∷ s)) (act (enter (deeper d)) m))
      (cond (eqb k abs_kind) (on (want open_paren ∷ sum (deeper d) (want close_paren ∷ doing (out (alone Kind.absolute)) ∷ s))
      (act (enter (deeper d)) m))
      (cond (eqb k name_kind) (on (want open_paren ∷ ref_event p ∷ s) (act (uses Note p) m)) stuck)))))

  -- what a token of kind k, at p, does with the stack
  unfoldable pub step : List Sym → M → ℕ → Place → Next M
  step [] m k p = stuck
  step (unit d ∷ s) m k p =
      cond (eqb k bang) (on (unit (deeper d) ∷ doing (out (alone Kind.negation)) ∷ s) (act (enter (deeper d)) m))
      (cond (eqb k open_brace) (on (condition (deeper d) (want close_brace ∷ s)) (act (enter (deeper d)) m))
      (start_factor d m k p (muls d ∷ adds d ∷ rel d ∷ s)))
  step (ands d ∷ s) m k p =
      cond (eqb k ampersands_kind) (on (unit d ∷ doing (out (alone (Kind.connective Connective.and))) ∷ ands d ∷ s) m)
      (step s m k p)
  step (ors d ∷ s) m k p =
      cond (eqb k bars_kind) (on (conj d (doing (out (alone (Kind.connective Connective.or))) ∷ ors d ∷ s)) m) (step s m k p)
  step (arrow d ∷ s) m k p =
      cond (eqb k arrow_kind) (on (condition (deeper d) (doing (out (alone (Kind.connective Connective.implies))) ∷ s))
      (act (enter (deeper d)) m)) (step s m k p)
  step (factor d ∷ s) m k p = start_factor d m k p s
  step (muls d ∷ s) m k p =
      cond (eqb k star) (on (factor d ∷ doing (out (alone (Kind.arithmetic Arithmetic.multiply))) ∷ muls d ∷ s) m)
      (step s m k p)
  step (adds d ∷ s) m k p =
      by_mark sign_mark k (λ g. on (prod d (doing (out (alone (Kind.arithmetic (sign_of g)))) ∷ adds d ∷ s)) m)
      (step s m k p) signs
  step (rel d ∷ s) m k p =
      by_mark rel_mark k (λ c. on (sum d (doing (out (alone (Kind.relation (relation_of c)))) ∷ s)) m) stuck rels
  step (want x ∷ s) m k p = cond (eqb k x) (on s m) stuck
  step (name_of r ∷ s) m k p = cond (eqb k name_kind) (on s (act (declare r p) m)) stuck
  step (names_of r ∷ s) m k p = cond (eqb k name_kind) (on (names_of r ∷ s) (act (declare r p) m)) (step s m k p)
  step (clause ∷ s) m k p = cond (eqb k scale_kind) (on (clause_number ∷ want semicolon ∷ s) m) (step s m k p)
  step (clause_number ∷ s) m k p = cond (eqb k number_kind) (on s (act (out (head p)) (act (sized OfClause p) m))) stuck
  step (ref_event n ∷ s) m k p =
      cond (eqb k name_kind) (on (want open_bracket ∷ ref_index n p ∷ want close_bracket ∷ want close_paren ∷ s)
      (act (uses Event p) m)) stuck
  step (ref_index n e ∷ s) m k p =
      cond (eqb k number_kind) (on (want star ∷ want index_kind ∷ ref_shift n e (Times p) ∷ s) (act (sized OfFactor p) m))
      (cond (eqb k index_kind) (on (ref_shift n e Once ∷ s) m) stuck)
  step (ref_shift n e f ∷ s) m k p =
      by_mark sign_mark k (λ g. on (ref_by n e f g ∷ s) m) (step s (act (out (ref n e f Unshifted)) m) k p) signs
  step (ref_by n e f g ∷ s) m k p =
      cond (eqb k number_kind) (on s (act (out (ref n e f (By g p))) (act (sized OfOffset p) m))) stuck
  step (doing a ∷ s) m k p = step s (act a m) k p

  -- the text ends, at n
  unfoldable pub finish : ℕ → List Sym → M → MachineAnswer M
  finish n [] m = accepted m
  finish n (unit d ∷ s) m = refused n
  finish n (ands d ∷ s) m = finish n s m
  finish n (ors d ∷ s) m = finish n s m
  finish n (arrow d ∷ s) m = finish n s m
  finish n (factor d ∷ s) m = refused n
  finish n (muls d ∷ s) m = finish n s m
  finish n (adds d ∷ s) m = finish n s m
  finish n (rel d ∷ s) m = refused n
  finish n (want x ∷ s) m = refused n
  finish n (name_of r ∷ s) m = refused n
  finish n (names_of r ∷ s) m = finish n s m
  finish n (clause ∷ s) m = finish n s m
  finish n (clause_number ∷ s) m = refused n
  finish n (ref_event e ∷ s) m = refused n
  finish n (ref_index e i ∷ s) m = refused n
  finish n (ref_shift e i f ∷ s) m = finish n s (act (out (ref e i f Unshifted)) m)
  finish n (ref_by e i f g ∷ s) m = refused n
  finish n (doing a ∷ s) m = finish n s (act a m)

  -- the answer to the tokens, from a stack; the text has n bytes
  unfoldable pub run : ℕ → List Sym → M → List Token → MachineAnswer M
  run n s m [] = finish n s m
  run n s m (t ∷ ts) = resume (step s m t.kind (place t)) t.start (λ s' m'. run n s' m' ts)
