-- The frame buffer after the reading of a tree: names are looked up as the tables stand when a frame goes out. Assumes nothing.
use mathlib.Core.Path.{◌≡◌, refl, ap, sym, ◌∙◌, subst}
use mathlib.Core.Bool.{Bool, true, false}
use mathlib.Core.List.{List, [], ◌∷◌, ◌++◌}
use mathlib.Core.Option.{none}
use Prim.Native.Nat.{ℕ, ◌+◌, min, ◌≤◌, ◌<◌}
use native.Mathlib.Omega.{arith}
use lib.ListN.{length}
use lib.Dec.{ltb}
use borrow.Author.Tests.{ltb-true, ltb-false, le-ltb}
use Rattle.rule.specs.declared.parts.Place.{Place}
use Rattle.rule.specs.declared.parts.Role.{Role}
use Rattle.rule.specs.declared.parts.Role.TheVariants.{Event, Note}
use Rattle.rule.specs.declared.memory.RawFrame.{RawFrame}
use Rattle.rule.specs.Grammar.{Rule, rule}
use Rattle.rule.specs.Measure.{frames_in, frames, names}
use Rattle.rule.specs.Draft.{Draft}
use Rattle.rule.specs.Items.{Item, items}
use Rattle.rule.specs.Machine.{Act, declare, uses, sized, enter, out}
use Rattle.rule.proofs.ReaderRefusals.{codes, first-name}
use Rattle.rule.specs.Memory.{Mem, fresh, table, put, fields, misnamed, remember, enlist, is_declared}
use Rattle.rule.proofs.ReaderFrames.{fill, each}
use Rattle.rule.proofs.FrameDrafts.{each_append, length-each}
use Rattle.rule.proofs.GrammarWalk.{read_items, read_names, read_rule}
use Rattle.rule.proofs.GrammarMeasures.{note-frame, frames-items}
use Rattle.rule.proofs.ReaderRegisters.{Body, sim-items, unblamed, untouched, count_kept, names-listed}

fill_snoc : (k : ℕ) (fs : List RawFrame) (f : RawFrame) (b : List ℕ) → fill k (fs ++ f ∷ []) b ≡ put (fill k fs b) (k + length fs) f
fill_snoc k [] f b = ap (λ j. put b j f) (omega arith)
fill_snoc k (g ∷ fs) f b = fill_snoc (k + 1) fs f (put b k g) ∙ ap (λ j. put (fill (k + 1) fs (put b k g)) j f) (omega arith)

-- past the 64th place nothing is put
full : (b : List ℕ) (k : ℕ) (f : RawFrame) → 64 ≤ k → put b k f ≡ b
unfolding put
full b k f h = rw (le-ltb k 64 h)

module _ (code value decimals : Place → ℕ) where
  module _ (E N : List ℕ) (b₀ : List ℕ) where
    pub record Holds (w : Mem) (l : List Draft) : Type 0 where
      pub its-events : w.events ≡ E
      pub its-notes : w.notes ≡ N
      pub counts : w.count ≡ min 65 (length l)
      pub its-bytes : w.bytes ≡ fill 0 (each (fields code value decimals E N) l) b₀

    at_its_place : (l : List Draft) (f : RawFrame) (b : List ℕ) (c : ℕ) → c ≡ min 65 (length l) → (t : Bool) → ltb c 64 ≡ t → put b c f ≡ put b (0 + length (each (fields code value decimals E N) l)) f
    at_its_place l f b c e true q = let z : c < 64 = ltb-true c 64 q in let y = length-each (fields code value decimals E N) l in ap (λ j. put b j f) (omega arith)
    at_its_place l f b c e false q =
        let z : 64 ≤ c = ltb-false c 64 q in
        let y = length-each (fields code value decimals E N) l in
        full b c f z ∙ sym (full b (0 + length (each (fields code value decimals E N) l)) f (omega arith))

    holds_kept : (a : Act) → Body a → (w : Mem) (l : List Draft) → Holds w l → Holds (remember code value decimals a w) (note-frame a l)
    holds_kept (declare _ _) t w l h = elim t [ ]
    holds_kept (uses r p) t w l h =
        record {
          its-events = unblamed (List ℕ) (λ x. x.events) p w refl (is_declared (code p) (table r w)) ∙ h.its-events;
          its-notes = unblamed (List ℕ) (λ x. x.notes) p w refl (is_declared (code p) (table r w)) ∙ h.its-notes;
          counts = count_kept code value decimals (uses r p) w l h.counts;
          its-bytes = unblamed (List ℕ) (λ x. x.bytes) p w refl (is_declared (code p) (table r w)) ∙ h.its-bytes;
        }
    holds_kept (sized b p) t w l h = record { its-events = h.its-events; its-notes = h.its-notes; counts = h.counts; its-bytes = h.its-bytes }
    holds_kept (enter d) t w l h = record { its-events = h.its-events; its-notes = h.its-notes; counts = h.counts; its-bytes = h.its-bytes }
    holds_kept (out f) t w l h =
        record {
          its-events = h.its-events;
          its-notes = h.its-notes;
          counts = count_kept code value decimals (out f) w l h.counts;
          its-bytes = rw (h.its-events, h.its-notes, h.its-bytes, each_append (fields code value decimals E N) l (f ∷ [])) (at_its_place l (fields code value decimals E N f) (fill 0 (each (fields code value decimals E N) l) b₀) w.count h.counts (ltb w.count 64) refl ∙ sym (fill_snoc 0 (each (fields code value decimals E N) l) (fields code value decimals E N f) b₀));
        }

  -- a header leaves the count and the buffer
  record Idle (b₀ : List ℕ) (w : Mem) : Type 0 where
    no_frame : w.count ≡ 0
    no_byte : w.bytes ≡ b₀

  enlist-bytes : (r : Role) (c : ℕ) (m : Mem) → (enlist r c m).bytes ≡ m.bytes
  enlist-bytes Event c m = refl
  enlist-bytes Note c m = refl

  declared_idle : (b₀ : List ℕ) (r : Role) (p : Place) (w : Mem) → Idle b₀ w → Idle b₀ (remember code value decimals (declare r p) w)
  declared_idle b₀ r p w h =
      record { no_frame = (count_kept code value decimals (declare r p) w [] h.no_frame); no_byte = untouched (List ℕ) (λ x. x.bytes) r p (code p) w refl (enlist-bytes r (code p) w) (misnamed code value decimals r p w) ∙ h.no_byte }

  names-idle : (b₀ : List ℕ) (r : Role) (ps : List Place) (w : Mem) → Idle b₀ w → Idle b₀ (read_names Mem (remember code value decimals) r ps w)
  names-idle b₀ r [] w h = h
  names-idle b₀ r (p ∷ ps) w h = names-idle b₀ r ps (remember code value decimals (declare r p) w) (declared_idle b₀ r p w h)

  after-header : (b₀ : List ℕ) (w : Mem) (is : List Item) → Idle b₀ w → Holds w.events w.notes b₀ (read_items Mem (remember code value decimals) 0 is w) (frames_in is)
  after-header b₀ w is h =
      subst (λ (l : List Draft). Holds w.events w.notes b₀ (read_items Mem (remember code value decimals) 0 is w) l) (frames-items 0 is [])
      (sim-items Mem (List Draft) (remember code value decimals) note-frame (λ v l. Holds w.events w.notes b₀ v l) (holds_kept w.events w.notes b₀) is 0 {m = w} {l = []}
      (record { its-events = refl; its-notes = refl; counts = h.no_frame; its-bytes = h.no_byte }))

  -- the tables as the memory at the end has them
  by_end : (E N : List ℕ) (b₀ : List ℕ) (w : Mem) (l : List Draft) → Holds E N b₀ w l → w.bytes ≡ fill 0 (each (fields code value decimals w.events w.notes) l) b₀
  by_end E N b₀ w l h = rw (h.its-events, h.its-notes) h.its-bytes

  at_end : (b₀ : List ℕ) (x : Rule) → (read_rule Mem (remember code value decimals) x (fresh b₀)).bytes ≡ fill 0 (each (fields code value decimals (read_rule Mem (remember code value decimals) x (fresh b₀)).events (read_rule Mem (remember code value decimals) x (fresh b₀)).notes) (frames x)) b₀
  at_end b₀ (rule e es n ns k c) =
      by_end _ _ b₀ _ (frames_in (items (rule e es n ns k c)))
      (after-header b₀ _ (items (rule e es n ns k c)) (names-idle b₀ Note (n ∷ ns) _ (names-idle b₀ Event (e ∷ es) (fresh b₀) (record { no_frame = refl; no_byte = refl }))))

  -- where no name is bad, the buffer holds the tree's frames, with every name looked up among the declared ones
  pub bytes_read : (b₀ : List ℕ) (x : Rule) → first-name code value decimals [] (names x) ≡ none
      → (read_rule Mem (remember code value decimals) x (fresh b₀)).bytes ≡ fill 0 (each (fields code value decimals (codes code value decimals Event (names x)) (codes code value decimals Note (names x))) (frames x)) b₀
  bytes_read b₀ x q =
      let t = (names-listed code value decimals b₀ x).tables q in
      at_end b₀ x ∙ same _ _ t.0 _ _ t.1
    where
      same : (E E' : List ℕ) → E ≡ E' → (N N' : List ℕ) → N ≡ N' → fill 0 (each (fields code value decimals E N) (frames x)) b₀ ≡ fill 0 (each (fields code value decimals E' N') (frames x)) b₀
      same E E' e N N' f = rw (e, f)
