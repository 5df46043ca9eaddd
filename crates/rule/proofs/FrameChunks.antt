-- The kind bytes of frames, as a walk over chunks of 8 bytes finds them. Assumes nothing.
use Rattle.std.proofs.Common.{◌≡◌, refl, ap, ◌∙◌, subst, ℕ, zero, suc, ◌+◌, ◌*◌, ◌/◌, Bool, true, false, cond, eqb, Some, None, List, [], ◌∷◌, ◌++◌, length, get_or, drop, append-nil, arith, Bor}
use Rattle.std.specs.List.{filter}
use Rattle.std.specs.Slice.Iter.{chunks_exact_rest, chunks_exact_size, chunks_exact_steps}
use Rattle.std.specs.declared.slice.ChunksExact.{ChunksExact}
use Rattle.std.proofs.lemmas.Iterator.{YieldsList}
use Rattle.std.proofs.lemmas.Iterator.Splits.{YieldsList-from_shown_while}
use Rattle.std.proofs.lemmas.List.{get_or-drop, get_or_append_left, length-append, length_push}
use Rattle.std.proofs.Math.Seq.{drop-append_seam}
use Rattle.std.proofs.lemmas.List.Elements.{filter-append}
use Rattle.rule.specs.References.{reference_byte, references_to, one_more}

-- the first byte of each of the first n chunks
abbrev pub kind_bytes : ℕ → List ℕ → List ℕ
kind_bytes zero s = []
kind_bytes (suc n) s = get_or s 0 0 ∷ kind_bytes n (drop 8 s)

kind_bytes_more : (n : ℕ) (s : List ℕ) → kind_bytes (suc n) s ≡ kind_bytes n s ++ get_or s (n * 8) 0 ∷ []
kind_bytes_more zero s = refl
kind_bytes_more (suc n) s =
    let e : get_or (drop 8 s) (n * 8) 0 ≡ get_or s (suc n * 8) 0 = get_or-drop 8 s (n * 8) 0 ∙ ap (λ (i : ℕ). get_or s i 0) (omega arith) in
    ap (λ (r : List ℕ). get_or s 0 0 ∷ r) (kind_bytes_more n (drop 8 s) ∙ ap (λ (b : ℕ). kind_bytes n (drop 8 s) ++ b ∷ []) e)

abbrev pub is_reference : ℕ → Bool
is_reference b = eqb b reference_byte

counted_more : (t : Bool) (xs : List ℕ) (b m : ℕ) → length xs ≡ m → length (xs ++ cond t (b ∷ []) []) ≡ cond t (m + 1) m
counted_more true xs b m e = length_push xs b ∙ ap (λ (n : ℕ). n + 1) e
counted_more false xs b m e = rw (append-nil xs) e

pub references_counted : (n : ℕ) (s : List ℕ) → length (filter is_reference (kind_bytes n s)) ≡ references_to one_more s 0 n
references_counted zero s = refl
references_counted (suc n) s =
    ap (λ (r : List ℕ). length (filter is_reference r)) (kind_bytes_more n s)
    ∙ ap length (filter-append is_reference (kind_bytes n s) (get_or s (n * 8) 0 ∷ []))
    ∙ counted_more (is_reference (get_or s (n * 8) 0)) (filter is_reference (kind_bytes n s)) (get_or s (n * 8) 0) _ (references_counted n s)

-- a chunk more
kind_bytes_split : (xs ys : List ℕ) → length xs ≡ 8 → kind_bytes (length (xs ++ ys) / 8) (xs ++ ys) ≡ get_or xs 0 0 ∷ kind_bytes (length ys / 8) ys
kind_bytes_split xs ys e =
    let q : length (xs ++ ys) / 8 ≡ suc (length ys / 8) = omega (arith, length-append xs ys) in
    let d : drop 8 (xs ++ ys) ≡ ys = subst (λ (n : ℕ). drop n (xs ++ ys) ≡ ys) e (drop-append_seam xs ys) in
    let g : get_or (xs ++ ys) 0 0 ≡ get_or xs 0 0 = get_or_append_left xs ys 0 0 (omega arith) in
    rw (q, d, g)

abbrev shown : ChunksExact ℕ → List ℕ
shown s = kind_bytes (length (chunks_exact_rest s) / 8) (chunks_exact_rest s)

shown_yielded : (s : ChunksExact ℕ) → chunks_exact_size s ≡ 8 → YieldsList chunks_exact_steps (λ x. get_or x.now 0 0) s (shown s)
shown_yielded s e = YieldsList-from_shown_while chunks_exact_steps (λ x. get_or x.now 0 0) shown (λ u. chunks_exact_size u ≡ 8) at_end at_chunk s e
  where
    at_end : (u t : ChunksExact ℕ) → chunks_exact_size u ≡ 8 → chunks_exact_steps u None t → length (shown u) ≡ 0
    at_end u t p h = let q : length (chunks_exact_rest u) / 8 ≡ 0 = omega (arith, h.1.0) in rw q

    at_chunk : (u : ChunksExact ℕ) (x : Bor (List ℕ)) (t : ChunksExact ℕ) → chunks_exact_size u ≡ 8 → chunks_exact_steps u (Some x) t → (chunks_exact_size t ≡ 8) × (shown u ≡ get_or x.now 0 0 ∷ shown t)
    at_chunk u x t p h = (h.0 ∙ p, rw h.1.0 (kind_bytes_split x.now (chunks_exact_rest t) (h.1.1 ∙ p)))

-- the walk gives the kind bytes
pub kinds_yielded : {s : ChunksExact ℕ} (xs : List ℕ) → chunks_exact_rest s ≡ xs → chunks_exact_size s ≡ 8 → YieldsList chunks_exact_steps (λ x. get_or x.now 0 0) s (kind_bytes (length xs / 8) xs)
kinds_yielded {s} xs h e = subst (λ (r : List ℕ). YieldsList chunks_exact_steps (λ x. get_or x.now 0 0) s (kind_bytes (length r / 8) r)) h (shown_yielded s e)
