-- The clause that a pair of outputs agrees where all copies have their signals' values is kept as
-- it stands: it has no constant, and no literal twice.
use Rattle.std.proofs.Common.{◌≡◌, ℕ, zero, suc, ◌+◌, ◌*◌, ◌≤◌, ◌==◌, Bool, false, not, cond, ◌||◌, List, [], ◌∷◌, ◌++◌, map, None, Some, refl, sym, ◌∙◌, ap, arith, append_assoc}
use Rattle.std.specs.Prelude.{fold}
use Rattle.std.specs.List.{list_any, filter, range_with_len, cons_option}
use Rattle.std.specs.Option.{option_map}
use Rattle.std.proofs.lemmas.Bool.{ne_eqb, cond-false, cond-true}
use Rattle.std.proofs.lemmas.List.Folds.{list_any-append}
use Rattle.dq_lits.specs.Literal.{Literal, positive, negative, same_literal}
use Rattle.cert_text.specs.NegatedMatrix.{opposite_of, as_literal}
use Rattle.dqdimacs_reader.specs.Building.{add_literal, distinct}
use Rattle.pec_front.specs.Boxes.{PartialDesign}
use Rattle.pec_front.specs.Encoder.{demand_clause}
use Rattle.pec_front.specs.Encoding.{signals_of, first_same, first_agree, demand}
use Rattle.pec_front.specs.Kept.{kept}
use Rattle.cert_text.proofs.CircuitLiterals.{as_even, opposite_even}

-- the negated literals of numbers
abbrev negated : ℕ → List ℕ → List ℕ
negated s is = map (λ i. opposite_of (2 * (s + i))) is

as-negative : (v : ℕ) → as_literal (opposite_of (2 * v)) ≡ negative v
as-negative v = search (arith, opposite_even, cond-true)

no-ones : (s : ℕ) → 1 ≤ s → (a n : ℕ) → list_any (λ l. l == 1) (negated s (range_with_len a n)) ≡ false
no-ones s low a zero = refl
no-ones s low a (suc n) = search (arith, opposite_even, ne_eqb, (no-ones s low (a + 1) n))

no-zeros : (s a n : ℕ) → filter (λ l. not (l == 0)) (negated s (range_with_len a n)) ≡ negated s (range_with_len a n)
no-zeros s a zero = refl
no-zeros s a (suc n) = search (arith, opposite_even, ne_eqb, (no-zeros s (a + 1) n))

as-negatives : (s a n : ℕ) → map as_literal (negated s (range_with_len a n))
    ≡ map (λ i. negative (s + i)) (range_with_len a n)
as-negatives s a zero = refl
as-negatives s a (suc n) = search (arith, as-negative, (as-negatives s (a + 1) n))

-- no literal of a list is one of those to come
abbrev Fresh : List Literal → ℕ → ℕ → Type 0
Fresh clause s a = (i : ℕ) → a ≤ i → list_any (same_literal (negative (s + i))) clause ≡ false

fresh-more : (clause : List Literal) (s a : ℕ) → Fresh clause s a → Fresh (clause ++ negative (s + a) ∷ []) s (a + 1)
fresh-more clause s a fresh i low = search (arith, list_any-append, ne_eqb)

all-added : (clause : List Literal) (s a n : ℕ) → Fresh clause s a
    → fold add_literal clause (map (λ i. negative (s + i)) (range_with_len a n))
    ≡ clause ++ map (λ i. negative (s + i)) (range_with_len a n)
all-added clause s a zero fresh = sym (nothing clause)
  where
    nothing : (ls : List Literal) → ls ++ [] ≡ ls
    nothing [] = refl
    nothing (l ∷ ls) = ap (λ ks. l ∷ ks) (nothing ls)
all-added clause s a (suc n) fresh =
    let l = negative (s + a) in
    let rest = map (λ i. negative (s + i)) (range_with_len (a + 1) n) in
    ap (λ c. fold add_literal c rest)
    (cond-false (list_any (same_literal l) clause) clause (clause ++ l ∷ []) (fresh a (omega arith)))
    ∙ all-added (clause ++ l ∷ []) s (a + 1) n (fresh-more clause s a fresh)
    ∙ append_assoc clause (l ∷ []) rest

pub demand-kept : (d : PartialDesign) (o : ℕ) → kept (demand d o ∷ []) ≡ demand_clause d o ∷ []
demand-kept d o =
    let u = first_agree d + o in
    let s = first_same d in
    let q = signals_of d in
    let flags = negated s (range_with_len 0 q) in
    let literals = map (λ i. negative (s + i)) (range_with_len 0 q) in
    let keep = λ (b : Bool) (c : List Literal). cons_option (option_map distinct (cond b None (Some c))) [] in
    let one : list_any (λ l. l == 1) (2 * u ∷ flags) ≡ false =
    ap (λ b. b || list_any (λ l. l == 1) flags) (ne_eqb (2 * u) 1 (λ e. omega (arith, e)))
    ∙ no-ones s (omega arith) 0 q in
    let zero-free : filter (λ l. not (l == 0)) (2 * u ∷ flags) ≡ 2 * u ∷ flags = search (arith, ne_eqb, no-zeros) in
    let plain : map as_literal (2 * u ∷ flags) ≡ positive u ∷ literals =
    ap (λ l. l ∷ map as_literal flags) (as_even u) ∙ ap (λ ls. positive u ∷ ls) (as-negatives s 0 q) in
    ap (λ b. keep b (map as_literal (filter (λ l. not (l == 0)) (2 * u ∷ flags)))) one
    ∙ ap (λ ls. distinct (map as_literal ls) ∷ []) zero-free
    ∙ ap (λ ls. distinct ls ∷ []) plain
    ∙ ap (λ c. c ∷ []) (all-added (positive u ∷ []) s 0 q (λ i low. refl))
