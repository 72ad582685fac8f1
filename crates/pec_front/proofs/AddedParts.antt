-- Parts of a design's clauses that are added one by one.
use Rattle.std.proofs.Common.{◌≡◌, ℕ, zero, suc, ◌+◌, ◌*◌, ◌<◌, ◌≤◌, List, [], ◌∷◌, ◌++◌, map, length, get_or, take, refl, sym, ◌∙◌, ap, arith, append_assoc}
use Rattle.std.specs.List.{flat_map, range_with_len}
use Rattle.std.proofs.lemmas.List.{append-nil}
use Rattle.dq_lits.specs.Formula.{Dqbf}
use Rattle.pec_front.specs.Boxes.{PartialDesign}
use Rattle.pec_front.specs.Encoder.{AreAdded}
use Rattle.pec_front.specs.Encoding.{first_copy, first_same, first_agree, specified_variable, implemented_variable, on_number, agreement_clauses, all_copies, all_outputs, demand}
use Rattle.pec_front.specs.Kept.{kept}
use Rattle.pec_front.proofs.AddedClauses.{with_clauses, added}
use Rattle.pec_front.proofs.Numbers.{map-join}
use Rattle.list_laws.proofs.Numbers.{range_append}

-- clauses behind others
pub part-added : (f g h : Dqbf) (xs ys zs : List (List ℕ)) (m n : ℕ) → AreAdded f g xs m
    → h ≡ with_clauses g (kept ys) → length h.matrix ≤ length g.matrix + n → zs ≡ xs ++ ys
    → AreAdded f h zs (m + n)
part-added f g h xs ys zs m n before clauses few is = record {
  clauses = added f g h xs ys before.clauses clauses ∙ ap (λ cs. with_clauses f (kept cs)) (sym is);
  few = (let low = before.few in omega (arith, low, few));
}

pub parts-join : (f g h : Dqbf) (xs ys : List (List ℕ)) (m n : ℕ) → AreAdded f g xs m → AreAdded g h ys n
    → AreAdded f h (xs ++ ys) (m + n)
parts-join f g h xs ys m n first second = part-added f g h xs ys (xs ++ ys) m n first second.clauses second.few refl

-- the first elements' parts, with the one of the next
pub next-part : {X Y : Type 0} (part : X → List Y) (xs : List X) (i : ℕ) (d : X) → i < length xs
    → flat_map part (take (i + 1) xs) ≡ flat_map part (take i xs) ++ part (get_or xs i d)
next-part part xs i d below = ap (λ k. flat_map part (take k xs)) (let e : i + 1 ≡ suc i = omega arith in e)
    ∙ by xs i below
  where
    by : (ys : List _) (k : ℕ) → k < length ys
        → flat_map part (take (suc k) ys) ≡ flat_map part (take k ys) ++ part (get_or ys k d)
    by [] k low = absurd (omega (arith, low))
    by (y ∷ ys) zero low = append-nil (part y)
    by (y ∷ ys) (suc k) low =
        ap (λ zs. part y ++ zs) (by ys k (omega (arith, low)))
        ∙ sym (append_assoc (part y) (flat_map part (take k ys)) (part (get_or ys k d)))

-- the clauses on the copy of a signal
abbrev pub copy_clauses : PartialDesign → ℕ → ℕ → List (List ℕ)
copy_clauses d i signal =
    agreement_clauses (first_same d + i) (2 * (first_copy d + i)) (on_number (implemented_variable d) signal)

pub next-copy : (d : PartialDesign) (first : ℕ) (ss : List ℕ) (i : ℕ) → i < length ss
    → all_copies d first (take (suc i) ss)
    ≡ all_copies d first (take i ss) ++ copy_clauses d (first + i) (get_or ss i 0)
next-copy d first [] i below = absurd (omega (arith, below))
next-copy d first (s ∷ ss) zero below = search (arith, append-nil)
next-copy d first (s ∷ ss) (suc i) below = search (arith, (next-copy d (suc first) ss i), append_assoc)

-- the clauses on a pair of outputs
abbrev pub output_clauses : PartialDesign → ℕ → ℕ → List (List ℕ)
output_clauses d o out =
    agreement_clauses (first_agree d + o) (on_number (specified_variable d) out)
    (on_number (implemented_variable d) (get_or d.implementation.outputs o 0))

pub next-output : (d : PartialDesign) (first : ℕ) (outs : List ℕ) (o : ℕ) → o < length outs
    → all_outputs d first (take (suc o) outs)
    ≡ all_outputs d first (take o outs) ++ output_clauses d (first + o) (get_or outs o 0)
next-output d first [] o below = absurd (omega (arith, below))
next-output d first (s ∷ ss) zero below = search (arith, append-nil)
next-output d first (s ∷ ss) (suc o) below = search (arith, (next-output d (suc first) ss o), append_assoc)

pub next-demand : (d : PartialDesign) (o : ℕ)
    → map (demand d) (range_with_len 0 (o + 1)) ≡ map (demand d) (range_with_len 0 o) ++ demand d o ∷ []
next-demand d o = search (arith, (range_append 0 o 1), map-join)
