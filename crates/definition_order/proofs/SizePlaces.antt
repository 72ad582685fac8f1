-- The size at a place.
use Rattle.std.proofs.Common.{◌≡◌, ℕ, ◌+◌, List, [], ◌∷◌, ◌++◌, map, length, slice_index, slice_index_or, sym, arith, ◌∙◌, ap}
use Rattle.std.specs.List.{range_with_len}
use Rattle.std.proofs.lemmas.List.FromFn.{map-range_with_len_more}
use Rattle.dq_lits.specs.Formula.{Dqbf}
use Rattle.definition_order.specs.Sizes.{nobody, sized_place}

pub sizes_more : (f : Dqbf) (ranks : List ℕ) (old new : List ((ℕ × ℕ) × ℕ)) (place size rank : ℕ) →
    old ≡ map (sized_place f ranks) (range_with_len 0 place) → new ≡ old ++ ((size, rank), place) ∷ []
    → size ≡ length (slice_index_or f.existentials place nobody).sees → rank ≡ slice_index ranks place →
    new ≡ map (sized_place f ranks) (range_with_len 0 (place + 1))
sizes_more f ranks old new place size rank before pushed seen ranked =
    let one = sized_place f ranks in
    pushed ∙ ap (λ s. old ++ ((s, rank), place) ∷ []) seen ∙ ap
    (λ r. old ++ ((length (slice_index_or f.existentials place nobody).sees, r), place) ∷ []) ranked
    ∙ ap (λ xs. xs ++ one place ∷ []) before ∙ sym (map-range_with_len_more one 0 place place (omega arith))
