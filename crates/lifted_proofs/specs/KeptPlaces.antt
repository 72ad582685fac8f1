-- Words of private contracts: which clauses of a formula are kept, and which go.
use Rattle.std.specs.Prelude.{ℕ, Bool, true, false, List, [], ◌∷◌, length, Option}
use Rattle.std.specs.Bool.{beq}
use Rattle.std.specs.Option.{is_some}
use Rattle.std.specs.List.{filter, range_with_len}
use Rattle.dq_lits.specs.Literal.{Literal}
use Rattle.dq_lits.specs.Formula.{Dqbf}
use Rattle.dq_prep.specs.declared.traces.Taken.{Taken}
use Rattle.dq_prep.specs.Simplified.{kept_clause}
use Rattle.lifted_proofs.specs.Goals.{clause_at}

-- what is kept of the clause at a place
abbrev pub kept_at : Dqbf → List Taken → ℕ → Option (List Literal)
kept_at f units place = kept_clause f units place (clause_at f place)

-- of the first clauses, so many, the places of those of which something is kept, or of the others
abbrev pub places_of : Dqbf → List Taken → Bool → ℕ → List ℕ
places_of f units kept count =
    filter (λ p. beq (is_some (kept_at f units p)) kept) (range_with_len 0 count)

abbrev pub kept_places : Dqbf → List Taken → List ℕ
kept_places f units = places_of f units true (length f.matrix)

abbrev pub dropped_places : Dqbf → List Taken → List ℕ
dropped_places f units = places_of f units false (length f.matrix)

-- the first list is part of the second one, in its order
pub data IsPart : List Literal → List Literal → Type 0 where
  all_gone : {ys : List Literal} → IsPart [] ys
  here : {x : Literal} → {xs ys : List Literal} → IsPart xs ys → IsPart (x ∷ xs) (x ∷ ys)
  gone_one : {y : Literal} → {xs ys : List Literal} → IsPart xs ys → IsPart xs (y ∷ ys)
