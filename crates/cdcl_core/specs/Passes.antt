-- Clauses that are true, in a span of ids.
use Rattle.std.specs.Prelude.{◌≡◌, ℕ, ◌≤◌, ◌<◌, true, List, Some, slice_get}
use Rattle.std.specs.List.{list_any}
use Rattle.dq_lits.specs.Literal.{Literal}
use Rattle.dq_lits.specs.Derivation.{holds}

-- the clauses from one id downwards have true literals, above another id
abbrev pub AreTrueWithin : ℕ → ℕ → List (List Literal) → List Literal → Type 0
AreTrueWithin from down_to clauses trues =
    (i : ℕ) (c : List Literal) → down_to ≤ i → i < from → slice_get clauses i ≡ Some c
    → list_any (holds trues) c ≡ true
