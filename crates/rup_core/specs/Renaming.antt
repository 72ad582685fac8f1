-- Other numbers for the variables of a derivation.
use Rattle.std.specs.Prelude.{◌≡◌, ℕ, Bool, true, List, map, Option, None, Some}
use Rattle.std.specs.List.{AllByRecursion}
use Rattle.std.specs.Option.{option_map}
use Rattle.dq_lits.specs.Literal.{Literal, variable_of, on_variable}
use Rattle.dq_lits.specs.Derivation.{LiveClauses}

-- the new numbers keep the known variables apart
abbrev pub KeepsApart : (ℕ → ℕ) → (ℕ → Bool) → Type 0
KeepsApart number known =
    (v w : ℕ) → known v ≡ true → known w ≡ true → number v ≡ number w → v ≡ w

-- each literal stands on a known variable
abbrev pub AreKnown : (ℕ → Bool) → List Literal → Type 0
AreKnown known literals = AllByRecursion (λ l. known (variable_of l) ≡ true) literals

abbrev pub IsKnownClause : (ℕ → Bool) → Option (List Literal) → Type 0
IsKnownClause known None = Unit {0}
IsKnownClause known (Some clause) = AreKnown known clause

-- so does each literal of the clauses with these ids
abbrev pub AreKnownHints : (ℕ → Bool) → LiveClauses → List ℕ → Type 0
AreKnownHints known live hints = AllByRecursion (λ id. IsKnownClause known (live id)) hints

abbrev pub renamed : (ℕ → ℕ) → List Literal → List Literal
renamed number literals = map (λ l. on_variable (number (variable_of l)) l) literals

-- each id has the clause with the new numbers
abbrev pub AreRenamed : (ℕ → ℕ) → LiveClauses → LiveClauses → Type 0
AreRenamed number live other = (id : ℕ) → other id ≡ option_map (renamed number) (live id)
