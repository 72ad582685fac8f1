-- Derivations over one set of clauses, made to derivations over another (LRAT, L. Cruz-Filipe et al.,
-- 2017, without RAT steps).
use Rattle.std.specs.Prelude.{◌≡◌, ℕ, false, true, List, [], ◌∷◌, ◌++◌, map, Some}
use Rattle.std.specs.List.{All}
use Rattle.dq_lits.specs.Literal.{Literal, opposite}
use Rattle.dq_lits.specs.Derivation.{LiveClauses, IsDerived, holds, is_tautology}

-- a clause that a line can hint at is there under another id; no line can hint at a tautology
abbrev pub IsCarried : (ℕ → ℕ) → LiveClauses → LiveClauses → ℕ → Type 0
IsCarried to live other id =
    (clause : List Literal) → live id ≡ Some clause → is_tautology clause ≡ false
    → other (to id) ≡ Some clause

-- a derived line stays derived by other ids
abbrev pub LinesAreCarried : Type 0
LinesAreCarried =
    (to : ℕ → ℕ) (live other : LiveClauses) (literals : List Literal) (hints : List ℕ)
    → All (IsCarried to live other) hints → IsDerived live literals hints
    → IsDerived other literals (map to hints)

-- where these literals are true, the unit clauses of these ids each make a further literal true, and
-- then the clause of the last id is falsified
abbrev pub AreFalsifying : LiveClauses → List Literal → List (ℕ × Literal) → ℕ → Type 0
AreFalsifying live trues [] last =
    (clause : List Literal) × (live last ≡ Some clause)
    × All (λ l. holds trues (opposite l) ≡ true) clause
AreFalsifying live trues (unit ∷ units) last =
    (live unit.0 ≡ Some (unit.1 ∷ [])) × (holds trues unit.1 ≡ false)
    × (holds trues (opposite unit.1) ≡ false) × AreFalsifying live (unit.1 ∷ trues) units last

-- so a clause without its false literals is derived by the units that made them false, and the clause
abbrev pub FalsifyingDerives : Type 0
FalsifyingDerives =
    (live : LiveClauses) (literals : List Literal) (units : List (ℕ × Literal)) (last : ℕ)
    → is_tautology literals ≡ false → AreFalsifying live (map opposite literals) units last
    → IsDerived live literals (map (λ unit. unit.0) units ++ last ∷ [])
