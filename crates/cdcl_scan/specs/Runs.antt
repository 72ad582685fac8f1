-- Neighbouring clauses that share a literal.
use Rattle.std.specs.Prelude.{◌≡◌, ℕ, ◌≤◌, ◌<◌, true, false, List, [], ◌∷◌, Option, None, Some, slice_get}
use Rattle.dq_lits.specs.Literal.{Literal, opposite}
use Rattle.dq_lits.specs.Derivation.{holds}
use Rattle.cdcl_scan.specs.declared.clauses.Run.{Run}

abbrev pub Shares : Option Literal → List Literal → Type 0
Shares None clause = Unit {0}
Shares (Some l) clause = holds clause l ≡ true

-- the clauses behind the first ones
pub record IsRun (start : ℕ) (run : Run) (clauses : List (List Literal)) : Type 0 where
  pub from : start < run.last
  pub share : (i : ℕ) (c : List Literal) → start ≤ i → i < run.last → slice_get clauses i ≡ Some c
      → Shares run.shared c

-- run after run, up to an end
abbrev pub AreRuns : ℕ → List Run → List (List Literal) → ℕ → Type 0
AreRuns start [] clauses end = start ≡ end
AreRuns start (run ∷ runs) clauses end = IsRun start run clauses × AreRuns run.last runs clauses end

abbrev pub IsSharedTrue : List Literal → Option Literal → Type 0
IsSharedTrue trues None = ⊥
IsSharedTrue trues (Some l) = (holds trues l ≡ true) × (holds trues (opposite l) ≡ false)
