-- Derivation by hinted unit propagation, as in LRAT without RAT steps, but strict: each hint
-- propagates, and the last one alone is falsified.
use Rattle.std.specs.Prelude.{◌≡◌, ℕ, ◌+◌, ◌==◌, Bool, true, false, not, ◌&&◌, List, [], ◌∷◌, map, Option, None, Some, if◌then◌else◌}
use Rattle.std.specs.List.{list_any, list_all, filter}
use Rattle.dq_lits.specs.Literal.{Assignment, Literal, opposite, same_literal, clause_true}

-- the clauses that have an id now
abbrev pub LiveClauses : Type 0
LiveClauses = ℕ → Option (List Literal)

abbrev pub with_clause : LiveClauses → ℕ → List Literal → LiveClauses
with_clause live id clause i = if i == id then Some clause else live i

abbrev pub holds : List Literal → Literal → Bool
holds literals l = list_any (same_literal l) literals

-- how a clause stands where these literals are true
pub data ClauseStatus : Type 0 where
  -- each of its literals is false
  falsified : ClauseStatus
  -- as a set it has one literal that isn't false, and that one is unassigned
  unit : Literal → ClauseStatus
  -- it has a true literal or two that aren't false
  stuck : ClauseStatus

-- by its literals that aren't false
abbrev pub status_by : List Literal → List Literal → ClauseStatus
status_by trues [] = falsified
status_by trues (l ∷ rest) =
    if list_all (same_literal l) rest && not (holds trues l) then unit l else stuck

-- a missing clause is of no use
abbrev pub status_of : List Literal → Option (List Literal) → ClauseStatus
status_of trues None = stuck
status_of trues (Some clause) =
    status_by trues (filter (λ l. not (holds trues (opposite l))) clause)

-- a unit hint goes on; a falsified one has to be the last
abbrev pub fault_by : ClauseStatus → ℕ → List ℕ → (Literal → Option ℕ) → Option ℕ
fault_by falsified place [] _ = None
fault_by falsified place (_ ∷ _) _ = Some place
fault_by (unit l) place _ next = next l
fault_by stuck place _ _ = Some place

-- the place, from 1, of the first hint at fault; one behind the last where all hints propagate
abbrev pub hint_fault : LiveClauses → List Literal → ℕ → List ℕ → Option ℕ
hint_fault live trues place [] = Some place
hint_fault live trues place (hint ∷ hints) =
    fault_by (status_of trues (live hint)) place hints
    (λ l. hint_fault live (l ∷ trues) (place + 1) hints)

abbrev pub is_tautology : List Literal → Bool
is_tautology clause = list_any (λ l. holds clause (opposite l)) clause

-- 0 where the line holds a literal beside its negation; else the fault of the hints, with every
-- literal of the line false
abbrev pub line_fault : LiveClauses → List Literal → List ℕ → Option ℕ
line_fault live literals hints =
    if is_tautology literals then Some 0 else hint_fault live (map opposite literals) 1 hints

abbrev pub IsDerived : LiveClauses → List Literal → List ℕ → Type 0
IsDerived live literals hints = line_fault live literals hints ≡ None

-- a line of a proof: its clause has its id from then on
pub record ProofStep : Type 0 where
  pub id : ℕ
  pub literals : List Literal
  pub hints : List ℕ

pub data ProofFault : Type 0 where
  -- the first step that isn't derived, by its id
  underived : ℕ → ProofFault
  -- all steps are derived, and the last isn't empty, or there is none
  unfinished : ProofFault

abbrev pub fault_of_step : Option ℕ → ℕ → Option ProofFault → Option ProofFault
fault_of_step (Some _) id _ = Some (underived id)
fault_of_step None _ rest = rest

abbrev pub is_empty : List Literal → Bool
is_empty [] = true
is_empty (_ ∷ _) = false

-- the first fault of the steps to come, where `finished` tells whether the last step before them is
-- empty
abbrev pub steps_fault : Bool → LiveClauses → List ProofStep → Option ProofFault
steps_fault finished live [] = if finished then None else Some unfinished
steps_fault finished live (step ∷ steps) =
    fault_of_step (line_fault live step.literals step.hints) step.id
    (steps_fault (is_empty step.literals) (with_clause live step.id step.literals) steps)

abbrev pub proof_fault : LiveClauses → List ProofStep → Option ProofFault
proof_fault live steps = steps_fault false live steps

-- every step is derived, and the last one is the empty clause
abbrev pub Derives : LiveClauses → List ProofStep → Type 0
Derives live steps = proof_fault live steps ≡ None

-- the assignment makes every live clause true
abbrev pub MakesTrue : Assignment → LiveClauses → Type 0
MakesTrue m live =
    (id : ℕ) (clause : List Literal) → live id ≡ Some clause → clause_true m clause ≡ true

-- as sets
abbrev pub AreSame : List Literal → List Literal → Type 0
AreSame xs ys = (l : Literal) → holds xs l ≡ holds ys l
