-- What a log tells of its formula.
use Rattle.std.specs.Prelude.{◌≡◌, ℕ, ◌≤◌, ◌^◌, Bool, true, false, List, ◌∷◌, ◌++◌, length, Some, ◌⊎◌}
use Rattle.std.specs.List.{All, list_any}
use Rattle.dq_lits.specs.Literal.{Assignment, Literal, opposite, same_literal}
use Rattle.dq_lits.specs.Formula.{Dqbf, Existential, IsWellFormed}
use Rattle.dq_lits.specs.Henkin.{MatrixHolds, IsTrueFormula, IsFalseFormula}
use Rattle.dq_lits.specs.Expansion.{IsExpansionUnsatisfiable}
use Rattle.dq_lits.specs.Derivation.{LiveClauses, IsDerived, holds}
use Rattle.hint_log.specs.Entries.{Entry, Given, Answer, clause_at, rounds_of}
use Rattle.hint_log.specs.declared.origins.Origin.{Origin}
use Rattle.hint_log.specs.declared.origins.Leaf.{Leaf}
use Rattle.hint_log.specs.Conditions.{AreLogged}
use Rattle.hint_log.specs.Deciding.{ReachesGiven, DecidesFalse, DecidesTrue, RestsOnCircuit, IsFaultLeaf}
use Rattle.hint_log.specs.Growth.{Each}
use Rattle.hint_log.specs.Naming.{rows_of}
use Rattle.hint_log.specs.Origins.{IsOriginsClause}
use Rattle.hint_log.specs.ProductiveLog.{MatchesOrigin, IsDerivedByHints, RefutesNewRow, IsClosed, IsNewByPropagation}
use Rattle.log_laws.specs.Circuits.{circuit_value, by_bits}

-- what makes answers right: what holds of every log, and the first two points of a productive one
pub record IsSoundLog (f : Dqbf) (entries : List Entry) : Type 0 where
  pub logged : AreLogged entries
  pub givens_match_origins : Each (MatchesOrigin f) entries
  pub lemmas_are_derived : Each IsDerivedByHints entries

-- an answer of the log, with the entries before it, that decides
pub record HasAnswer (Decides : List Entry → List Literal → List ℕ → Type 0)
    (entries : List Entry) : Type 0 where
  pub earlier : List Entry
  pub clause : List Literal
  pub hints : List ℕ
  pub later : List Entry
  pub is_there : entries ≡ later ++ Answer clause hints ∷ earlier
  pub decides : Decides earlier clause hints

-- what makes one answer right: the same, with the given clauses that it rests on alone
pub record IsSoundAnswer (f : Dqbf) (earlier : List Entry) (clause : List Literal)
    (hints : List ℕ) : Type 0 where
  pub logged : AreLogged earlier
  pub lemmas_are_derived : Each IsDerivedByHints earlier
  pub derived : IsDerived (clause_at earlier) clause hints
  pub givens_match_origins : (more before : List Entry) (origin : Origin) (c : List Literal)
      → earlier ≡ more ++ Given origin c ∷ before
      → ReachesGiven earlier hints origin c → IsOriginsClause f before origin c

-- an answer that rests on instances alone shows that those of the rows before it can't all be true
abbrev pub InstancesHaveNoModel : Type 0
InstancesHaveNoModel =
    (f : Dqbf) (earlier : List Entry) (clause : List Literal) (hints : List ℕ)
    → IsSoundAnswer f earlier clause hints
    → DecidesFalse earlier clause hints → IsExpansionUnsatisfiable f (rows_of earlier)

-- and so that the formula is false
abbrev pub DecidedFalseIsFalse : Type 0
DecidedFalseIsFalse =
    (f : Dqbf) (entries : List Entry) → IsWellFormed f → IsSoundLog f entries
    → HasAnswer DecidesFalse entries → IsFalseFormula f

-- where each leaf that the answer's hints reach has its existential's bit, every clause is true
abbrev pub LeavesSolve : Type 0
LeavesSolve =
    (f : Dqbf) (earlier : List Entry) (clause : List Literal) (hints : List ℕ) → IsWellFormed f
    → IsSoundAnswer f earlier clause hints
    → RestsOnCircuit earlier clause hints → (m : Assignment) (bit : Existential → Bool)
    → All (λ y. (leaf : Leaf) → IsFaultLeaf f earlier hints y leaf
    → circuit_value earlier m leaf ≡ bit y) f.existentials
    → MatrixHolds f (by_bits f m bit)

abbrev pub DecidedTrueIsTrue : Type 0
DecidedTrueIsTrue =
    (f : Dqbf) (entries : List Entry) → IsWellFormed f → IsSoundLog f entries
    → HasAnswer (DecidesTrue f) entries → IsTrueFormula f

-- there are at most as many rounds as rows of the universals
abbrev pub RoundsAreFew : Type 0
RoundsAreFew =
    (f : Dqbf) (entries : List Entry) → Each (RefutesNewRow f) entries
    → rounds_of entries ≤ 2 ^ length f.universals

-- two different literals that aren't false
pub record HasTwoOpen (trues clause : List Literal) : Type 0 where
  pub one : Literal
  pub other : Literal
  pub one_among : holds clause one ≡ true
  pub other_among : holds clause other ≡ true
  pub different : same_literal one other ≡ false
  pub one_open : holds trues (opposite one) ≡ false
  pub other_open : holds trues (opposite other) ≡ false

abbrev pub IsSettled : List Literal → List Literal → Type 0
IsSettled trues clause = (list_any (holds trues) clause ≡ true) ⊎ HasTwoOpen trues clause

-- where propagation has come to its end, every clause has a true literal, or two that aren't false
abbrev pub ClosedClausesAreSettled : Type 0
ClosedClausesAreSettled =
    (live : LiveClauses) (trues : List Literal) → IsClosed live trues
    → (id : ℕ) (clause : List Literal) → live id ≡ Some clause → IsSettled trues clause

-- a learned clause that is new has no literal beside its negation, and doesn't hold all literals of
-- an earlier clause
pub record IsNewBeside (earlier : List Entry) (clause : List Literal) : Type 0 where
  pub consistent : (l : Literal) → holds clause l ≡ true → holds clause (opposite l) ≡ false
  pub unknown : (id : ℕ) (known : List Literal) → clause_at earlier id ≡ Some known
      → ((l : Literal) → holds known l ≡ true → holds clause l ≡ true) → ⊥

abbrev pub NewClausesAreUnknown : Type 0
NewClausesAreUnknown =
    (earlier : List Entry) (clause : List Literal) → IsNewByPropagation earlier clause
    → IsNewBeside earlier clause
