-- Clauses under rows that a lifted refutation derives: what is left of a formula's clauses where units
-- were taken.
use Rattle.std.specs.Prelude.{◌≡◌, ◌≢◌, ◌≤◌, ◌<◌, ◌+◌, ℕ, Bool, true, false, List, [], length, Some, IfSome, slice_index_or, reverse, ◌++◌, ◌∷◌}
use Rattle.std.specs.List.{All, AllPairs, AllZip, Contains, list_any, slice_get}
use Rattle.dq_lits.specs.Literal.{Literal, variable_of, opposite}
use Rattle.dq_lits.specs.Formula.{Existential, Dqbf, existential_of, IsWellFormed}
use Rattle.dq_lits.specs.Derivation.{holds, is_tautology}
use Rattle.dq_lits.specs.Expansion.{agree_on, universal_literal_true}
use Rattle.dq_prep.specs.declared.traces.Taken.{Taken}
use Rattle.dq_prep.specs.Units.{without_false, is_satisfied, left_of, AreUnits}
use Rattle.cert_text.specs.Header.{max_count}
use Rattle.lifted_proofs.specs.UnitTables.{first_literals, IsUnitTable}
use Rattle.lifted_proofs.specs.declared.units.UnitTable.{UnitTable}
use Rattle.lifted_proofs.specs.declared.goals.Source.{Source}
use Rattle.lifted_proofs.specs.declared.goals.Goal.{Goal}
use Rattle.lifted_proofs.specs.declared.goals.Reason.{Reason}
use Rattle.lifted_proofs.specs.declared.goals.Plan.{Plan}

abbrev pub clause_at : Dqbf → ℕ → List Literal
clause_at f place = slice_index_or f.matrix place []

-- what is left of the clause by the first units, so many
abbrev pub left_by : Dqbf → List Taken → Source → List Literal
left_by f units s = left_of f (first_literals units s.taken) (clause_at f s.place)

-- no literal of the clause is one of these units'
pub record IsSource (f : Dqbf) (units : List Taken) (s : Source) : Type 0 where
  pub taken : s.taken ≤ length units
  pub place : s.place < length f.matrix
  pub unsatisfied : is_satisfied (first_literals units s.taken) (clause_at f s.place) ≡ false

-- what is left has no true universal literal under the row
pub record IsGoal (f : Dqbf) (units : List Taken) (rows : List (List Bool)) (g : Goal)
    : Type 0 where
  pub source : IsSource f units g.source
  pub plain : is_tautology (clause_at f g.source.place) ≡ false
  pub row : List Bool
  pub row_at : slice_get rows g.row ≡ Some row
  pub none_true : list_any (universal_literal_true f row) (left_by f units g.source) ≡ false

-- no universal literal of the clause is true under the other row, and existentials whose literals
-- aren't false see the same bits there
pub record Serves (f : Dqbf) (units : List Taken) (s : Source) (row low : List Bool)
    : Type 0 where
  pub none_true : list_any (universal_literal_true f low) (clause_at f s.place) ≡ false
  pub same : (l : Literal) (y : Existential)
      → holds (without_false (first_literals units s.taken) (clause_at f s.place)) l ≡ true
      → existential_of f (variable_of l) ≡ Some y → agree_on f y row low ≡ true

pub record IsLowered (f : Dqbf) (units : List Taken) (rows : List (List Bool)) (g : Goal)
    (lowered : ℕ) : Type 0 where
  pub row : List Bool
  pub low : List Bool
  pub row_at : slice_get rows g.row ≡ Some row
  pub low_at : slice_get rows lowered ≡ Some low
  pub serves : Serves f units g.source row low

-- the goal at h is the unit at j, under a row with the bits that its existential sees
pub record IsAsked (f : Dqbf) (units : List Taken) (rows : List (List Bool)) (goals : List Goal)
    (lowered j h : ℕ) : Type 0 where
  pub unit : Taken
  pub unit_at : slice_get units j ≡ Some unit
  pub goal : Goal
  pub goal_at : slice_get goals h ≡ Some goal
  pub taken : goal.source.taken ≡ j
  pub place : goal.source.place ≡ unit.place
  pub low : List Bool
  pub low_at : slice_get rows lowered ≡ Some low
  pub row : List Bool
  pub row_at : slice_get rows goal.row ≡ Some row
  pub agrees : IfSome (existential_of f (variable_of unit.literal))
      (λ y. agree_on f y low row ≡ true)

-- the unit at j is one of the first, so many, and makes a literal of the clause false
pub record MakesFalse (units : List Taken) (count : ℕ) (clause : List Literal) (j : ℕ)
    : Type 0 where
  pub before : j < count
  pub unit : Taken
  pub unit_at : slice_get units j ≡ Some unit
  pub held : holds clause (opposite unit.literal) ≡ true

-- a unit among these makes the literal false
pub record HasFalse (units : List Taken) (l : Literal) (places : List ℕ) : Type 0 where
  pub place : ℕ
  pub among : Contains places place
  pub unit : Taken
  pub unit_at : slice_get units place ≡ Some unit
  pub is : unit.literal ≡ opposite l

-- the places of the units that make literals of the clause false, each once
pub record AreFalseUnits (units : List Taken) (count : ℕ) (clause : List Literal)
    (places : List ℕ) : Type 0 where
  pub distinct : AllPairs (λ i j. i ≢ j) places
  pub each : All (MakesFalse units count clause) places
  pub all : (l : Literal) → holds clause l ≡ true
      → holds (first_literals units count) (opposite l) ≡ true → HasFalse units l places

-- a row at which the clause itself says what is left, and the goals of the units that make its other
-- literals false
pub record IsReason (f : Dqbf) (units : List Taken) (rows : List (List Bool)) (goals : List Goal)
    (g : Goal) (r : Reason) : Type 0 where
  pub lowered : IsLowered f units rows g r.lowered
  pub places : List ℕ
  pub false_units : AreFalseUnits units g.source.taken (clause_at f g.source.place) places
  pub asked : AllZip (IsAsked f units rows goals r.lowered) places r.hints.items

-- goals, and the reasons of the first of them; so many rows more may be added
pub record IsPlan (f : Dqbf) (units : List Taken) (p : Plan) : Type 0 where
  pub whole : All (λ row. length row ≡ length f.universals) p.rows
  pub goals : (q : ℕ) (g : Goal) → slice_get p.goals.items q ≡ Some g → IsGoal f units p.rows g
  pub reasons : (q : ℕ) (g : Goal) (r : Reason) → slice_get p.goals.items q ≡ Some g
      → slice_get p.reasons.items q ≡ Some r → IsReason f units p.rows p.goals.items g r
  pub few_rows : length p.rows + p.room ≤ max_count
  pub few_reasons : length p.reasons.items ≤ length p.goals.items

pub record IsPlanOf (t : UnitTable) (p : Plan) : Type 0 where
  pub right : IsUnitTable t
  pub plan : IsPlan t.formula.now t.units.now p

abbrev pub IsAskedIn : UnitTable → Plan → ℕ → ℕ → ℕ → Type 0
IsAskedIn t p lowered j h = IsAsked t.formula.now t.units.now p.rows p.goals.items lowered j h

abbrev pub IsGoalOf : UnitTable → Plan → Goal → Type 0
IsGoalOf t p g = IsGoal t.formula.now t.units.now p.rows g

-- the goal at a place
pub record IsGoalAt (t : UnitTable) (p : Plan) (q : ℕ) (g : Goal) : Type 0 where
  pub at : slice_get p.goals.items q ≡ Some g
  pub goal : IsGoalOf t p g
  pub row : g.row < length p.rows

abbrev pub IsLoweredIn : UnitTable → Plan → Goal → ℕ → Type 0
IsLoweredIn t p g lowered = IsLowered t.formula.now t.units.now p.rows g lowered

abbrev pub AreFalseUnitsOf : UnitTable → Goal → List ℕ → Type 0
AreFalseUnitsOf t g places =
    AreFalseUnits t.units.now g.source.taken (clause_at t.formula.now g.source.place) places

-- the existential of the unit at a place sees the same bits in both rows
pub record SeeSameBits (f : Dqbf) (units : List Taken) (j : ℕ) (a b : List Bool) : Type 0 where
  pub unit : Taken
  pub unit_at : slice_get units j ≡ Some unit
  pub agrees : IfSome (existential_of f (variable_of unit.literal)) (λ y. agree_on f y a b ≡ true)

abbrev pub SeeSame : UnitTable → ℕ → List Bool → List Bool → Type 0
SeeSame t j a b = SeeSameBits t.formula.now t.units.now j a b

-- what stands at a place stays there
abbrev pub Keeps : {X : Type 0} → List X → List X → Type 0
Keeps {X} old new = (k : ℕ) (x : X) → slice_get old k ≡ Some x → slice_get new k ≡ Some x

-- rows and goals may come behind the others
pub record Grows (old new : Plan) : Type 0 where
  pub rows : Keeps old.rows new.rows
  pub goals : Keeps old.goals.items new.goals.items

-- and no reason
pub record GrowsGoals (old new : Plan) : Type 0 where
  pub grows : Grows old new
  pub reasons : new.reasons.items ≡ old.reasons.items

-- rows and goals were added, so that this holds now
pub record Adds (t : UnitTable) (old new : Plan) (Now : Type 0) : Type 0 where
  pub plan : IsPlanOf t new
  pub grows : GrowsGoals old new
  pub now : Now

-- a row came behind the others
pub record IsRowAdded (old new : Plan) (row : List Bool) (place : ℕ) : Type 0 where
  pub place_is : place ≡ length old.rows
  pub is : new ≡ record old { rows = old.rows ++ row ∷ []; room = new.room }
  pub room : new.room + 1 ≡ old.room

-- the next goal has its reason
pub record Settles (t : UnitTable) (old new : Plan) : Type 0 where
  pub plan : IsPlanOf t new
  pub grows : Grows old new
  pub more : length new.reasons.items ≡ length old.reasons.items + 1

-- what is fixed of a goal with its reason
pub record Settled (f : Dqbf) (units : List Taken) (rows : List (List Bool)) (goals : List Goal)
    (g : Goal) (r : Reason) : Type 0 where
  pub well : IsWellFormed f
  pub are : AreUnits f (reverse units)
  pub goal : IsGoal f units rows g
  pub reason : IsReason f units rows goals g r

abbrev pub IsSettledBy : UnitTable → Plan → Goal → Reason → Type 0
IsSettledBy t p g r = Settled t.formula.now t.units.now p.rows p.goals.items g r

-- the reason of the goal at a place
pub record IsReasonAt (t : UnitTable) (p : Plan) (q : ℕ) (g : Goal) (r : Reason) : Type 0 where
  pub at : slice_get p.reasons.items q ≡ Some r
  pub settled : IsSettledBy t p g r
  pub low : r.lowered < length p.rows
  pub hints : All (λ h. h < length p.goals.items) r.hints.items
