-- What the checks of a circuit answer: the first undeclared read, and the first bad row.
use Rattle.std.specs.Prelude.{◌≡◌, ℕ, ◌<◌, ◌==◌, ◌^◌, false, [], length, slice_index, slice_index_or, Contains, Result, Ok, Err}
use Rattle.std.specs.Int.{bit_at}
use Rattle.std.specs.List.{list_all}
use Rattle.dq_lits.specs.Literal.{Assignment, clause_true}
use Rattle.dq_lits.specs.Formula.{Existential, Dqbf}
use Rattle.dq_lits.specs.Henkin.{MatrixHolds}
use Rattle.circuit_plain.specs.Netlist.{Netlist}
use Rattle.aiger_text.specs.Symbol.{SymbolTable}
use Rattle.skolem_checker.specs.declared.mapping.MapError.{MapError}
use Rattle.skolem_checker.specs.Mapping.{Mapping, mapping_of}
use Rattle.skolem_checker.specs.SkolemCircuit.{MappedCircuit, FollowsCircuit}

-- a circuit that is tested against a formula
pub record Candidate : Type 0 where
  pub formula : Dqbf
  pub circuit : MappedCircuit

abbrev pub with_mapping : Dqbf → Netlist → Result Mapping MapError → Result Candidate MapError
with_mapping f net (Ok mapping) =
    Ok (record { formula = f; circuit = record { netlist = net; mapping = mapping } })
with_mapping f net (Err fault) = Err fault

abbrev pub candidate_of : Dqbf → Netlist → SymbolTable → Result Candidate MapError
candidate_of f net symbols = with_mapping f net (mapping_of f net symbols)

-- the existential at a place of the order of declaration
abbrev pub existential_at : Dqbf → ℕ → Existential
existential_at f place = slice_index_or f.existentials place no_existential
  where
    no_existential : Existential
    no_existential = record { variable = 0; sees = [] }

-- of the universals before this place the existential reads declared ones alone
abbrev pub ReadsDeclaredBefore : (ℕ → ℕ → Type 0) → Dqbf → Existential → ℕ → Type 0
ReadsDeclaredBefore Reads f y end =
    (q : ℕ) → q < end → Reads y.variable (slice_index f.universals q)
    → Contains y.sees (slice_index f.universals q)

-- every existential reads declared universals alone
abbrev pub ReadsDeclared : (ℕ → ℕ → Type 0) → Dqbf → Type 0
ReadsDeclared Reads f =
    (p : ℕ) → p < length f.existentials
    → ReadsDeclaredBefore Reads f (existential_at f p) (length f.universals)

-- the first undeclared universal that an existential reads
pub record IsFirstRead (Reads : ℕ → ℕ → Type 0) (f : Dqbf) (y : Existential) (x : ℕ) : Type 0 where
  pub place : ℕ
  pub in_range : place < length f.universals
  pub is : slice_index f.universals place ≡ x
  pub reads : Reads y.variable x
  pub undeclared : ¬ Contains y.sees x
  pub first : ReadsDeclaredBefore Reads f y place

-- the first existential that reads an undeclared universal, and the first such universal
pub record IsFirstUndeclared (Reads : ℕ → ℕ → Type 0) (f : Dqbf) (y x : ℕ) : Type 0 where
  pub place : ℕ
  pub in_range : place < length f.existentials
  pub is : (existential_at f place).variable ≡ y
  pub read : IsFirstRead Reads f (existential_at f place) x
  pub first : (p : ℕ) → p < place
      → ReadsDeclaredBefore Reads f (existential_at f p) (length f.universals)

-- every read is declared, or this is the first that isn't
abbrev pub IsReadsAnswer : (ℕ → ℕ → Type 0) → Dqbf → Result (Unit {0}) (ℕ × ℕ) → Type 0
IsReadsAnswer Reads f (Ok _) = ReadsDeclared Reads f
IsReadsAnswer Reads f (Err read) = IsFirstUndeclared Reads f read.0 read.1

-- the row of a number: its bit i is that of the universal at place i
abbrev pub IsRow : Dqbf → ℕ → Assignment → Type 0
IsRow f k m = (i : ℕ) → i < length f.universals → m (slice_index f.universals i) ≡ (bit_at k i == 1)

-- under the row of a number, with the outputs' values, every clause is true; or some clause is
-- false
abbrev pub RowHolds : Dqbf → MappedCircuit → ℕ → Type 0
RowHolds f c k = (m : Assignment) → IsRow f k m → FollowsCircuit f c m → MatrixHolds f m

pub record RowFails (f : Dqbf) (c : MappedCircuit) (k : ℕ) : Type 0 where
  pub assignment : Assignment
  pub row : IsRow f k assignment
  pub follows : FollowsCircuit f c assignment
  pub clause_false : list_all (clause_true assignment) f.matrix ≡ false

-- all below the end hold, or this is the first that fails
abbrev pub IsFirstBad : (ℕ → Type 0) → (ℕ → Type 0) → ℕ → Result (Unit {0}) ℕ → Type 0
IsFirstBad Holds Fails end (Ok _) = (k : ℕ) → k < end → Holds k
IsFirstBad Holds Fails end (Err k) = (k < end) × ((j : ℕ) → j < k → Holds j) × Fails k

-- every row holds, or this is the first that fails
abbrev pub IsRowsAnswer : Dqbf → MappedCircuit → Result (Unit {0}) ℕ → Type 0
IsRowsAnswer f c r = IsFirstBad (RowHolds f c) (RowFails f c) (2 ^ length f.universals) r
