-- The circuit that an answer shows to be right, as a file has it, and the clauses that its proof
-- starts from: inputs are numbered in the formula's order, gates behind them in the file's order,
-- and behind these 'clause j is false', of one group.
use Rattle.std.specs.Prelude.{◌≡◌, ◌≢◌, ℕ, zero, suc, ◌+◌, ◌*◌, ◌==◌, ◌<◌, Bool, true, List, ◌∷◌, map, take, length, Option, None, Some, if◌then◌else◌}
use Rattle.std.specs.List.{All, AllPairs, Contains, list_any, range_with_len, position_or_len, sum_by}
use Rattle.std.specs.Option.{option_map}
use Rattle.dq_lits.specs.Literal.{Literal, variable_of, is_negative, negative}
use Rattle.dq_lits.specs.Formula.{Dqbf, Existential}
use Rattle.hint_log.specs.Conditions.{is_circuit_name}
use Rattle.hint_log.specs.Deciding.{LeafReads}
use Rattle.hint_log.specs.Entries.{Entry, name_of}
use Rattle.hint_log.specs.Naming.{numbered_from_one}
use Rattle.hint_log.specs.Origins.{matrix_literal}
use Rattle.hint_log.specs.declared.names.Name.{Name}
use Rattle.hint_log.specs.declared.names.Name.TheVariants.{Input, And, Bad}
use Rattle.hint_log.specs.declared.origins.Leaf.{Leaf}
use Rattle.hint_log.specs.declared.origins.Leaf.TheVariants.{Constant, Literal as LeafLiteral}
use Rattle.hint_log.specs.declared.origins.Origin.{Origin}
use Rattle.hint_log.specs.declared.origins.Origin.TheVariants.{Gate as GateOf, Fault}
use Rattle.circuit_plain.specs.Netlist.{Netlist}
use Rattle.circuit_plain.specs.declared.circuits.Gate.{Gate}
use Rattle.skolem_checker.specs.Checks.{Candidate}
use Rattle.skolem_checker.specs.Mapping.{Mapping}
use Rattle.cert_export.specs.Given.{IsGivenRightly}
use Rattle.cert_export.specs.Renaming.{Renaming}

-- what is exported of a log: the group whose faults are used, the variables of the file's gates,
-- and the existentials' leaves
pub record CircuitPart : Type 0 where
  pub group : ℕ
  pub gates : List ℕ
  pub leaf : Existential → Leaf

-- the place of a number, counted from 1
abbrev pub place_from_one : List ℕ → ℕ → Option ℕ
place_from_one xs v =
    if list_any (λ x. x == v) xs then Some (position_or_len (λ x. x == v) xs + 1) else None

abbrev pub max_number : Dqbf → CircuitPart → ℕ
max_number f e = length f.universals + length e.gates

-- the variables that the circuit and its proof speak of; all others have no number
abbrev pub circuit_number : Dqbf → CircuitPart → ℕ → Option Name → Option ℕ
circuit_number f e v (Some (Input x)) = place_from_one f.universals x
circuit_number f e v (Some (And a b)) =
    option_map (λ p. length f.universals + p) (place_from_one e.gates v)
circuit_number f e v (Some (Bad g j)) =
    if g == e.group then option_map (λ clause. max_number f e + j) (numbered_from_one f.matrix j)
    else None
circuit_number f e v _ = None

abbrev pub circuit_renaming : Dqbf → List Entry → CircuitPart → Renaming
circuit_renaming f entries e v = circuit_number f e v (name_of entries v)

abbrev pub or_zero : Option ℕ → ℕ
or_zero None = 0
or_zero (Some n) = n

-- literals as AIGER writes them
abbrev pub aiger_literal : Bool → ℕ → ℕ
aiger_literal negated n = if negated then 2 * n + 1 else 2 * n

abbrev pub literal_code : Renaming → Literal → ℕ
literal_code r l = aiger_literal (is_negative l) (or_zero (r (variable_of l)))

abbrev pub leaf_code : Renaming → Leaf → ℕ
leaf_code r (Constant b) = if b then 1 else 0
leaf_code r (LeafLiteral l) = literal_code r l

abbrev pub gate_of : Renaming → ℕ → Option Name → Gate
gate_of r v (Some (And a b)) =
    record { variable = or_zero (r v); left = literal_code r a; right = literal_code r b }
gate_of r v _ = record { variable = or_zero (r v); left = 0; right = 0 }

abbrev pub exported_netlist : Dqbf → List Entry → CircuitPart → Netlist
exported_netlist f entries e = record {
  max_var = max_number f e;
  inputs = range_with_len 1 (length f.universals);
  outputs = map (λ y. leaf_code (circuit_renaming f entries e) (e.leaf y)) f.existentials;
  gates = map (λ v. gate_of (circuit_renaming f entries e) v (name_of entries v)) e.gates;
}

abbrev pub exported_mapping : Dqbf → Mapping
exported_mapping f =
    record { inputs = f.universals; outputs = map (λ y. y.variable) f.existentials }

abbrev pub exported_candidate : Dqbf → List Entry → CircuitPart → Candidate
exported_candidate f entries e =
    record {
      formula = f;
      circuit = record { netlist = exported_netlist f entries e; mapping = exported_mapping f };
    }

-- the last id of the negated matrix, of a circuit with these gates
abbrev pub last_negated : List (List Literal) → List ℕ → ℕ
last_negated matrix gates = 3 * length gates + sum_by length matrix + 1

-- the id of a given clause there
abbrev pub negated_id : List (List Literal) → List ℕ → Origin → ℕ
negated_id matrix gates (GateOf v i) = 3 * position_or_len (λ x. x == v) gates + i
negated_id matrix gates (Fault zero i leaf) = last_negated matrix gates
negated_id matrix gates (Fault (suc j) i leaf) =
    3 * length gates + sum_by length (take j matrix) + i
negated_id matrix gates _ = 0

abbrev pub last_base_id : Dqbf → CircuitPart → ℕ
last_base_id f e = last_negated f.matrix e.gates

abbrev pub circuit_id : Dqbf → CircuitPart → Origin → ℕ
circuit_id f e = negated_id f.matrix e.gates

abbrev pub IsOwnLeaf : Dqbf → CircuitPart → ℕ → ℕ → Leaf → Type 0
IsOwnLeaf f e j i out =
    All (λ y. option_map variable_of (matrix_literal f j i) ≡ Some y.variable → out ≡ e.leaf y)
    f.existentials

-- the given clauses that the proof may rest on: those of the file's gates, and the group's faults
-- of the existentials' leaves
abbrev pub IsCircuitClause : Dqbf → CircuitPart → Origin → List Literal → Type 0
IsCircuitClause f e (GateOf v i) c = Contains e.gates v
IsCircuitClause f e (Fault j i out) c =
    ((rest : List Literal) × (c ≡ negative e.group ∷ rest)) × IsOwnLeaf f e j i out
IsCircuitClause f e _ c = ⊥

-- and by the formula they are what their origins stand for
abbrev pub IsRightCircuitClause : Dqbf → List Entry → CircuitPart → Origin → List Literal → Type 0
IsRightCircuitClause f entries e origin c =
    IsCircuitClause f e origin c × IsGivenRightly f entries origin c

-- where the literal stands on a gate, the file has the gate
abbrev pub IsInFile : List Entry → List ℕ → Literal → Type 0
IsInFile entries gates l =
    (a b : Literal) → name_of entries (variable_of l) ≡ Some (And a b)
    → Contains gates (variable_of l)

abbrev pub IsLeafInFile : List Entry → List ℕ → Leaf → Type 0
IsLeafInFile entries gates (Constant b) = Unit {0}
IsLeafInFile entries gates (LeafLiteral l) =
    (is_circuit_name (name_of entries (variable_of l)) ≡ true) × IsInFile entries gates l

-- the file's gates are gates of the log, each once, and it has their sides and the leaves
pub record IsCircuitPart (f : Dqbf) (entries : List Entry) (e : CircuitPart) : Type 0 where
  pub named : (v : ℕ) → Contains e.gates v
      → (a : Literal) × (b : Literal) × (name_of entries v ≡ Some (And a b))
  pub distinct : AllPairs (λ v w. v ≢ w) e.gates
  pub sides : (v : ℕ) (a b : Literal) → Contains e.gates v → name_of entries v ≡ Some (And a b)
      → IsInFile entries e.gates a × IsInFile entries e.gates b
  pub leaves : All (λ y. IsLeafInFile entries e.gates (e.leaf y)) f.existentials

-- each leaf reads inputs that its existential sees
abbrev pub ReadSeen : Dqbf → List Entry → CircuitPart → Type 0
ReadSeen f entries e =
    All (λ y. (x : ℕ) → LeafReads entries (e.leaf y) x → Contains y.sees x) f.existentials

-- where the literal stands on a gate, the list has that gate before this one
abbrev pub IsSideBefore : List Entry → List ℕ → ℕ → Literal → Type 0
IsSideBefore entries gates v l =
    (a b : Literal) → name_of entries (variable_of l) ≡ Some (And a b)
    → position_or_len (λ x. x == variable_of l) gates < position_or_len (λ x. x == v) gates

-- each gate stands behind those that it reads
abbrev pub AreGatesInOrder : List Entry → List ℕ → Type 0
AreGatesInOrder entries gates =
    (v : ℕ) (a b : Literal) → Contains gates v → name_of entries v ≡ Some (And a b)
    → IsSideBefore entries gates v a × IsSideBefore entries gates v b
