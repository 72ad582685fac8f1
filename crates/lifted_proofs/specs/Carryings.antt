-- Words of private contracts: lines of circuits' proofs that are carried.
use Rattle.std.specs.Prelude.{◌<◌, ◌≤◌, ◌+◌, ◌^◌, length}
use Rattle.std.specs.List.{All}
use Rattle.dq_lits.specs.Literal.{Literal, variable_of}
use Rattle.dq_lits.specs.Derivation.{ProofStep}
use Rattle.lifted_proofs.specs.CarriedProofs.{Carrying as CarryingValue}
use Rattle.lifted_proofs.specs.declared.carrying.Carrying.{Carrying}

abbrev pub carrying : Carrying → CarryingValue
carrying c = record {
  gates = c.gates;
  largest = c.largest;
  places = c.places.now;
  clauses = c.clauses;
  ids = c.ids.now;
  some_false = c.some_false;
}

-- the numbers are small
pub record IsCarrying (c : Carrying) : Type 0 where
  pub largest : c.largest ≤ 10 ^ 16
  pub places : All (λ p. p < 10 ^ 16) c.places.now
  pub some_false : c.some_false < 2 ^ 63 + 2 ^ 60

-- a variable of the circuit, or of a clause that is kept
abbrev pub IsCarriedVariable : Carrying → Literal → Type 0
IsCarriedVariable c l = variable_of l ≤ c.largest + length c.places.now

pub record IsCarriedStep (c : Carrying) (s : ProofStep) : Type 0 where
  pub id : s.id < 2 ^ 62
  pub literals : All (IsCarriedVariable c) s.literals
  pub hints : All (λ h. h < 2 ^ 62) s.hints
