-- Words of private contracts: the numbers of a negated matrix.
use Rattle.std.specs.Prelude.{◌≡◌, ℕ, ◌≤◌, ◌<◌, ◌+◌, ◌*◌, ◌^◌, List, length, take, slice_index}
use Rattle.std.specs.List.{sum_by}
use Rattle.dq_lits.specs.Literal.{Literal}
use Rattle.dq_lits.specs.Formula.{Dqbf}
use Rattle.circuit_plain.specs.Netlist.{Netlist}
use Rattle.cert_text.specs.CircuitProof.{first_proof_id}
use Rattle.lifted_proofs.specs.declared.negated_bases.Base.{Base}

-- how many literals stand before each clause, and in all clauses
pub record AreLengthsBefore (matrix : List (List Literal)) (before : List ℕ) : Type 0 where
  pub count : length before ≡ length matrix + 1
  pub each : (j : ℕ) → j < length matrix + 1 → slice_index before j ≡ sum_by length (take j matrix)

-- the numbers, which are small
pub record IsBaseOf (f : Dqbf) (net : Netlist) (b : Base) : Type 0 where
  pub gates : b.gates ≡ 3 * length net.gates
  pub first : b.first ≡ first_proof_id f net
  pub largest : b.largest ≡ net.max_var
  pub small : b.first ≤ 10 ^ 17
  pub few : b.largest ≤ 10 ^ 16
