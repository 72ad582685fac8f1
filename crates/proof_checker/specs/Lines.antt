-- Words of private contracts: the items of a circuit's proof.
use Rattle.std.specs.Prelude.{◌<◌, ◌≤◌, ◌^◌, List, length}
use Rattle.aiger_text.specs.Lines.{max_count}
use Rattle.rup_core.specs.Items.{ProofItem}
use Rattle.cert_text.specs.CircuitProof.{is_proof_variable, first_proof_id}
use Rattle.cert_text.specs.Grammar.{AreItems}
use Rattle.cert_text.specs.Header.{max_count as max_lines}
use Rattle.cert_text.specs.Numbering.{numbered_from}
use Rattle.skolem_checker.specs.Checks.{Candidate}

-- the items of a proof
pub record AreProofLines (c : Candidate) (items : List ProofItem) : Type 0 where
  pub few_variables : c.circuit.netlist.max_var ≤ max_count
  pub few_lines : length items ≤ max_lines
  pub small_id : first_proof_id c.formula c.circuit.netlist < 10 ^ 18
  pub are : AreItems (is_proof_variable c.formula c.circuit.netlist)
      (numbered_from (first_proof_id c.formula c.circuit.netlist)) items
