-- A circuit file with a proof that shows it, whoever wrote them.
use Rattle.dq_lits.specs.Formula.{Dqbf}
use Rattle.aiger_text.specs.declared.files.AagFile.{AagFile}
use Rattle.cert_text.specs.declared.circuit_proofs.Dqp.{Dqp}
use Rattle.circuit_plain.specs.Netlist.{IsNetlist}
use Rattle.rup_core.specs.Items.{ItemsDerive}
use Rattle.skolem_checker.specs.SkolemCircuit.{IsComplete, IsSkolemCircuit}
use Rattle.proof_checker.specs.CircuitProof.{negated_candidate}

-- the file's circuit can be evaluated and has Skolem functions, and the proof refutes its negated
-- matrix
pub record IsProvedCircuit (f : Dqbf) (file : AagFile) (proof : Dqp) : Type 0 where
  pub netlist : IsNetlist file.circuit
  pub complete : IsComplete file.circuit
  pub skolem : IsSkolemCircuit f file.circuit file.symbols
  pub derives : ItemsDerive
      (negated_candidate
      (record {
        formula = f;
        circuit = record { netlist = file.circuit; mapping = skolem.mapping };
      }))
      proof.items
