-- A circuit for what is left of a formula can be lifted.
use Rattle.std.proofs.Common.{◌≡◌, Ok, reverse, sym, ◌∙◌, ap, subst}
use Rattle.dq_lits.specs.Formula.{Dqbf}
use Rattle.aiger_text.specs.declared.files.AagFile.{AagFile}
use Rattle.circuit_plain.specs.Netlist.{IsNetlist}
use Rattle.cert_text.specs.declared.circuit_proofs.Dqp.{Dqp}
use Rattle.dq_prep.specs.Simplified.{simplified_formula}
use Rattle.skolem_checker.specs.Checks.{Candidate, candidate_of}
use Rattle.skolem_checker.specs.Mapping.{mapping_of}
use Rattle.lifted_proofs.specs.Liftables.{IsLiftable}
use Rattle.lifted_proofs.specs.LiftedCircuits.{IsLeftProof}
use Rattle.lifted_proofs.specs.UnitTables.{IsUnitTable}
use Rattle.lifted_proofs.specs.declared.units.UnitTable.{UnitTable}
use Rattle.lifted_proofs.proofs.LiftedCircuits.{candidate-parts, mapped-by}

pub is-liftable : (t : UnitTable) (file : AagFile) (g : Dqbf) (p : Dqp) (c : Candidate) → IsUnitTable t →
    IsLeftProof t file g p → candidate_of g file.circuit file.symbols ≡ Ok c →
    IsLiftable t.formula.now (reverse t.units.now) c
is-liftable t file g p c right was is =
    let f = t.formula.now in
    let us = reverse t.units.now in
    let parts = candidate-parts (simplified_formula f us) file.circuit file.symbols c
    (subst (λ h. candidate_of h file.circuit file.symbols ≡ Ok c) was.left is) in
    record {
      well = right.well;
      units_are = right.units;
      left = parts.formula;
      mapped = mapped-by f c.circuit.netlist file.symbols c.circuit.mapping right.well
          (ap (λ n. mapping_of f n file.symbols) parts.netlist ∙ parts.maps);
      lawful = subst IsNetlist (sym parts.netlist) was.proved.netlist;
    }
