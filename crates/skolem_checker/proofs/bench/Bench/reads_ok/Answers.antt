use Rattle.std.proofs.Common.{subst, sym, ◌∙◌}
use Rattle.skolem_checker.specs.MappingReading.{mapping_in}
use Rattle.skolem_checker.specs.Renaming.{copy_or}
use Rattle.skolem_checker.specs.SkolemCircuit.{ReadsUniversal}
use Rattle.skolem_checker.specs.Checks.{Candidate, IsReadsAnswer}
use Rattle.skolem_checker.proofs.BenchLaws.{universals_fit, places_fit, outputs_fit}
use Rattle.skolem_checker.proofs.ConesLaws.{are_inputs}
use Rattle.skolem_checker.proofs.OriginalLaws.{reads_answer_copied}
use Rattle.skolem_checker.proofs.bench.Bench.reads_ok.Goals as goal

pub undeclared_read-requires-clause-tested : goal.undeclared_read-requires-clause-tested
undeclared_read-requires-clause-tested c =
    let b = c.self.inside in
    let mapped = c.self.invariant.tables.mapped in
    record {
      ordered = rw c.copy_or.ensures c.self.invariant.ordered;
      universals_fit = rw c.copy_or.ensures
          (rw c.deref.ensures.value
          (universals_fit b.formula.now (copy_or b.copy b.circuit.now) (mapping_in b.mapped) b.literals.items b.places.items
          c.self.invariant.formed c.self.invariant.tables c.self.invariant.copy_kept));
      a_universal_an_input = rw c.copy_or.ensures
          (rw c.deref-2.ensures.value (mapped.inputs.same_length ∙ sym mapped.inputs_length));
      inputs = rw c.copy_or.ensures
          (rw c.deref.ensures.value
          (rw c.deref-2.ensures.value
          (are_inputs b.formula.now (copy_or b.copy b.circuit.now) (mapping_in b.mapped) b.literals.items b.places.items
          c.self.invariant.tables)));
    }

pub undeclared_read-requires-clause-outputs : goal.undeclared_read-requires-clause-outputs
undeclared_read-requires-clause-outputs c =
    let b = c.self.inside in
    record {
      placed = rw c.deref-3.ensures.value
          (places_fit b.formula.now (copy_or b.copy b.circuit.now) (mapping_in b.mapped) b.literals.items b.places.items
          c.self.invariant.formed c.self.invariant.tables);
      outputs = rw c.copy_or.ensures
          (rw c.deref-3.ensures.value
          (outputs_fit b.formula.now (copy_or b.copy b.circuit.now) (mapping_in b.mapped) b.literals.items b.places.items
          c.self.invariant.formed c.self.invariant.tables));
    }

pub returns-clause-answer : goal.returns-clause-answer
returns-clause-answer c =
    let b = c.self.inside in
    subst (λ (v : Candidate). IsReadsAnswer (ReadsUniversal v.circuit) v.formula c.undeclared_read.result)
    c.self.view_is
    (reads_answer_copied b.formula.now b.circuit.now (copy_or b.copy b.circuit.now) (mapping_in b.mapped) b.literals.items b.places.items
    c.self.invariant.formed
    c.self.invariant.kept c.self.invariant.complete c.self.invariant.mapped c.self.invariant.copied
    c.self.invariant.copy_kept
    c.self.invariant.tables c.undeclared_read.result
    (rw c.copy_or.ensures at (rw c.deref.ensures.value at (rw c.deref-3.ensures.value at c.undeclared_read.ensures.answer))))
