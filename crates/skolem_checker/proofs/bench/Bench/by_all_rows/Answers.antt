use Rattle.std.proofs.Common.{length, ap, subst, arith}
use Rattle.skolem_checker.specs.MappingReading.{mapping_in}
use Rattle.skolem_checker.specs.Renaming.{copy_or}
use Rattle.skolem_checker.specs.Checks.{Candidate, IsRowsAnswer}
use Rattle.skolem_checker.proofs.BenchLaws.{literals_fit, universal_places_fit}
use Rattle.skolem_checker.proofs.OriginalLaws.{rows_answer_copied}
use Rattle.skolem_checker.proofs.bench.Bench.by_all_rows.Goals as goal

pub first_bad_row-requires-clause-places_fit : goal.first_bad_row-requires-clause-places_fit
first_bad_row-requires-clause-places_fit c =
    let b = c.self.inside in
    let same = ap (λ (v : Candidate). length v.formula.universals) c.self.view_is in
    rw c.deref-3.ensures.value
    (universal_places_fit b.formula.now (copy_or b.copy b.circuit.now) (mapping_in b.mapped) b.literals.items b.places.items
    c.self.invariant.formed c.self.invariant.tables
    b.universal_places.items 20 c.self.invariant.by_input_is (omega (arith, same, c.requires)))

pub first_bad_row-requires-clause-literals_fit : goal.first_bad_row-requires-clause-literals_fit
first_bad_row-requires-clause-literals_fit c =
    let b = c.self.inside in
    rw c.copy_or.ensures
    (rw c.deref.ensures.value
    (literals_fit b.formula.now (copy_or b.copy b.circuit.now) (mapping_in b.mapped) b.literals.items b.places.items c.self.invariant.formed
    c.self.invariant.tables c.self.invariant.copy_kept))

pub returns-clause-answer : goal.returns-clause-answer
returns-clause-answer c =
    let b = c.self.inside in
    subst (λ (v : Candidate). IsRowsAnswer v.formula v.circuit c.first_bad_row.result) c.self.view_is
    (rows_answer_copied b.formula.now b.circuit.now (copy_or b.copy b.circuit.now) (mapping_in b.mapped) b.literals.items b.places.items
    c.self.invariant.formed
    c.self.invariant.kept c.self.invariant.complete c.self.invariant.mapped c.self.invariant.copied
    c.self.invariant.copy_kept
    c.self.invariant.tables b.universal_places.items c.self.invariant.by_input_is c.first_bad_row.result
    (rw c.copy_or.ensures at (rw c.deref.ensures.value at (rw c.deref-3.ensures.value at c.first_bad_row.ensures.first))))
