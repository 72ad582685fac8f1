use Rattle.std.proofs.Common.{◌∙◌, ◌%◌, ap, slice_get, sym}
use Rattle.std.specs.Option.{option_and_then}
use Rattle.cert_text.specs.NegatedMatrix.{gate_clauses, without_constants}
use Rattle.defined_checker.proofs.bases.DefinitionBase.gate_clause.Goals as goal
use Rattle.proof_checker.proofs.MatrixPlaces.{gate_found}

pub returns : goal.returns
returns c =
    c.clause_of.ensures
    ∙ ap (λ g. option_and_then without_constants (slice_get (gate_clauses g) (c.args.i % 3))) c.gate-gate.ensures.gate
    ∙ sym (ap (option_and_then without_constants)
    (gate_found c.args.self.now.definition.gates c.args.i c.gate-gate.result c.requires))
