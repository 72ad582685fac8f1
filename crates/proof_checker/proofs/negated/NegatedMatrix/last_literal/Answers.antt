use Rattle.std.proofs.Common.{◌+◌, length, Some, ap, sym, ◌∙◌}
use Rattle.dq_lits.specs.Literal.{positive}
use Rattle.circuit_plain.specs.Netlist.{Netlist}
use Rattle.skolem_checker.specs.Checks.{Candidate}
use Rattle.proof_checker.proofs.ShortenedClauses.{range_literal}
use Rattle.proof_checker.proofs.negated.NegatedMatrix.last_literal.Goals as goal

pub returns : goal.returns
returns c =
    let m = c.args.self.now in
    let largest = c.max_var.ensures.value ∙ ap (λ (net : Netlist). net.max_var) c.circuit.ensures
    ∙ ap (λ (k : Candidate). k.circuit.netlist.max_var) c.self.view_is in
    range_literal (m.circuit.netlist.max_var + 1) (length m.formula.matrix) c.args.i c.requires
    ∙ ap (λ v. Some (positive (v + 1 + c.args.i))) (sym largest) ∙ ap Some (sym c.pos.ensures)
