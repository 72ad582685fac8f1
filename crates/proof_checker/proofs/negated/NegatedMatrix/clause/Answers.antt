use Rattle.std.proofs.Common.{◌-◌, length, refl, ap, sym, ◌∙◌, arith}
use Rattle.std.specs.Option.{option_and_then}
use Rattle.circuit_plain.specs.Netlist.{Netlist}
use Rattle.cert_text.specs.NegatedMatrix.{without_constants}
use Rattle.skolem_checker.specs.Checks.{Candidate}
use Rattle.proof_checker.proofs.MatrixPlaces.{gates_first, behind_gates, by_id}
use Rattle.proof_checker.proofs.negated.NegatedMatrix.clause.Goals as goal

pub returns-then-i-gates : goal.returns-then-i-gates
returns-then-i-gates c = search (arith, gates_first, by_id)

pub returns : goal.returns
returns c =
    let m = c.args.self.now in
    let i = c.args.id - 1 in
    let n = c.gates-gates.result in
    let net_is = c.circuit-circuit.ensures ∙ ap (λ (k : Candidate). k.circuit.netlist) c.self.view_is in
    let count = c.gates-gates.ensures ∙ ap (λ (net : Netlist). length net.gates) net_is in
    c.formula_clause.ensures ∙ ap (option_and_then without_constants)
    (sym (behind_gates m i n count (omega (arith, c.if-i-gates.false))))
    ∙ sym (by_id m c.args.id i c.if-id-eq0.false refl)
