use Rattle.std.proofs.Common.{◌≡◌, ◌/◌, false, sym, ap, ◌∙◌}
use Rattle.std.proofs.lemmas.Bool.{not-true, true≢false}
use Rattle.aiger_text.specs.Lines.{gate_from, is_defined}
use Rattle.aiger_text.proofs.Variables.{defined_is}
use Rattle.aiger_text.proofs.body.take_gate.Goals as goal

pub returns-in-Some-clause-netlist : goal.returns-in-Some-clause-netlist
returns-in-Some-clause-netlist c =
    let net = c.args.reader.now.circuit in
    ap (gate_from net) c.in_ok-numbers.ensures
    ∙ c.number_fault.ensures.some c.in-Some.name net c.in-Some.is (sym c.max_var.ensures.value)

pub add_gate-requires-clause-undefined : goal.add_gate-requires-clause-undefined
add_gate-requires-clause-undefined c defined =
    let net = c.args.reader.now.circuit in
    let v = c.in_ok-numbers.numbers.lhs / 2 in
    let is_new = sym c.in_ok-insert.ensures.added ∙ c.if-not-branch.false in
    let undefined : is_defined net v ≡ false = sym (c.requires.ready.defined v) ∙ not-true _ is_new in
    true≢false (sym (defined_is net v defined) ∙ undefined)
