use Rattle.std.proofs.Common.{◌≡◌, length, map, sym, ◌∙◌, ap, subst, Ok, None, arith}
use Rattle.dq_lits.specs.Row.{bit_of}
use Rattle.aig_graph.specs.Graph.{node_value}
use Rattle.dq_lits.specs.Literal.{variable_of}
use Rattle.circuit_cnf.specs.Failing.{HasFalseClause}
use Rattle.circuit_cnf.specs.Faults.{leaf_of}
use Rattle.circuit_cnf.specs.Turning.{AreFailing, HasTurned, is_silent_search}
use Rattle.circuit_cnf.proofs.LeafValues.{falsified}
use Rattle.circuit_cnf.proofs.TurnAnswers.{inputs_count, inputs_named}
use Rattle.circuit_cnf.proofs.TurnStages.{quiet_turned}
use Rattle.circuit_cnf.proofs.checkers.Checker.attempt.Goals as goal

pub look-requires-clause-saying : goal.look-requires-clause-saying
look-requires-clause-saying g c = (c.requires.saying.0, c.requires.saying.1)

pub returns-in_err-id-clause-turned : goal.returns-in_err-id-clause-turned
returns-in_err-id-clause-turned g c start w =
    let f = c.args.faults.now.f.now in
    quiet_turned f c.args.self.now c.args.self.now _ start c.look.new.log
    (subst (λ r. HasTurned f c.args.self.now c.args.self.now (is_silent_search r) start c.look.new.log)
    c.in_err-id.was (c.look.ensures.turned start w))

pub returns-in-Some-clause-turned : goal.returns-in-Some-clause-turned
returns-in-Some-clause-turned g c start w =
    let f = c.args.faults.now.f.now in
    subst (λ r. HasTurned f c.args.self.now c.args.self.now (is_silent_search r) start c.look.new.log)
    (c.in_ok-id.was ∙ ap Ok c.in-Some.is) (c.look.ensures.turned start w)

pub returns-in-Some-clause-held : goal.returns-in-Some-clause-held
returns-in-Some-clause-held g c start id w e = search arith

pub failure-requires-clause-made : goal.failure-requires-clause-made
failure-requires-clause-made g c k d below =
    let f = c.args.faults.now.f.now in
    let inputs = c.args.self.now.inputs.items in
    let turned = c.look.ensures.turned c.requires.saying.0 c.requires.saying.1 in
    let are = turned.checker.inputs in
    g.met.O.Oracle.made c.look.new.oracle c.look.new.log _ c.look.ensures.fit
    (inputs_named c.look.new.log.entries f.universals inputs are
    (inputs_count c.look.new.log.entries f.universals inputs are) k d below)

pub failure-requires-clause-input_count : goal.failure-requires-clause-input_count
failure-requires-clause-input_count g c = search (arith, inputs_count)

pub returns-in_err-found-in-None-clause-turned : goal.returns-in_err-found-in-None-clause-turned
returns-in_err-found-in-None-clause-turned g c start w =
    let f = c.args.faults.now.f.now in
    quiet_turned f c.args.self.now c.args.self.now _ start c.look.new.log
    (subst (λ r. HasTurned f c.args.self.now c.args.self.now (is_silent_search r) start c.look.new.log)
    (c.in_ok-id.was ∙ ap Ok c.in-None.is) (c.look.ensures.turned start w))

pub returns-in_ok-found-in-None-clause-turned : goal.returns-in_ok-found-in-None-clause-turned
returns-in_ok-found-in-None-clause-turned g c start w =
    let f = c.args.faults.now.f.now in
    quiet_turned f c.args.self.now c.args.self.now _ start c.look.new.log
    (subst (λ r. HasTurned f c.args.self.now c.args.self.now (is_silent_search r) start c.look.new.log)
    (c.in_ok-id.was ∙ ap Ok c.in-None.is) (c.look.ensures.turned start w))

pub returns-in_ok-found-in-None-clause-saying : goal.returns-in_ok-found-in-None-clause-saying
returns-in_ok-found-in-None-clause-saying g c start w e = c.look.ensures.saying start w (c.in_ok-id.was ∙ ap Ok c.in-None.is)

pub returns-in_ok-found-in-None-clause-decided : goal.returns-in_ok-found-in-None-clause-decided
returns-in_ok-found-in-None-clause-decided g c whole all none =
    let f = c.args.faults.now.f.now in
    let start = c.requires.saying.0 in
    let w = c.requires.saying.1 in
    let inputs = c.args.self.now.inputs.items in
    let values = g.O.Oracle.values c.look.new.oracle in
    let are = w.group_made.before.inputs in
    let found = c.look.ensures.failing start w (c.in_ok-id.was ∙ ap Ok c.in-None.is) whole all in
    let failing = subst (λ xs. AreFailing f (leaf_of f xs c.args.faults.now.outputs.now) start.entries values)
    c.requires.same_inputs found in
    let nodes : length c.args.circuit.now.outputs.now ≡ length f.existentials =
    c.args.circuit.now.a_node_an_existential ∙ ap (λ h. length h.existentials) (sym c.requires.same_formula) in
    let false_there = falsified f c.args.circuit.now.graph.now start.entries inputs values w.group_made.logged are
    (inputs_count start.entries f.universals inputs are) failing.gates c.args.circuit.now.outputs.now
    c.args.faults.now.outputs.now c.requires.saying.2 nodes failing in
    let nothing : c.in_ok-found-in-None.found ≡ None = cc in
    c.failure.ensures.none (c.in_ok-found-in-None.was ∙ ap Ok nothing)
    (subst (λ h. HasFalseClause h (map (λ l. values (variable_of l)) inputs)
    (map (node_value c.args.circuit.now.graph.now (bit_of (map (λ l. values (variable_of l)) inputs)))
    c.args.circuit.now.outputs.now)) c.requires.same_formula false_there)
