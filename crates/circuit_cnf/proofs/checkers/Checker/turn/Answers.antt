use Rattle.std.proofs.Common.{true, sym, ◌∙◌, subst, arith}
use Rattle.circuit_cnf.specs.Failing.{is_silent}
use Rattle.circuit_cnf.specs.Turning.{AreLeavesOf, HasTurned}
use Rattle.circuit_cnf.proofs.Preparation.{few_prepared, limit_earlier, prepared_leaves, unnamed_before_turn}
use Rattle.circuit_cnf.proofs.OutputLeaves.{few_same}
use Rattle.circuit_cnf.proofs.TurnAnswers.{shown_since, outputs_hold}
use Rattle.circuit_cnf.proofs.TurnStages.{turned_then, quiet_turned, noted_turned}
use Rattle.circuit_cnf.proofs.checkers.Checker.turn.Goals as goal

pub returns-in_err-prepare-clause-turned : goal.returns-in_err-prepare-clause-turned
returns-in_err-prepare-clause-turned g c = quiet_turned c.args.f.now c.args.self.now c.prepare.new.self _ c.args.log.now
    c.prepare.new.log (c.prepare.ensures.turned.turned c.args.f.now c.requires.checker)

pub output_leaves-requires-clause-checker : goal.output_leaves-requires-clause-checker
output_leaves-requires-clause-checker g c = (c.prepare.ensures.turned.turned c.args.f.now c.requires.checker).checker

pub output_leaves-requires-clause-few : goal.output_leaves-requires-clause-few
output_leaves-requires-clause-few g c = few_prepared c.args.f.now c.args.self.now c.prepare.new.self c.args.log.now
    c.prepare.new.log c.requires.checker c.prepare.ensures.turned c.requires.few

pub returns-in_err-leaves-clause-turned : goal.returns-in_err-leaves-clause-turned
returns-in_err-leaves-clause-turned g c = quiet_turned c.args.f.now c.args.self.now c.output_leaves.new.self _ c.args.log.now
    c.output_leaves.new.log
    (prepared_leaves c.args.f.now c.args.self.now c.prepare.new.self c.output_leaves.new.self c.args.log.now
    c.prepare.new.log c.output_leaves.new.log c.requires.checker c.prepare.ensures.turned c.requires.few
    c.output_leaves.ensures.checker c.output_leaves.ensures.groups c.output_leaves.ensures.grew
    c.output_leaves.ensures.faults)

pub returns-in_err-first-clause-turned : goal.returns-in_err-first-clause-turned
returns-in_err-first-clause-turned g c = quiet_turned c.args.f.now c.args.self.now c.output_leaves.new.self _ c.args.log.now
    c.output_leaves.new.log
    (prepared_leaves c.args.f.now c.args.self.now c.prepare.new.self c.output_leaves.new.self c.args.log.now
    c.prepare.new.log c.output_leaves.new.log c.requires.checker c.prepare.ensures.turned c.requires.few
    c.output_leaves.ensures.checker c.output_leaves.ensures.groups c.output_leaves.ensures.grew
    c.output_leaves.ensures.faults)

pub search-requires-clause-leaves : goal.search-requires-clause-leaves
search-requires-clause-leaves g c = search arith

pub search-requires-clause-few : goal.search-requires-clause-few
search-requires-clause-few g c =
    let few = few_prepared c.args.f.now c.args.self.now c.prepare.new.self c.args.log.now c.prepare.new.log
    c.requires.checker c.prepare.ensures.turned c.requires.few in
    few_same _ c.prepare.new.log c.output_leaves.new.log c.output_leaves.ensures.grew c.output_leaves.ensures.faults few

pub returns-in_err-found-clause-turned : goal.returns-in_err-found-clause-turned
returns-in_err-found-clause-turned g c =
    let first = prepared_leaves c.args.f.now c.args.self.now c.prepare.new.self c.output_leaves.new.self c.args.log.now
    c.prepare.new.log c.output_leaves.new.log c.requires.checker c.prepare.ensures.turned c.requires.few
    c.output_leaves.ensures.checker c.output_leaves.ensures.groups c.output_leaves.ensures.grew
    c.output_leaves.ensures.faults in
    let second = subst (λ r. HasTurned c.args.f.now c.output_leaves.new.self c.output_leaves.new.self (is_silent r)
    c.output_leaves.new.log c.search.new.log) c.in_err-found.was c.search.ensures.turned in
    quiet_turned c.args.f.now c.args.self.now c.output_leaves.new.self _ c.args.log.now c.search.new.log
    (turned_then c.args.f.now c.args.self.now c.output_leaves.new.self c.output_leaves.new.self true c.args.log.now
    c.output_leaves.new.log c.search.new.log first second)

pub returns-clause-turned : goal.returns-clause-turned
returns-clause-turned g c =
    let first = prepared_leaves c.args.f.now c.args.self.now c.prepare.new.self c.output_leaves.new.self c.args.log.now
    c.prepare.new.log c.output_leaves.new.log c.requires.checker c.prepare.ensures.turned c.requires.few
    c.output_leaves.ensures.checker c.output_leaves.ensures.groups c.output_leaves.ensures.grew
    c.output_leaves.ensures.faults in
    let second = subst (λ r. HasTurned c.args.f.now c.output_leaves.new.self c.output_leaves.new.self (is_silent r)
    c.output_leaves.new.log c.search.new.log) c.in_ok-found.was c.search.ensures.turned in
    noted_turned c.args.f.now c.args.self.now c.output_leaves.new.self c.note.new.self _ c.args.log.now c.search.new.log
    c.note.ensures.gates c.note.ensures.inputs
    (turned_then c.args.f.now c.args.self.now c.output_leaves.new.self c.output_leaves.new.self _ c.args.log.now
    c.output_leaves.new.log c.search.new.log first second)

pub returns-in_err-found-clause-limit : goal.returns-in_err-found-clause-limit
returns-in_err-found-clause-limit g c e =
    let first = prepared_leaves c.args.f.now c.args.self.now c.prepare.new.self c.output_leaves.new.self c.args.log.now
    c.prepare.new.log c.output_leaves.new.log c.requires.checker c.prepare.ensures.turned c.requires.few
    c.output_leaves.ensures.checker c.output_leaves.ensures.groups c.output_leaves.ensures.grew
    c.output_leaves.ensures.faults in
    limit_earlier c.output_leaves.new.self c.args.log.now.entries c.output_leaves.new.log.entries c.search.new.log
    (unnamed_before_turn c.args.f.now c.args.self.now c.output_leaves.new.self true c.args.log.now c.output_leaves.new.log
    first) (c.search.ensures.limit (search arith))

pub returns-clause-shown : goal.returns-clause-shown
returns-clause-shown g c id e =
    let have = subst (AreLeavesOf c.args.f.now c.args.graph.now c.output_leaves.new.log.entries c.args.outputs.now)
    (sym c.deref-2.ensures.value) c.in_ok-leaves.ensures.leaves in
    let first = prepared_leaves c.args.f.now c.args.self.now c.prepare.new.self c.output_leaves.new.self c.args.log.now
    c.prepare.new.log c.output_leaves.new.log c.requires.checker c.prepare.ensures.turned c.requires.few
    c.output_leaves.ensures.checker c.output_leaves.ensures.groups c.output_leaves.ensures.grew
    c.output_leaves.ensures.faults in
    shown_since c.args.f.now c.args.graph.now c.output_leaves.new.log.entries c.output_leaves.new.self.inputs.items
    c.args.outputs.now c.deref-2.result.now c.output_leaves.ensures.checker.inputs have
    c.args.log.now.entries c.search.new.log.entries id c.requires.formula c.requires.a_node_an_existential
    (unnamed_before_turn c.args.f.now c.args.self.now c.output_leaves.new.self true c.args.log.now c.output_leaves.new.log
    first) (c.search.ensures.held id (c.in_ok-found.was ∙ e))

pub returns-clause-holds : goal.returns-clause-holds
returns-clause-holds g c id e =
    let have = subst (AreLeavesOf c.args.f.now c.args.graph.now c.output_leaves.new.log.entries c.args.outputs.now)
    (sym c.deref-2.ensures.value) c.in_ok-leaves.ensures.leaves in
    outputs_hold c.args.f.now c.args.graph.now c.output_leaves.new.log.entries c.output_leaves.new.self.inputs.items
    c.args.outputs.now c.deref-2.result.now c.output_leaves.ensures.checker.inputs have
    c.shown_outputs_hold.ensures c.search.new.log.entries id c.requires.formula
    c.requires.a_node_an_existential (c.search.ensures.held id (c.in_ok-found.was ∙ e))
