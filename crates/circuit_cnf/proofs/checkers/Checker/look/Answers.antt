use Rattle.std.proofs.Common.{arith, ◌≡◌, ◌∙◌, ◌||◌, ap, not, subst, true, Ok}
use Rattle.dq_lits.specs.Literal.{variable_of}
use Rattle.dq_lits.specs.Row.{bit_of}
use Rattle.hint_log.specs.Entries.{clause_at}
use Rattle.oracle.specs.Calls.{IsMade, IsModelUnder, IsRefutedUnder}
use Rattle.oracle.specs.Limits.{IsAtLimit}
use Rattle.circuit_cnf.specs.Checking.{gate_groups}
use Rattle.circuit_cnf.proofs.ActiveGroups.{active_cases, active_made, active_of_turn, all_are, assumed_are}
use Rattle.std.specs.List.{Contains}
use Rattle.circuit_cnf.specs.Saying.{given_after, given_before, leaf_in, selector_in}
use Rattle.circuit_cnf.specs.Turning.{IsHeldBy}
use Rattle.circuit_cnf.proofs.FalseClauses.{are_failing, switched_on}
use Rattle.circuit_cnf.proofs.GroupFaults.{all_given}
use Rattle.circuit_cnf.proofs.HeldGroups.{held_by}
use Rattle.circuit_cnf.proofs.TurnParts.{saying_turned, saying_on, saying_more, learned_said}
use Rattle.circuit_cnf.proofs.TurnStages.{learned_turned, answered_turned, quiet_turned, faults_groups}
use Rattle.circuit_cnf.proofs.checkers.Checker.look.Goals as goal

pub returns-in_err-say-clause-turned : goal.returns-in_err-say-clause-turned
returns-in_err-say-clause-turned g c start w =
    let on = saying_on c.args.self.now c.args.faults.now c.args.bads.now (given_before c.args.part.now) start c.args.log.now w
    c.say.new.log c.say.ensures.said in
    saying_turned c.args.self.now c.args.faults.now c.args.bads.now (given_before c.args.part.now) start c.say.new.log on _

pub solve-requires-clause-made : goal.solve-requires-clause-made
solve-requires-clause-made g c =
    let w = c.requires.saying.1 in
    let on = saying_on c.args.self.now c.args.faults.now c.args.bads.now (given_before c.args.part.now) c.requires.saying.0
    c.args.log.now w c.say.new.log c.say.ensures.said in
    let turned = saying_turned c.args.self.now c.args.faults.now c.args.bads.now (given_before c.args.part.now) c.requires.saying.0
    c.say.new.log on true in
    all_are (IsMade c.say.new.log.entries) c.deref.result.now (λ h inside.
    active_made c.args.self.now c.args.faults.now.group.now c.args.are_all c.in_ok-active.active.items
    c.in_ok-active.ensures c.say.new.log.entries turned.checker.gates.made on.may.made h
    (subst (λ hs. Contains hs h) c.deref.ensures.value inside))

pub returns-in_err-active-clause-turned : goal.returns-in_err-active-clause-turned
returns-in_err-active-clause-turned g c start w =
    let on = saying_on c.args.self.now c.args.faults.now c.args.bads.now (given_before c.args.part.now) start c.args.log.now w
    c.say.new.log c.say.ensures.said in
    saying_turned c.args.self.now c.args.faults.now c.args.bads.now (given_before c.args.part.now) start c.say.new.log on _

pub returns-in_err-id-clause-turned : goal.returns-in_err-id-clause-turned
returns-in_err-id-clause-turned g c start w =
    let f = c.args.faults.now.f.now in
    let on = saying_on c.args.self.now c.args.faults.now c.args.bads.now (given_before c.args.part.now) start c.args.log.now w
    c.say.new.log c.say.ensures.said in
    let turned = saying_turned c.args.self.now c.args.faults.now c.args.bads.now (given_before c.args.part.now) start c.say.new.log
    on true in
    quiet_turned f c.args.self.now c.args.self.now _ start c.solve.new.log
    (learned_turned f c.args.self.now start c.say.new.log c.solve.new.log turned c.in_err-id.ensures.stop)

pub returns-in-Unsat-clause-turned : goal.returns-in-Unsat-clause-turned
returns-in-Unsat-clause-turned g c start w =
    let f = c.args.faults.now.f.now in
    let on = saying_on c.args.self.now c.args.faults.now c.args.bads.now (given_before c.args.part.now) start c.args.log.now w
    c.say.new.log c.say.ensures.said in
    let turned = saying_turned c.args.self.now c.args.faults.now c.args.bads.now (given_before c.args.part.now) start c.say.new.log
    on true in
    answered_turned f c.args.self.now start c.say.new.log c.solve.new.log turned _ c.in-Unsat.id
    (c.solve.ensures.unsat c.in-Unsat.id (c.in_ok-id.was ∙ ap Ok c.in-Unsat.is))

pub returns-in-Unsat-clause-held : goal.returns-in-Unsat-clause-held
returns-in-Unsat-clause-held g c start id w e =
    let f = c.args.faults.now.f.now in
    let leaf = leaf_in c.args.faults.now in
    let on = saying_on c.args.self.now c.args.faults.now c.args.bads.now (given_before c.args.part.now) start c.args.log.now w
    c.say.new.log c.say.ensures.said in
    let r = c.solve.ensures.unsat c.in-Unsat.id (c.in_ok-id.was ∙ ap Ok c.in-Unsat.is) in
    let faults = c.args.faults.now.group.now in
    let active = c.in_ok-active.active.items in
    let mine = subst (λ ls. IsRefutedUnder c.say.new.log c.solve.new.log ls c.in-Unsat.id)
    (assumed_are c.deref.result.now active c.deref.ensures.value) r in
    let groups = faults_groups f c.args.self.now leaf start on.first faults on.group_made c.say.new.log on.said in
    let held = held_by f leaf (gate_groups c.args.self.now) active (variable_of faults.selector) start.entries c.say.new.log
    c.solve.new.log c.in-Unsat.id groups
    (g.met.O.Oracle.searched c.solve.new.self c.solve.new.log c.solve.ensures.fit)
    (λ h inside. (active_made c.args.self.now faults c.args.are_all active c.in_ok-active.ensures c.say.new.log.entries
    groups.gates_made on.may.made h inside).positive)
    (active_cases c.args.self.now faults c.args.are_all active c.in_ok-active.ensures) mine in
    let same : c.in-Unsat.id ≡ id = cc in
    subst (λ i. IsHeldBy f leaf start.entries c.solve.new.log.entries i) same held

pub returns-in_err-id-clause-limit : goal.returns-in_err-id-clause-limit
returns-in_err-id-clause-limit g c e start w =
    let active = c.in_ok-active.active.items in (
      active,
      active_of_turn c.args.self.now c.args.faults.now.group.now c.args.are_all active c.in_ok-active.ensures start.entries
          w.group_made.unnamed,
      subst (IsAtLimit c.solve.new.log) (assumed_are c.deref.result.now active c.deref.ensures.value)
          (c.solve.ensures.limit (search arith)),
    )

pub returns-clause-turned : goal.returns-clause-turned
returns-clause-turned g c start w =
    let f = c.args.faults.now.f.now in
    let on = saying_on c.args.self.now c.args.faults.now c.args.bads.now (given_before c.args.part.now) start c.args.log.now w
    c.say.new.log c.say.ensures.said in
    let turned = saying_turned c.args.self.now c.args.faults.now c.args.bads.now (given_before c.args.part.now) start c.say.new.log
    on true in
    learned_turned f c.args.self.now start c.say.new.log c.solve.new.log turned
    (c.solve.ensures.sat (c.in_ok-id.was ∙ ap Ok c.in-Sat.is)).0

pub returns-clause-saying : goal.returns-clause-saying
returns-clause-saying g c start w e =
    let more = saying_more c.args.self.now c.args.faults.now c.args.bads.now (given_before c.args.part.now) start c.args.log.now w
    (given_after c.args.part.now) c.say.new.log c.say.ensures.said c.in_ok-say.ensures.given in
    saying_on c.args.self.now c.args.faults.now c.args.bads.now (given_after c.args.part.now) start c.say.new.log more
    c.solve.new.log (learned_said c.args.faults.now c.say.new.log c.solve.new.log more.may
    (c.solve.ensures.sat (c.in_ok-id.was ∙ ap Ok c.in-Sat.is)).0)

pub returns-clause-failing : goal.returns-clause-failing
returns-clause-failing g c start w e whole all =
    let f = c.args.faults.now.f.now in
    let leaf = leaf_in c.args.faults.now in
    let more = saying_more c.args.self.now c.args.faults.now c.args.bads.now (given_before c.args.part.now) start c.args.log.now w
    (given_after c.args.part.now) c.say.new.log c.say.ensures.said c.in_ok-say.ensures.given in
    let turned = saying_turned c.args.self.now c.args.faults.now c.args.bads.now (given_after c.args.part.now) start c.say.new.log
    more true in
    let found = c.solve.ensures.sat (c.in_ok-id.was ∙ ap Ok c.in-Sat.is) in
    let values = g.O.Oracle.values c.solve.new.self in
    let active = c.in_ok-active.active.items in
    let two = faults_groups f c.args.self.now leaf start more.first c.args.faults.now.group.now more.group_made
    c.say.new.log more.said in
    let model = subst (IsModelUnder values (clause_at c.solve.new.log.entries))
    (assumed_are c.deref.result.now active c.deref.ensures.value) found.1 in
    are_failing f c.args.self.now.gates leaf (selector_in c.args.faults.now) values start.entries
    c.say.new.log c.solve.new.log found.0 found.1.clauses
    (λ h inside. switched_on values (clause_at c.solve.new.log.entries) active model h
    (c.in_ok-active.ensures.all all h inside) (turned.checker.gates.made h inside).positive)
    (switched_on values (clause_at c.solve.new.log.entries) active model c.args.faults.now.group.now
    c.in_ok-active.ensures.with_faults more.may.made.positive) turned.checker.gates w.group_made.ready two.names
    (all_given f (selector_in c.args.faults.now) leaf c.args.bads.now (given_after c.args.part.now) c.say.new.log.entries
    (λ j. ap (λ b. not b || bit_of c.args.part.now.marks.now j) whole) more.named c.in_ok-say.ensures.given)
