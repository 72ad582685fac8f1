use Rattle.std.proofs.Common.{◌∙◌, Ok, ap}
use Rattle.definability.proofs.SameGivens.{learned_same}
use Rattle.definition_proofs.proofs.Refutations.{learned_proof, answer_same, answer_proof, shown}
use Rattle.definition_proofs.proofs.differing.Difference.refute.Goals as goal

pub returns-in_err-id-clause-grew : goal.returns-in_err-id-clause-grew
returns-in_err-id-clause-grew g c = λ f standing.
    learned_proof f standing c.args.self.now.existential c.args.log.now c.solve.new.log c.in_err-id.ensures.stop

pub returns-in_err-id-clause-same : goal.returns-in_err-id-clause-same
returns-in_err-id-clause-same g c = learned_same c.args.log.now c.solve.new.log c.in_err-id.ensures.stop

pub unreachable-requires : goal.unreachable-requires
unreachable-requires g c =
    let found = c.solve.ensures.sat (c.in_ok-id.was ∙ ap Ok c.in-Sat.is) in
    c.requires.none c.solve.new.log (g.O.Oracle.values c.solve.new.self)
    (g.met.O.Oracle.searched c.solve.new.self c.solve.new.log c.solve.ensures.fit).logged found.0 found.1

pub returns-clause-grew : goal.returns-clause-grew
returns-clause-grew g c = λ f standing.
    answer_proof c.derived_line_is_implied.ensures c.args.self.now.existential c.args.self.now.output c.args.active.now
    c.args.log.now c.solve.new.log c.in-Unsat.id c.requires.premises
    (g.met.O.Oracle.searched c.solve.new.self c.solve.new.log c.solve.ensures.fit)
    (c.solve.ensures.unsat c.in-Unsat.id (c.in_ok-id.was ∙ ap Ok c.in-Unsat.is)) f standing
    c.args.self.now.existential

pub returns-clause-same : goal.returns-clause-same
returns-clause-same g c =
    answer_same c.derived_line_is_implied.ensures c.args.self.now.existential c.args.self.now.output c.args.active.now
    c.args.log.now c.solve.new.log c.in-Unsat.id c.requires.premises
    (g.met.O.Oracle.searched c.solve.new.self c.solve.new.log c.solve.ensures.fit)
    (c.solve.ensures.unsat c.in-Unsat.id (c.in_ok-id.was ∙ ap Ok c.in-Unsat.is))

pub returns-clause-shown : goal.returns-clause-shown
returns-clause-shown g c =
    shown c.derived_line_is_implied.ensures c.args.self.now.existential c.args.self.now.output c.args.active.now
    c.args.log.now c.solve.new.log c.in-Unsat.id c.requires.premises
    (g.met.O.Oracle.searched c.solve.new.self c.solve.new.log c.solve.ensures.fit)
    (c.solve.ensures.unsat c.in-Unsat.id (c.in_ok-id.was ∙ ap Ok c.in-Unsat.is))
