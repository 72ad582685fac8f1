use Rattle.std.proofs.Common.{◌-◌, ◌∙◌, arith}
use Rattle.cdcl_core.proofs.VisitedClauses.{passed_conflict, passed_first, processed_top}
use Rattle.cdcl_core.proofs.propagation.propagate.Goals as goal

pub returns-in-Some : goal.returns-in-Some
returns-in-Some c = search (arith, passed_conflict)

pub visit_from-requires-clause-processed : goal.visit_from-requires-clause-processed
visit_from-requires-clause-processed c =
    let a = c.args in
    passed_first a.arena.now.clauses a.trail.now c.pass_short.new.trail a.first.now.literals.items
    a.second.now.literals.items a.short.now c.requires.visitable.watched c.requires.short c.requires.ready.levels
    c.pass_short.ensures.grown c.in_default.ensures.passed

pub visit_from-requires-2-clause-processed : goal.visit_from-requires-2-clause-processed
visit_from-requires-2-clause-processed c =
    let a = c.args in
    processed_top a.arena.now.clauses a.first.now.literals.items a.second.now.literals.items a.trail.now.steps
    (c.len-done.result - 1) (λ e. c.if-done-eq0.false (c.len-done.ensures ∙ e)) (omega (arith, c.len-done.ensures))
    c.requires.ready
