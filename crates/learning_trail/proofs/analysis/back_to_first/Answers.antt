use Rattle.std.proofs.Common.{◌≡◌, sym, ◌∙◌, ap, true, false}
use Rattle.std.proofs.lemmas.Bool.{false≢true}
use Rattle.dq_lits.specs.Literal.{variable_of}
use Rattle.oracle.specs.Fit.{live_in}
use Rattle.learning_trail.specs.Steps.{literals_of, is_none as is_no_reason}
use Rattle.learning_trail.specs.Marks.{marked, is_level_marked}
use Rattle.learning_trail.proofs.BacktrackSteps.{reason_of, reason_at, backing_past, backing_next, backing_ends}
use Rattle.learning_trail.proofs.analysis.back_to_first.Goals as goal

pub returns-in-None-clause-first : goal.returns-in-None-clause-first
returns-in-None-clause-first g c =
    let step = c.in-Some.step in
    backing_ends (live_in (g.C.Clauses.clauses c.args.clauses.now)) c.args.trail.now c.loop-step.trail c.pop.new.self
    c.args.notes.now c.loop-step.notes step c.loop-step.invariant
    c.in-Some.ensures.steps c.pop.ensures.room (sym c.has.ensures ∙ c.if-has.true)
    (λ implied. absurd (false≢true (sym implied ∙ ap is_no_reason c.in-None.is)))

pub returns-then-not-is_level_marked-clause-first : goal.returns-then-not-is_level_marked-clause-first
returns-then-not-is_level_marked-clause-first g c =
    let step = c.in-Some.step in
    let none : is_level_marked c.loop-step.notes.marks c.pop.new.self.steps ≡ false =
    ap (is_level_marked c.loop-step.notes.marks) (sym c.steps.ensures.value) ∙ sym c.is_level_marked.ensures
    ∙ c.if-not-is_level_marked.true in
    backing_ends (live_in (g.C.Clauses.clauses c.args.clauses.now)) c.args.trail.now c.loop-step.trail c.pop.new.self
    c.args.notes.now c.loop-step.notes step c.loop-step.invariant
    c.in-Some.ensures.steps c.pop.ensures.room (sym c.has.ensures ∙ c.if-has.true) (λ _. none)

pub resolve-requires-clause-is_id : goal.resolve-requires-clause-is_id
resolve-requires-clause-is_id g c =
    let live = live_in (g.C.Clauses.clauses c.args.clauses.now) in
    let step = c.in-Some.step in
    let status = reason_at live c.loop-step.trail.steps c.pop.new.self.steps step c.in-Some-reason.reason
    c.loop-step.invariant.sound c.in-Some.ensures.steps c.in-Some-reason.is in
    (reason_of (g.C.Clauses.clauses c.args.clauses.now) c.in-Some-reason.reason
    (literals_of c.pop.new.self.steps) step.literal status).is_id

pub lits-requires-clause-is_id : goal.lits-requires-clause-is_id
lits-requires-clause-is_id g c =
    let live = live_in (g.C.Clauses.clauses c.args.clauses.now) in
    let step = c.in-Some.step in
    let status = reason_at live c.loop-step.trail.steps c.pop.new.self.steps step c.in-Some-reason.reason
    c.loop-step.invariant.sound c.in-Some.ensures.steps c.in-Some-reason.is in
    (reason_of (g.C.Clauses.clauses c.args.clauses.now) c.in-Some-reason.reason
    (literals_of c.pop.new.self.steps) step.literal status).is_id

pub loop-step-preserved-in-Some-reason : goal.loop-step-preserved-in-Some-reason
loop-step-preserved-in-Some-reason g c =
    let live = live_in (g.C.Clauses.clauses c.args.clauses.now) in
    let step = c.in-Some.step in
    let id = c.in-Some-reason.reason in
    let status = reason_at live c.loop-step.trail.steps c.pop.new.self.steps step id c.loop-step.invariant.sound
    c.in-Some.ensures.steps c.in-Some-reason.is in
    let mark : marked c.loop-step.notes.marks (variable_of step.literal) ≡ true = sym c.has.ensures ∙ c.if-has.true in
    let some : is_level_marked c.loop-step.notes.marks c.pop.new.self.steps ≡ true =
    ap (is_level_marked c.loop-step.notes.marks) (sym c.steps.ensures.value) ∙ sym c.is_level_marked.ensures
    ∙ c.if-not-is_level_marked.false in
    backing_next (g.C.Clauses.clauses c.args.clauses.now) c.args.trail.now c.loop-step.trail c.pop.new.self
    c.args.notes.now c.loop-step.notes c.resolve.new.notes
    step id c.loop-step.invariant c.in-Some.ensures.steps c.pop.ensures.room c.in-Some-reason.is status mark some
    c.resolve.ensures.len c.in_ok-resolve-in-Some-reason.ensures.hints c.resolve.ensures.literals
    c.in_ok-resolve-in-Some-reason.ensures.marked

pub loop-step-preserved : goal.loop-step-preserved
loop-step-preserved g c =
    let step = c.in-Some.step in
    let unmarked : marked c.loop-step.notes.marks (variable_of step.literal) ≡ false =
    sym c.has.ensures ∙ c.if-has.false in
    backing_past (live_in (g.C.Clauses.clauses c.args.clauses.now)) c.args.trail.now c.loop-step.trail c.pop.new.self
    c.args.notes.now c.loop-step.notes step
    c.loop-step.invariant c.in-Some.ensures.steps c.pop.ensures.room unmarked
