use Rattle.std.proofs.Common.{◌≡◌, ◌∷◌, ◌++◌, [], sym, ◌∙◌, ap, true, false}
use Rattle.dq_lits.specs.Literal.{variable_of, opposite}
use Rattle.oracle.specs.Fit.{live_in}
use Rattle.learning_trail.specs.Steps.{literals_of, is_none}
use Rattle.learning_trail.specs.Marks.{marked}
use Rattle.learning_trail.proofs.BacktrackSteps.{reason_of, reason_at, keeping_past, keeping_next, keeping_decision, keeping_same}
use Rattle.learning_trail.proofs.answers.back_to_decisions.Goals as goal

pub loop-step-preserved-in-Continue-1 : goal.loop-step-preserved-in-Continue-1
loop-step-preserved-in-Continue-1 g c =
    let now = c.loop-step.notes in
    let step = c.in-Some.step in
    let added : c.add_literal.new.self ≡ record {
      marks = now.marks;
      places = now.places;
      hints = now.hints;
      literals =
          now.literals ++ opposite step.literal ∷ [];
    } =
    c.in_ok-add_literal-in-None.ensures.ok ∙ ap (λ l. record {
      marks = now.marks;
      places = now.places;
      hints = now.hints;
      literals =
          now.literals ++ l ∷ [];
    }) c.not.ensures in
    keeping_decision (live_in (g.C.Clauses.clauses c.args.clauses.now)) c.args.trail.now c.loop-step.trail
    c.pop.new.self c.args.notes.now now
    c.add_literal.new.self step c.loop-step.invariant c.in-Some.ensures.steps c.pop.ensures.room
    (ap is_none c.in-None.is) added

pub resolve-requires-clause-is_id : goal.resolve-requires-clause-is_id
resolve-requires-clause-is_id g c =
    let live = live_in (g.C.Clauses.clauses c.args.clauses.now) in
    let step = c.in-Some.step in
    let status = reason_at live c.loop-step.trail.steps c.pop.new.self.steps step c.in-Some-reason.reason
    c.loop-step.invariant.sound c.in-Some.ensures.steps c.in-Some-reason.is in
    (reason_of (g.C.Clauses.clauses c.args.clauses.now) c.in-Some-reason.reason
    (literals_of c.pop.new.self.steps) step.literal status).is_id

pub loop-step-preserved-in-Continue-branch-2 : goal.loop-step-preserved-in-Continue-branch-2
loop-step-preserved-in-Continue-branch-2 g c =
    let live = live_in (g.C.Clauses.clauses c.args.clauses.now) in
    let step = c.in-Some.step in
    let id = c.in-Some-reason.reason in
    let status = reason_at live c.loop-step.trail.steps c.pop.new.self.steps step id c.loop-step.invariant.sound
    c.in-Some.ensures.steps c.in-Some-reason.is in
    let mark : marked c.loop-step.notes.marks (variable_of step.literal) ≡ true = sym c.has.ensures ∙ c.if-has.true in
    keeping_next (g.C.Clauses.clauses c.args.clauses.now) c.args.trail.now c.loop-step.trail c.pop.new.self
    c.args.notes.now c.loop-step.notes c.resolve.new.notes
    step id c.loop-step.invariant c.in-Some.ensures.steps c.pop.ensures.room status mark c.resolve.ensures.len
    c.in_ok-resolve-in-Some-reason.ensures.hints c.resolve.ensures.literals c.in_ok-resolve-in-Some-reason.ensures.marked

pub loop-step-preserved : goal.loop-step-preserved
loop-step-preserved g c =
    let step = c.in-Some.step in
    let unmarked : marked c.loop-step.notes.marks (variable_of step.literal) ≡ false =
    sym c.has.ensures ∙ c.if-has.false in
    keeping_past (live_in (g.C.Clauses.clauses c.args.clauses.now)) c.args.trail.now c.loop-step.trail c.pop.new.self
    c.args.notes.now c.loop-step.notes step
    c.loop-step.invariant c.in-Some.ensures.steps c.pop.ensures.room unmarked

pub returns-clause-kept : goal.returns-clause-kept
returns-clause-kept g c =
    keeping_same (live_in (g.C.Clauses.clauses c.args.clauses.now)) c.args.trail.now c.loop-step.trail c.pop.new.self
    c.args.notes.now c.loop-step.notes
    (c.in_default.ensures.steps.1 ∙ sym c.in_default.ensures.steps.0) c.pop.ensures.room c.loop-step.invariant
