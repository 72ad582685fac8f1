use Rattle.std.proofs.Common.{◌∷◌, sym, ◌∙◌, subst, refl, arith}
use Rattle.oracle.specs.Fit.{live_in}
use Rattle.learning_trail.specs.Sound.{IsSound}
use Rattle.learning_trail.specs.Backing.{IsRedundant}
use Rattle.learning_trail.proofs.BacktrackSteps.{reason_at}
use Rattle.learning_trail.proofs.Lessons.{sound_later}
use Rattle.learning_trail.proofs.MinimalClauses.{trimmed_past, trimmed_noted, trimmed_resolved}
use Rattle.learning_trail.proofs.analysis.trim.Goals as goal

pub returns-in_ok-resolve-in-Some-clause-trimmed : goal.returns-in_ok-resolve-in-Some-clause-trimmed
returns-in_ok-resolve-in-Some-clause-trimmed g c = λ steps rest was sound inv.
    let clauses = g.C.Clauses.clauses c.args.clauses.now in
    let live = live_in clauses in
    let step = c.args.step.now in
    let redundant : IsRedundant live c.args.notes.now.marks step c.in-Some.reason = c.in-Some.ensures in
    let here = sound_later live inv.done (step ∷ rest) (subst (IsSound live) inv.split sound) in
    let status = reason_at live (step ∷ rest) rest step c.in-Some.reason here refl redundant.is in
    trimmed_resolved clauses steps rest was c.args.notes.now c.resolve.new.notes step c.in-Some.reason sound inv status
    (sym c.has.ensures ∙ c.if-not-has.false) redundant
    c.resolve.ensures.len c.in_ok-resolve-in-Some.ensures.hints c.resolve.ensures.literals c.in_ok-resolve-in-Some.ensures.marked

pub returns-in_ok-add_literal-in-None-clause-trimmed : goal.returns-in_ok-add_literal-in-None-clause-trimmed
returns-in_ok-add_literal-in-None-clause-trimmed g c = search (arith, trimmed_noted)

pub returns-then-not-has-clause-trimmed : goal.returns-then-not-has-clause-trimmed
returns-then-not-has-clause-trimmed g c = search (arith, trimmed_past)
