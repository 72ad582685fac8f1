use Rattle.std.proofs.Common.{◌≡◌, ◌∷◌, ◌++◌, [], reverse, sym, ap, ◌∙◌, subst, ◌==◌, refl, arith}
use Rattle.std.proofs.lemmas.Bool.{eq-eqb}
use Rattle.list_laws.proofs.Options.{some_of}
use Rattle.dq_lits.specs.Literal.{variable_of}
use Rattle.dq_lits.proofs.HeldLiterals.{any_one}
use Rattle.oracle.specs.Fit.{live_in}
use Rattle.learning_trail.specs.Steps.{literals_of, decision_of}
use Rattle.learning_trail.specs.Sound.{IsSound}
use Rattle.learning_trail.specs.Analyses.{IsAnalysis}
use Rattle.learning_trail.proofs.ConflictAnalysis.{analysis_first, sound_consistent}
use Rattle.learning_trail.proofs.Lessons.{sound_later}
use Rattle.learning_trail.proofs.TakenLevels.{conflict_of, conflict_marked}
use Rattle.learning_trail.proofs.LearnedClauses.{lesson_made}
use Rattle.learning_trail.proofs.analysis.analyse.Goals as goal

pub back_to_first-requires-clause-some : goal.back_to_first-requires-clause-some
back_to_first-requires-clause-some g c =
    let clauses = g.C.Clauses.clauses c.args.clauses.now in
    let steps = c.args.trail.now.steps in
    let k = conflict_of clauses c.args.conflict (literals_of steps) c.requires.conflict in
    let d = some_of (decision_of steps) c.requires.decided in
    conflict_marked (live_in clauses) steps c.begin.new.notes.marks k.clause c.args.conflict d.0 c.requires.sound d.1
    k.is k.false_now
    (λ l m. c.in_ok-begin.ensures.marked k.clause (variable_of l) k.is ∙ any_one
    (λ x. variable_of x == variable_of l) k.clause l m (eq-eqb (variable_of l) (variable_of l) refl))

pub add_rest-requires-clause-sound : goal.add_rest-requires-clause-sound
add_rest-requires-clause-sound g c = search (arith, sound_later)

pub returns-clause-lesson : goal.returns-clause-lesson
returns-clause-lesson g c =
    let clauses = g.C.Clauses.clauses c.args.clauses.now in
    let live = live_in clauses in
    let old = c.args.trail.now in
    let mid = c.back_to_first.new.trail in
    let step = c.in_ok-first.first in
    let found = c.back_to_first.new.notes in
    let point = c.in_ok-first.ensures.first in
    let k = conflict_of clauses c.args.conflict (literals_of old.steps) c.requires.conflict in
    let hints : reverse c.begin.new.notes.hints ≡ c.args.conflict ∷ [] = ap reverse c.in_ok-begin.ensures.hints in
    let sound = sound_later live point.shrunk.popped (step ∷ mid.steps)
    (subst (IsSound live) point.shrunk.is c.requires.sound) in
    let added = c.in_ok-add_literal.ensures.ok ∙ ap (λ l. record {
      marks = found.marks;
      places = found.places;
      hints =
          found.hints;
      literals = found.literals ++ l ∷ [];
    }) c.not.ensures in
    lesson_made live old mid step c.begin.new.notes found c.add_literal.new.self c.add_rest.new.notes c.turn.new.self
    sound c.begin.ensures.literals
    (λ entries stand. subst (IsAnalysis entries live (literals_of old.steps) [] c.begin.new.notes.marks) (sym hints)
    (analysis_first entries live c.begin.new.notes.marks (literals_of old.steps) k.clause c.args.conflict k.is
    k.false_now (λ l m. stand c.args.conflict k.clause l k.is m) (sound_consistent live old.steps c.requires.sound)
    (λ v. c.in_ok-begin.ensures.marked k.clause v k.is)))
    point added c.in_ok-add_rest.ensures.trimmed c.turn.ensures
