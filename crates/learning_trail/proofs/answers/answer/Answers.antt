use Rattle.std.proofs.Common.{arith}
use Rattle.learning_trail.proofs.SoughtAnswers.{sought_markable, sought_concluded, concluded_named, concluded_ids, concluded_refuted, concluded_fit}
use Rattle.learning_trail.proofs.answers.answer.Goals as goal

pub back_to_decisions-requires-clause-within : goal.back_to_decisions-requires-clause-within
back_to_decisions-requires-clause-within g c = search (arith, sought_markable)

pub keep_answer-requires-clause-named : goal.keep_answer-requires-clause-named
keep_answer-requires-clause-named g c =
    let held = g.C.Clauses.clauses c.args.clauses.now in
    let noted = c.turn.new.self in
    let done = sought_concluded c.args.assumptions.now held c.args.trail.now c.args.notes.now c.args.log.now
    c.requires.answering c.back_to_decisions.new.trail c.back_to_decisions.new.notes
    noted c.requires.assumed c.requires.negated c.requires.analysis c.in_ok-back_to_decisions.ensures.kept
    c.in_ok-back_to_decisions.ensures.bare c.turn.ensures in
    concluded_named c.args.assumptions.now held c.args.trail.now c.args.notes.now c.args.log.now c.requires.answering
    noted done

pub keep_answer-requires-clause-hints : goal.keep_answer-requires-clause-hints
keep_answer-requires-clause-hints g c =
    let held = g.C.Clauses.clauses c.args.clauses.now in
    let noted = c.turn.new.self in
    let done = sought_concluded c.args.assumptions.now held c.args.trail.now c.args.notes.now c.args.log.now
    c.requires.answering c.back_to_decisions.new.trail c.back_to_decisions.new.notes
    noted c.requires.assumed c.requires.negated c.requires.analysis c.in_ok-back_to_decisions.ensures.kept
    c.in_ok-back_to_decisions.ensures.bare c.turn.ensures in
    concluded_ids c.args.assumptions.now held c.args.trail.now c.args.notes.now c.args.log.now c.requires.answering
    noted done

pub returns-clause-ok : goal.returns-clause-ok
returns-clause-ok g c =
    let held = g.C.Clauses.clauses c.args.clauses.now in
    let noted = c.turn.new.self in
    let done = sought_concluded c.args.assumptions.now held c.args.trail.now c.args.notes.now c.args.log.now
    c.requires.answering c.back_to_decisions.new.trail c.back_to_decisions.new.notes
    noted c.requires.assumed c.requires.negated c.requires.analysis c.in_ok-back_to_decisions.ensures.kept
    c.in_ok-back_to_decisions.ensures.bare c.turn.ensures in
    concluded_refuted c.args.assumptions.now held c.args.trail.now c.args.notes.now c.args.log.now c.requires.answering
    noted done c.keep_answer.new.log c.in_ok-id.id c.in_ok-id.ensures.ok c.in_ok-id.ensures.id

pub returns-clause-fit : goal.returns-clause-fit
returns-clause-fit g c =
    let held = g.C.Clauses.clauses c.args.clauses.now in
    let noted = c.turn.new.self in
    let done = sought_concluded c.args.assumptions.now held c.args.trail.now c.args.notes.now c.args.log.now
    c.requires.answering c.back_to_decisions.new.trail c.back_to_decisions.new.notes
    noted c.requires.assumed c.requires.negated c.requires.analysis c.in_ok-back_to_decisions.ensures.kept
    c.in_ok-back_to_decisions.ensures.bare c.turn.ensures in
    concluded_fit c.args.assumptions.now held c.args.trail.now c.args.notes.now c.args.log.now c.requires.answering
    noted done (g.C.Clauses.clauses c.keep_answer.new.clauses) c.keep_answer.new.log c.in_ok-id.ensures.held
    c.in_ok-id.ensures.ok
