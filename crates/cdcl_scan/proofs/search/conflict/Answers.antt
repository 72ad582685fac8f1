use Rattle.std.proofs.Common.{[]}
use Rattle.oracle.specs.Fit.{live_in}
use Rattle.learning_trail.proofs.SearchTurns.{decided_assumed}
use Rattle.cdcl_scan.proofs.search.conflict.Goals as goal

pub answer_conflict-requires-clause-answering : goal.answer_conflict-requires-clause-answering
answer_conflict-requires-clause-answering c =
    let s = c.requires.searching in
    record {
      variables = c.args.s.now.variables;
      resting = [];
      fit = s.fit;
      awake = s.awake;
      sound = s.sound;
      guided = s.guided;
      room = s.room;
      marks = s.marks;
      named = c.requires.assumptions;
    }

pub answer_conflict-requires-clause-assumed : goal.answer_conflict-requires-clause-assumed
answer_conflict-requires-clause-assumed c =
    let s = c.args.s.now in
    decided_assumed c.args.log.now.entries (live_in s.clauses.clauses) c.args.assumptions.now s.trail.steps
    c.requires.searching.sound c.requires.searching.guided c.in-None.ensures

pub returns-in_err-answer-in-None-clause-fit : goal.returns-in_err-answer-in-None-clause-fit
returns-in_err-answer-in-None-clause-fit c = c.answer_conflict.ensures.fit [] c.args.s.now.variables
    c.requires.searching.awake c.requires.searching.fit

pub returns-in_ok-answer-in-None-clause-fit : goal.returns-in_ok-answer-in-None-clause-fit
returns-in_ok-answer-in-None-clause-fit c = c.answer_conflict.ensures.fit [] c.args.s.now.variables
    c.requires.searching.awake c.requires.searching.fit
