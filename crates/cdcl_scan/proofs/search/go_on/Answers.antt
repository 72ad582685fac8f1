use Rattle.std.proofs.Common.{[]}
use Rattle.cdcl_scan.proofs.search.go_on.Goals as goal

pub answer_false-requires-clause-answering : goal.answer_false-requires-clause-answering
answer_false-requires-clause-answering c =
    let s = c.requires.searching in
    record {
      variables = c.args.s.now.variables;
      resting = [];
      fit = s.fit;
      awake = s.awake;
      sound = s.sound;
      guided = s.guided;
      room = s.room;
      marks = s.marks;
      named = c.requires.assumptions;
    }

pub returns-in_err-answer-in-False-clause-fit : goal.returns-in_err-answer-in-False-clause-fit
returns-in_err-answer-in-False-clause-fit c = c.answer_false.ensures.fit [] c.args.s.now.variables
    c.requires.searching.awake c.requires.searching.fit

pub returns-in_ok-answer-in-False-clause-fit : goal.returns-in_ok-answer-in-False-clause-fit
returns-in_ok-answer-in-False-clause-fit c = c.answer_false.ensures.fit [] c.args.s.now.variables
    c.requires.searching.awake c.requires.searching.fit
