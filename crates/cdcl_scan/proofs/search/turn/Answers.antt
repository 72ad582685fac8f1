use Rattle.std.proofs.Common.{[], arith}
use Rattle.learning_trail.proofs.SearchTurns.{clauses_in_room, guided_grown}
use Rattle.cdcl_scan.proofs.search.turn.Goals as goal

pub propagate-requires-clause-in_range : goal.propagate-requires-clause-in_range
propagate-requires-clause-in_range c =
    let s = c.args.s.now in
    clauses_in_room s.clauses.clauses [] s.variables s.trail.room c.args.log.now.entries c.requires.searching.fit
    c.requires.searching.room

pub conflict-requires-clause-searching : goal.conflict-requires-clause-searching
conflict-requires-clause-searching c =
    let s = c.args.s.now in
    let r = c.requires.searching in
    record {
      fit = r.fit;
      awake = r.awake;
      sound = c.propagate.ensures.sound;
      guided = guided_grown c.args.log.now.entries c.args.assumptions.now s.trail.steps c.propagate.new.trail.steps
          c.propagate.ensures.grown r.guided;
      room = let k = r.room in let e = c.propagate.ensures.room in omega (arith, k, e);
      marks = let k = r.marks in let e = c.propagate.ensures.room in omega (arith, k, e);
    }

pub go_on-requires-clause-searching : goal.go_on-requires-clause-searching
go_on-requires-clause-searching c =
    let s = c.args.s.now in
    let r = c.requires.searching in
    record {
      fit = r.fit;
      awake = r.awake;
      sound = c.propagate.ensures.sound;
      guided = guided_grown c.args.log.now.entries c.args.assumptions.now s.trail.steps c.propagate.new.trail.steps
          c.propagate.ensures.grown r.guided;
      room = let k = r.room in let e = c.propagate.ensures.room in omega (arith, k, e);
      marks = let k = r.marks in let e = c.propagate.ensures.room in omega (arith, k, e);
    }
