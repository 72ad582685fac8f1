use Rattle.std.proofs.Common.{inr, []}
use Rattle.learning_trail.specs.Steps.{literals_of}
use Rattle.learning_trail.proofs.SearchTurns.{clauses_in_room, opening_stands}
use Rattle.cdcl_scan.proofs.search.settle.Goals as goal

pub newest_open-requires-clause-in_range : goal.newest_open-requires-clause-in_range
newest_open-requires-clause-in_range c =
    let s = c.args.s.now in
    clauses_in_room s.clauses.clauses [] s.variables s.trail.room c.args.log.now.entries c.requires.searching.fit
    c.requires.searching.room

pub decide-requires-clause-named : goal.decide-requires-clause-named
decide-requires-clause-named c =
    let s = c.args.s.now in
    (opening_stands s.clauses.clauses [] s.variables c.args.log.now.entries
    (literals_of s.trail.steps) c.in-Some.l c.requires.searching.fit c.in-Some.ensures).named

pub decide-requires-clause-chosen : goal.decide-requires-clause-chosen
decide-requires-clause-chosen c =
    let s = c.args.s.now in
    inr (
      c.requires.assumed,
      (opening_stands s.clauses.clauses [] s.variables c.args.log.now.entries
          (literals_of s.trail.steps) c.in-Some.l c.requires.searching.fit c.in-Some.ensures).negated,
    )
