use Rattle.std.proofs.Common.{[], refl, inr, sym, subst, arith}
use Rattle.learning_trail.specs.Steps.{literals_of}
use Rattle.learning_trail.proofs.SearchTurns.{clauses_in_room, opening_stands, trail_off}
use Rattle.cdcl_core.specs.Searching.{IsSearching}
use Rattle.cdcl_core.specs.Storage.{Stored}
use Rattle.cdcl_core.proofs.search.decide_open.Goals as goal

pub open_clause-requires-clause-in_range : goal.open_clause-requires-clause-in_range
open_clause-requires-clause-in_range c = search (arith, clauses_in_room)

pub decide-requires-clause-searching : goal.decide-requires-clause-searching
decide-requires-clause-searching c =
    let s = c.args.s.now in
    let r = c.requires.searching in
    let Q : Stored → Type 0 = λ x. IsSearching c.args.assumptions.now
    record {
      alloc = s.alloc;
      variables = s.variables;
      clauses = x;
      trail = s.trail;
      notes = s.notes;
      activities =
          s.activities;
      restarts = s.restarts;
      positions = c.«open».new.self;
      focus = s.focus;
      resting = s.resting;
      delays = s.delays;
    } c.args.log.now in
    subst Q (sym c.set_cursor.ensures) (record {
      fit = r.fit;
      awake = r.awake;
      sound = r.sound;
      guided = r.guided;
      room = r.room;
      marks =
          r.marks;
      levels = r.levels;
    })

pub decide-requires-clause-named : goal.decide-requires-clause-named
decide-requires-clause-named c =
    let s = c.args.s.now in
    (opening_stands s.clauses.clauses s.resting.flags.items s.variables c.args.log.now.entries
    (literals_of s.trail.steps) c.in-Some.«open».literal c.requires.searching.fit c.in-Some.ensures).named

pub decide-requires-clause-chosen : goal.decide-requires-clause-chosen
decide-requires-clause-chosen c =
    let s = c.args.s.now in
    inr (
      c.requires.assumed,
      (opening_stands s.clauses.clauses s.resting.flags.items s.variables c.args.log.now.entries
          (literals_of s.trail.steps) c.in-Some.«open».literal c.requires.searching.fit c.in-Some.ensures).negated,
    )

pub returns-in-None-clause-ok : goal.returns-in-None-clause-ok
returns-in-None-clause-ok c =
    let s = c.args.s.now in
    let r = c.requires.searching in (
      record { more = []; grown = refl; each = tt; limit = refl },
      record {
        sound = r.sound;
        assumed = c.requires.assumed;
        clauses = c.in-None.ensures;
        off = trail_off c.args.log.now.entries c.args.assumptions.now s.clauses.clauses s.resting.flags.items s.variables
            s.trail.steps r.fit r.awake r.sound r.guided;
      },
    )
