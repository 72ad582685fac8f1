use Rattle.std.proofs.Common.{rules, Err, ◌≡◌, ◌∷◌, ◌++◌, [], length, sym, ◌∙◌, ap, subst, arith, List}
use Rattle.dq_lits.specs.Literal.{Literal}
use Rattle.hint_log.specs.Entries.{ProofLog}
use Rattle.hint_log.specs.declared.stops.Stop.TheVariants.{Limit}
use Rattle.oracle.specs.Fit.{live_in}
use Rattle.oracle.specs.Limits.{IsAtLimit}
use Rattle.learning_trail.specs.Resting.{HeldFit}
use Rattle.learning_trail.specs.Sound.{IsSound, IsGuided}
use Rattle.cdcl_scan.specs.Searching.{searched}
use Rattle.learning_trail.proofs.Taught.{clauses_within, learn_named, learn_ids, learn_in_range, learn_free, learn_fit, learn_landed, learn_next, learned_one}
use Rattle.cdcl_scan.proofs.learning.learn.Goals as goal

pub analyse-requires-clause-within : goal.analyse-requires-clause-within
analyse-requires-clause-within c =
    let s = c.args.s.now in
    clauses_within s.clauses.clauses [] s.variables (length s.notes.marks) c.args.log.now.entries c.requires.searching.fit
    (omega (arith, c.requires.searching.room, c.requires.searching.marks))

pub keep-requires-clause-named : goal.keep-requires-clause-named
keep-requires-clause-named c =
    let s = c.args.s.now in
    let log = c.args.log.now in
    let mid = c.analyse.new.trail in
    let step = c.in_ok-first.first in
    let noted = c.analyse.new.notes in
    let lesson = c.in_ok-first.ensures.lesson in
    learn_named c.args.assumptions.now (searched s) log mid step noted.marks noted.literals noted.hints c.args.decision
    c.requires.searching c.requires.decided c.requires.chosen lesson

pub keep-requires-clause-hints : goal.keep-requires-clause-hints
keep-requires-clause-hints c =
    let s = c.args.s.now in
    let log = c.args.log.now in
    let mid = c.analyse.new.trail in
    let step = c.in_ok-first.first in
    let noted = c.analyse.new.notes in
    let lesson = c.in_ok-first.ensures.lesson in
    learn_ids c.args.assumptions.now (searched s) log mid step noted.marks noted.literals noted.hints c.args.decision
    c.requires.searching c.requires.decided c.requires.chosen lesson

pub land-requires-clause-variable : goal.land-requires-clause-variable
land-requires-clause-variable c =
    let s = c.args.s.now in
    let log = c.args.log.now in
    let mid = c.analyse.new.trail in
    let step = c.in_ok-first.first in
    let noted = c.analyse.new.notes in
    let lesson = c.in_ok-first.ensures.lesson in
    let low = learn_in_range c.args.assumptions.now (searched s) log mid step noted.marks noted.literals noted.hints
    c.args.decision c.requires.searching c.requires.decided c.requires.chosen lesson in
    let room = c.requires.searching.room in
    let q = lesson.room in
    omega (arith, low, room, q)

pub land-requires-clause-free : goal.land-requires-clause-free
land-requires-clause-free c =
    let s = c.args.s.now in
    let log = c.args.log.now in
    let mid = c.analyse.new.trail in
    let step = c.in_ok-first.first in
    let noted = c.analyse.new.notes in
    let lesson = c.in_ok-first.ensures.lesson in
    learn_free c.args.assumptions.now (searched s) log mid step noted.marks noted.literals noted.hints c.args.decision
    c.requires.searching c.requires.decided c.requires.chosen lesson

pub returns-clause-fit : goal.returns-clause-fit
returns-clause-fit c =
    let s = c.args.s.now in
    let log = c.args.log.now in
    let mid = c.analyse.new.trail in
    let step = c.in_ok-first.first in
    let noted = c.analyse.new.notes in
    let lesson = c.in_ok-first.ensures.lesson in
    subst (λ (cs : List (List Literal)). HeldFit cs [] s.variables c.keep.new.log.entries) (sym c.in_ok-id.ensures.held)
    (subst (λ (l : ProofLog). HeldFit (s.clauses.clauses ++ noted.literals ∷ []) [] s.variables l.entries)
    (sym c.in_ok-id.ensures.ok)
    (learn_fit c.args.assumptions.now (searched s) log mid step noted.marks noted.literals noted.hints c.args.decision
    c.requires.searching c.requires.decided c.requires.chosen lesson))

pub returns-clause-learned : goal.returns-clause-learned
returns-clause-learned c =
    let s = c.args.s.now in
    let log = c.args.log.now in
    let mid = c.analyse.new.trail in
    let step = c.in_ok-first.first in
    let noted = c.analyse.new.notes in
    let lesson = c.in_ok-first.ensures.lesson in
    learned_one log c.keep.new.log noted.literals noted.hints c.in_ok-id.ensures.ok

pub returns-clause-ok : goal.returns-clause-ok
returns-clause-ok c =
    let s = c.args.s.now in
    let log = c.args.log.now in
    let mid = c.analyse.new.trail in
    let step = c.in_ok-first.first in
    let noted = c.analyse.new.notes in
    let lesson = c.in_ok-first.ensures.lesson in
    let back = c.land.new.trail in
    let landed = learn_landed c.args.assumptions.now (searched s) log mid step noted.marks noted.literals noted.hints
    c.args.decision c.requires.searching c.requires.decided c.requires.chosen lesson back c.in_ok-id.id
    c.in_ok-id.ensures.id c.land.ensures.landed in
    let room : back.room ≡ s.trail.room = landed.room ∙ lesson.room in
    record {
      searching = record {
        fit = subst (λ (cs : List (List Literal)). HeldFit cs [] s.variables c.keep.new.log.entries)
            (sym c.in_ok-id.ensures.held)
            (subst (λ (l : ProofLog). HeldFit (s.clauses.clauses ++ noted.literals ∷ []) [] s.variables l.entries)
            (sym c.in_ok-id.ensures.ok)
            (learn_fit c.args.assumptions.now (searched s) log mid step noted.marks noted.literals noted.hints
            c.args.decision c.requires.searching c.requires.decided c.requires.chosen lesson));
        awake = c.requires.searching.awake;
        sound = subst (λ (cs : List (List Literal)). IsSound (live_in cs) back.steps)
            (sym c.in_ok-id.ensures.held) landed.sound;
        guided = subst (λ (l : ProofLog). IsGuided l.entries c.args.assumptions.now back.steps)
            (sym c.in_ok-id.ensures.ok) landed.guided;
        room = let r = c.requires.searching.room in omega (arith, r, room);
        marks = let m = c.requires.searching.marks in omega (arith, m, room, c.analyse.ensures.len);
      };
      learned = learned_one log c.keep.new.log noted.literals noted.hints c.in_ok-id.ensures.ok;
      room = room;
    }

pub returns-in_err-id-clause-limit : goal.returns-in_err-id-clause-limit
returns-in_err-id-clause-limit c = λ is.
    let s = c.args.s.now in
    let log = c.args.log.now in
    let mid = c.analyse.new.trail in
    let step = c.in_ok-first.first in
    let noted = c.analyse.new.notes in
    let lesson = c.in_ok-first.ensures.lesson in
    let stop : c.in_err-id.field-0.0 ≡ Limit = search rules in
    subst (λ (l : ProofLog). IsAtLimit l c.args.assumptions.now) (sym c.in_err-id.ensures.err) (record {
      reached = c.in_err-id.ensures.limit (ap (λ e. Err e) stop);
      next = learn_next c.args.assumptions.now (searched s) log mid step noted.marks noted.literals noted.hints
          c.args.decision c.requires.searching c.requires.decided c.requires.chosen lesson;
    })
