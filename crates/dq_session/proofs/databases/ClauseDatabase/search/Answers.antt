use Rattle.std.proofs.Common.{◌∙◌, ap, subst, sym, map, length, arith}
use Rattle.std.specs.List.{All}
use Rattle.std.proofs.lemmas.List.{length-map}
use Rattle.expansion.specs.Searches.{HoldInstances, switches, AreFound}
use Rattle.expansion.specs.Silence.{is_silent}
use Rattle.oracle.specs.Calls.{IsMade, IsRefutedUnder}
use Rattle.dq_session.proofs.LiveModels.{found_live, databases_searched}
use Rattle.dq_session.proofs.LiveRefutations.{full_table, open_made, live_answers}
use Rattle.dq_session.proofs.Searches.{search_grew, open_hold, by_parts, same_database}
use Rattle.dq_session.proofs.databases.ClauseDatabase.search.Goals as goal

pub open_groups-requires : goal.open_groups-requires
open_groups-requires g c i o is = (c.requires.database.database.stack.known i o is).1

pub solve_with-requires-clause-table : goal.solve_with-requires-clause-table
solve_with-requires-clause-table g c = search (arith, full_table)

pub solve_with-requires-clause-made : goal.solve_with-requires-clause-made
solve_with-requires-clause-made g c =
    let es = c.args.log.now.entries in
    subst (All (IsMade es)) (sym (c.deref.ensures.value ∙ c.in_ok-groups.ensures))
    (open_made c.args.self.now es c.requires.database.database)

pub solve_with-requires-clause-instances : goal.solve_with-requires-clause-instances
solve_with-requires-clause-instances g c =
    let es = c.args.log.now.entries in
    subst (λ gs. HoldInstances gs es) (sym (c.deref.ensures.value ∙ c.in_ok-groups.ensures))
    (open_hold c.args.self.now es c.requires.database.database)

pub returns-clause-grew : goal.returns-clause-grew
returns-clause-grew g c all groups first = search (arith, search_grew)

pub returns-clause-database : goal.returns-clause-database
returns-clause-database g c =
    let b = c.args.self.now in
    same_database _ b c.self.view_is c.solve_with.new.self c.solve_with.ensures.same c.solve_with.new.log.entries
    ((databases_searched b (is_silent c.solve_with.result) c.args.log.now c.solve_with.new.log
    c.solve_with.ensures.grew).1 c.requires.database)

pub returns-clause-point_variables : goal.returns-clause-point_variables
returns-clause-point_variables g c points e =
    (by_parts (λ t gs. AreFound t c.solve_with.new.log.entries (switches t gs) points) _ c.args.self.now
    c.self.view_is c.deref.result.now (c.deref.ensures.value ∙ c.in_ok-groups.ensures)
    (c.solve_with.ensures.model points e)).variables

pub returns-clause-point_rows : goal.returns-clause-point_rows
returns-clause-point_rows g c points e =
    let b = c.args.self.now in
    let found = by_parts (λ t gs. AreFound t c.solve_with.new.log.entries (switches t gs) points) _ b
    c.self.view_is c.deref.result.now (c.deref.ensures.value ∙ c.in_ok-groups.ensures)
    (c.solve_with.ensures.model points e) in
    ap length found.bits ∙ length-map b.table.pairs (map found.values) ∙ c.requires.database.database.table.own.pairs_long

pub returns-clause-model : goal.returns-clause-model
returns-clause-model g c points e =
    let b = c.args.self.now in
    let log = c.solve_with.new.log in
    found_live b log.entries points
    ((databases_searched b (is_silent c.solve_with.result) c.args.log.now log c.solve_with.ensures.grew).0
    c.requires.database.database) c.requires.whole
    (g.met.O.Oracle.searched c.solve_with.new.oracle log c.solve_with.ensures.fit).logged
    (by_parts (λ t gs. AreFound t log.entries (switches t gs) points) _ b c.self.view_is c.deref.result.now
    (c.deref.ensures.value ∙ c.in_ok-groups.ensures) (c.solve_with.ensures.model points e))

pub returns-clause-refuted : goal.returns-clause-refuted
returns-clause-refuted g c id e =
    let b = c.args.self.now in
    let log = c.solve_with.new.log in
    (live_answers c.derived_line_is_implied.ensures b c.args.log.now log id c.requires.database
    (g.met.O.Oracle.searched c.solve_with.new.oracle log c.solve_with.ensures.fit)
    (by_parts (λ t gs. IsRefutedUnder c.args.log.now log (switches t gs) id) _ b c.self.view_is c.deref.result.now
    (c.deref.ensures.value ∙ c.in_ok-groups.ensures) (c.solve_with.ensures.refuted id e))).0

pub returns-clause-shown : goal.returns-clause-shown
returns-clause-shown g c id e =
    let b = c.args.self.now in
    let log = c.solve_with.new.log in
    (live_answers c.derived_line_is_implied.ensures b c.args.log.now log id c.requires.database
    (g.met.O.Oracle.searched c.solve_with.new.oracle log c.solve_with.ensures.fit)
    (by_parts (λ t gs. IsRefutedUnder c.args.log.now log (switches t gs) id) _ b c.self.view_is c.deref.result.now
    (c.deref.ensures.value ∙ c.in_ok-groups.ensures) (c.solve_with.ensures.refuted id e))).1
