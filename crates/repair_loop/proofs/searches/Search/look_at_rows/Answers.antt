use Rattle.std.proofs.Common.{◌≡◌, ◌∙◌, ap, subst, Ok, arith}
use Rattle.list_laws.proofs.Results.{on_err}
use Rattle.expansion.specs.Silence.{is_silent}
use Rattle.oracle.proofs.SomeLimits.{some_limit}
use Rattle.dq_session.specs.Databases.{DatabaseState}
use Rattle.repair_loop.specs.SearchStates.{IsAnsweredFalse}
use Rattle.repair_loop.proofs.Stops.{by_lemma}
use Rattle.repair_loop.proofs.Turned.{after_undecided, answered_false, caught_up_after, left_search}
use Rattle.repair_loop.proofs.searches.Search.look_at_rows.Goals.{in-Refuted, in-Model}
use Rattle.repair_loop.proofs.searches.Search.look_at_rows.Goals as goal

pub solve-requires-clause-database : goal.solve-requires-clause-database
solve-requires-clause-database g c = search arith

pub solve-requires-clause-few : goal.solve-requires-clause-few
solve-requires-clause-few g c = c.requires.search.2.here.way.faults

pub returns-in_err-id-clause-went : goal.returns-in_err-id-clause-went
returns-in_err-id-clause-went g c graph checker before =
    let s = c.args.self.now in
    let left = c.instances_leave_searches.ensures s.f.now c.args.database.now c.solve.new.self checker s.definability.now s.may_ask
    (is_silent c.solve.result) c.args.log.now c.solve.new.log c.solve.ensures.grew
    (caught_up_after c.args.database.now c.solve.new.self c.solve.ensures.same) c.solve.ensures.database.database c.solve.ensures.fresh
    before.here.way in
    left.0.went

pub returns-in_err-id-clause-stopped : goal.returns-in_err-id-clause-stopped
returns-in_err-id-clause-stopped g c =
    let (graph, checker, before) = c.requires.search in
    let s = c.args.self.now in
    let left = c.instances_leave_searches.ensures s.f.now c.args.database.now c.solve.new.self checker s.definability.now s.may_ask
    (is_silent c.solve.result) c.args.log.now c.solve.new.log c.solve.ensures.grew
    (caught_up_after c.args.database.now c.solve.new.self c.solve.ensures.same) c.solve.ensures.database.database c.solve.ensures.fresh
    before.here.way in
    record {
      undecided = on_err _ (after_undecided c.args.database.now c.solve.new.self c.solve.new.log.entries left.0.went.database
          (left.0.undecided (ap is_silent c.in_err-id.was) before.here.undecided));
      limit = search (arith, by_lemma, some_limit);
      rows = λ is. c.solve.ensures.database.rows;
    }

pub returns-clause-went : goal.returns-clause-went
returns-clause-went g c graph checker before =
    let s = c.args.self.now in
    let left = c.instances_leave_searches.ensures s.f.now c.args.database.now c.solve.new.self checker s.definability.now s.may_ask
    (is_silent c.solve.result) c.args.log.now c.solve.new.log c.solve.ensures.grew
    (caught_up_after c.args.database.now c.solve.new.self c.solve.ensures.same) c.solve.ensures.database.database c.solve.ensures.fresh
    before.here.way in
    left.0.went

pub returns-clause-refuted : goal.returns-clause-refuted
returns-clause-refuted g c id e =
    let b = c.args.database.now in
    let after = caught_up_after b c.solve.new.self c.solve.ensures.same in
    let rows = c.solve.ensures.database.rows ∙ ap (λ (x : DatabaseState). x.table.rows) c.solve.ensures.same.same in
    elim c.match-branch-2.branch [
      | in-Refuted w ↦
          let was = c.in_ok-id.was ∙ ap Ok w.in-Refuted.is in
          let same : w.in-Refuted.id ≡ id = cc in
          subst (IsAnsweredFalse c.solve.new.self c.solve.new.log) same
          (answered_false b c.solve.new.self c.solve.new.log w.in-Refuted.id after rows
          (c.solve.ensures.refuted w.in-Refuted.id was) (c.solve.ensures.shown w.in-Refuted.id was))
      | in-Model w ↦ cc
    ]

pub returns-clause-search : goal.returns-clause-search
returns-clause-search g c graph checker before e =
    let s = c.args.self.now in
    let left = c.instances_leave_searches.ensures s.f.now c.args.database.now c.solve.new.self checker s.definability.now s.may_ask
    (is_silent c.solve.result) c.args.log.now c.solve.new.log c.solve.ensures.grew
    (caught_up_after c.args.database.now c.solve.new.self c.solve.ensures.same) c.solve.ensures.database.database c.solve.ensures.fresh
    before.here.way in
    elim c.match-branch-2.branch [
      | in-Refuted w ↦ cc
      | in-Model w ↦ search (arith, left_search)
    ]
