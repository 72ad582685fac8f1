use Rattle.std.proofs.Common.{◌≡◌, ◌∙◌, refl, ap, subst, Ok, arith}
use Rattle.list_laws.proofs.Results.{on_err}
use Rattle.expansion.specs.Silence.{is_silent}
use Rattle.oracle.proofs.SomeLimits.{some_limit}
use Rattle.dq_session.specs.Databases.{DatabaseState}
use Rattle.repair_loop.specs.SearchStates.{IsAnsweredFalse}
use Rattle.repair_loop.specs.Turning.{AreProposed}
use Rattle.repair_loop.proofs.Stops.{by_lemma}
use Rattle.repair_loop.proofs.Turned.{after_undecided, answered_false, caught_up_after, left_search, model_of, went_then}
use Rattle.repair_loop.proofs.searches.Search.find_candidates.Goals as goal

pub solve-requires-clause-database : goal.solve-requires-clause-database
solve-requires-clause-database g c = search arith

pub solve-requires-clause-few : goal.solve-requires-clause-few
solve-requires-clause-few g c = c.requires.search.1.here.way.faults

pub returns-in_err-id-clause-went : goal.returns-in_err-id-clause-went
returns-in_err-id-clause-went g c checker before =
    let s = c.args.self.now in
    let left = c.instances_leave_searches.ensures s.f.now c.args.database.now c.solve.new.self checker s.definability.now s.may_ask
    (is_silent c.solve.result) c.args.log.now c.solve.new.log c.solve.ensures.grew
    (caught_up_after c.args.database.now c.solve.new.self c.solve.ensures.same) c.solve.ensures.database.database c.solve.ensures.fresh
    before.here.way in
    left.0.went

pub returns-in_err-id-clause-rows : goal.returns-in_err-id-clause-rows
returns-in_err-id-clause-rows g c = c.solve.ensures.database.rows

pub returns-in_err-id-clause-stopped : goal.returns-in_err-id-clause-stopped
returns-in_err-id-clause-stopped g c =
    let (checker, before) = c.requires.search in
    let s = c.args.self.now in
    let left = c.instances_leave_searches.ensures s.f.now c.args.database.now c.solve.new.self checker s.definability.now s.may_ask
    (is_silent c.solve.result) c.args.log.now c.solve.new.log c.solve.ensures.grew
    (caught_up_after c.args.database.now c.solve.new.self c.solve.ensures.same) c.solve.ensures.database.database c.solve.ensures.fresh
    before.here.way in
    record {
      undecided = on_err _ (after_undecided c.args.database.now c.solve.new.self c.solve.new.log.entries left.0.went.database
          (left.0.undecided (ap is_silent c.in_err-id.was) before.here.undecided));
      limit = search (arith, by_lemma, some_limit);
      rows = λ is. c.solve.ensures.database.rows;
    }

pub returns-in-Refuted-clause-went : goal.returns-in-Refuted-clause-went
returns-in-Refuted-clause-went g c checker before =
    let s = c.args.self.now in
    let left = c.instances_leave_searches.ensures s.f.now c.args.database.now c.solve.new.self checker s.definability.now s.may_ask
    (is_silent c.solve.result) c.args.log.now c.solve.new.log c.solve.ensures.grew
    (caught_up_after c.args.database.now c.solve.new.self c.solve.ensures.same) c.solve.ensures.database.database c.solve.ensures.fresh
    before.here.way in
    left.0.went

pub returns-in-Refuted-clause-rows : goal.returns-in-Refuted-clause-rows
returns-in-Refuted-clause-rows g c = c.solve.ensures.database.rows

pub returns-in-Refuted-clause-refuted : goal.returns-in-Refuted-clause-refuted
returns-in-Refuted-clause-refuted g c id e =
    let b = c.args.database.now in
    let was = c.in_ok-id.was ∙ ap Ok c.in-Refuted.is in
    let same : c.in-Refuted.id ≡ id = cc in
    let after = caught_up_after b c.solve.new.self c.solve.ensures.same in
    let rows = c.solve.ensures.database.rows ∙ ap (λ (x : DatabaseState). x.table.rows) c.solve.ensures.same.same in
    subst (IsAnsweredFalse c.solve.new.self c.solve.new.log) same
    (answered_false b c.solve.new.self c.solve.new.log c.in-Refuted.id after rows
    (c.solve.ensures.refuted c.in-Refuted.id was) (c.solve.ensures.shown c.in-Refuted.id was))

pub propose-requires-clause-search : goal.propose-requires-clause-search
propose-requires-clause-search g c =
    let (checker, before) = c.requires.search in
    let s = c.args.self.now in
    let left = c.instances_leave_searches.ensures s.f.now c.args.database.now c.solve.new.self checker s.definability.now s.may_ask
    (is_silent c.solve.result) c.args.log.now c.solve.new.log c.solve.ensures.grew
    (caught_up_after c.args.database.now c.solve.new.self c.solve.ensures.same) c.solve.ensures.database.database c.solve.ensures.fresh
    before.here.way in (
      checker,
      left_search s.f.now c.args.graph.now c.args.graph.now c.args.database.now c.solve.new.self checker checker
          s.definability.now s.may_ask (is_silent c.solve.result) c.args.log.now c.solve.new.log
          (ap is_silent (c.in_ok-id.was ∙ ap Ok c.in-Model.is)) left.0 left.1 c.solve.ensures.database.rows refl before,
    )

pub propose-requires-clause-model : goal.propose-requires-clause-model
propose-requires-clause-model g c = search (arith, model_of)

pub returns-in_err-outputs-in-Model-clause-went : goal.returns-in_err-outputs-in-Model-clause-went
returns-in_err-outputs-in-Model-clause-went g c checker before =
    let s = c.args.self.now in
    let left = c.instances_leave_searches.ensures s.f.now c.args.database.now c.solve.new.self checker s.definability.now s.may_ask
    (is_silent c.solve.result) c.args.log.now c.solve.new.log c.solve.ensures.grew
    (caught_up_after c.args.database.now c.solve.new.self c.solve.ensures.same) c.solve.ensures.database.database c.solve.ensures.fresh
    before.here.way in
    let next = left_search s.f.now c.args.graph.now c.args.graph.now c.args.database.now c.solve.new.self checker checker
    s.definability.now s.may_ask (is_silent c.solve.result) c.args.log.now c.solve.new.log
    (ap is_silent (c.in_ok-id.was ∙ ap Ok c.in-Model.is)) left.0 left.1 c.solve.ensures.database.rows refl before in
    let more = c.propose.ensures.left checker next in
    went_then s.f.now c.args.database.now c.solve.new.self c.solve.new.self checker checker checker s.definability.now s.may_ask
    c.args.log.now c.solve.new.log c.propose.new.log left.0.went more.went

pub returns-in_err-outputs-in-Model-clause-rows : goal.returns-in_err-outputs-in-Model-clause-rows
returns-in_err-outputs-in-Model-clause-rows g c =
    let (checker, before) = c.requires.search in
    let s = c.args.self.now in
    let left = c.instances_leave_searches.ensures s.f.now c.args.database.now c.solve.new.self checker s.definability.now s.may_ask
    (is_silent c.solve.result) c.args.log.now c.solve.new.log c.solve.ensures.grew
    (caught_up_after c.args.database.now c.solve.new.self c.solve.ensures.same) c.solve.ensures.database.database c.solve.ensures.fresh
    before.here.way in
    let next = left_search s.f.now c.args.graph.now c.args.graph.now c.args.database.now c.solve.new.self checker checker
    s.definability.now s.may_ask (is_silent c.solve.result) c.args.log.now c.solve.new.log
    (ap is_silent (c.in_ok-id.was ∙ ap Ok c.in-Model.is)) left.0 left.1 c.solve.ensures.database.rows refl before in
    let more = c.propose.ensures.left checker next in
    more.rows ∙ c.solve.ensures.database.rows

pub returns-in_err-outputs-in-Model-clause-stopped : goal.returns-in_err-outputs-in-Model-clause-stopped
returns-in_err-outputs-in-Model-clause-stopped g c =
    let (checker, before) = c.requires.search in
    let s = c.args.self.now in
    let left = c.instances_leave_searches.ensures s.f.now c.args.database.now c.solve.new.self checker s.definability.now s.may_ask
    (is_silent c.solve.result) c.args.log.now c.solve.new.log c.solve.ensures.grew
    (caught_up_after c.args.database.now c.solve.new.self c.solve.ensures.same) c.solve.ensures.database.database c.solve.ensures.fresh
    before.here.way in
    let next = left_search s.f.now c.args.graph.now c.args.graph.now c.args.database.now c.solve.new.self checker checker
    s.definability.now s.may_ask (is_silent c.solve.result) c.args.log.now c.solve.new.log
    (ap is_silent (c.in_ok-id.was ∙ ap Ok c.in-Model.is)) left.0 left.1 c.solve.ensures.database.rows refl before in
    let more = c.propose.ensures.left checker next in
    record {
      undecided = on_err _ (more.undecided refl next.here.undecided);
      limit = search (arith, by_lemma);
      rows = λ is. more.rows ∙ c.solve.ensures.database.rows;
    }

pub returns-in_ok-outputs-in-Model-clause-went : goal.returns-in_ok-outputs-in-Model-clause-went
returns-in_ok-outputs-in-Model-clause-went g c checker before =
    let s = c.args.self.now in
    let left = c.instances_leave_searches.ensures s.f.now c.args.database.now c.solve.new.self checker s.definability.now s.may_ask
    (is_silent c.solve.result) c.args.log.now c.solve.new.log c.solve.ensures.grew
    (caught_up_after c.args.database.now c.solve.new.self c.solve.ensures.same) c.solve.ensures.database.database c.solve.ensures.fresh
    before.here.way in
    let next = left_search s.f.now c.args.graph.now c.args.graph.now c.args.database.now c.solve.new.self checker checker
    s.definability.now s.may_ask (is_silent c.solve.result) c.args.log.now c.solve.new.log
    (ap is_silent (c.in_ok-id.was ∙ ap Ok c.in-Model.is)) left.0 left.1 c.solve.ensures.database.rows refl before in
    let more = c.propose.ensures.left checker next in
    went_then s.f.now c.args.database.now c.solve.new.self c.solve.new.self checker checker checker s.definability.now s.may_ask
    c.args.log.now c.solve.new.log c.propose.new.log left.0.went more.went

pub returns-in_ok-outputs-in-Model-clause-rows : goal.returns-in_ok-outputs-in-Model-clause-rows
returns-in_ok-outputs-in-Model-clause-rows g c =
    let (checker, before) = c.requires.search in
    let s = c.args.self.now in
    let left = c.instances_leave_searches.ensures s.f.now c.args.database.now c.solve.new.self checker s.definability.now s.may_ask
    (is_silent c.solve.result) c.args.log.now c.solve.new.log c.solve.ensures.grew
    (caught_up_after c.args.database.now c.solve.new.self c.solve.ensures.same) c.solve.ensures.database.database c.solve.ensures.fresh
    before.here.way in
    let next = left_search s.f.now c.args.graph.now c.args.graph.now c.args.database.now c.solve.new.self checker checker
    s.definability.now s.may_ask (is_silent c.solve.result) c.args.log.now c.solve.new.log
    (ap is_silent (c.in_ok-id.was ∙ ap Ok c.in-Model.is)) left.0 left.1 c.solve.ensures.database.rows refl before in
    let more = c.propose.ensures.left checker next in
    more.rows ∙ c.solve.ensures.database.rows

pub returns-in_ok-outputs-in-Model-clause-proposed : goal.returns-in_ok-outputs-in-Model-clause-proposed
returns-in_ok-outputs-in-Model-clause-proposed g c checker outputs before e =
    let s = c.args.self.now in
    let left = c.instances_leave_searches.ensures s.f.now c.args.database.now c.solve.new.self checker s.definability.now s.may_ask
    (is_silent c.solve.result) c.args.log.now c.solve.new.log c.solve.ensures.grew
    (caught_up_after c.args.database.now c.solve.new.self c.solve.ensures.same) c.solve.ensures.database.database c.solve.ensures.fresh
    before.here.way in
    let next = left_search s.f.now c.args.graph.now c.args.graph.now c.args.database.now c.solve.new.self checker checker
    s.definability.now s.may_ask (is_silent c.solve.result) c.args.log.now c.solve.new.log
    (ap is_silent (c.in_ok-id.was ∙ ap Ok c.in-Model.is)) left.0 left.1 c.solve.ensures.database.rows refl before in
    let more = c.propose.ensures.left checker next in
    let same : c.in_ok-outputs-in-Model.outputs ≡ outputs = cc in
    subst (λ o. AreProposed s.f.now c.propose.new.graph c.solve.new.self checker s.definability.now s.may_ask c.propose.new.known.definitions
    o c.propose.new.log.entries) same
    (c.propose.ensures.proposed checker c.in_ok-outputs-in-Model.outputs next c.in_ok-outputs-in-Model.was)
