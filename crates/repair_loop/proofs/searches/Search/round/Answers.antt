use Rattle.std.proofs.Common.{◌≡◌, ◌∙◌, refl, ap, subst, Ok, arith}
use Rattle.list_laws.proofs.Results.{on_err}
use Rattle.repair_loop.specs.SearchStates.{IsAnsweredFalse, IsAnsweredTrue}
use Rattle.repair_loop.proofs.LogGrowth.{fewer_left}
use Rattle.repair_loop.proofs.Stops.{stop_left}
use Rattle.repair_loop.proofs.Turned.{ended_by, row_refused, row_search, row_undecided, went_then}
use Rattle.repair_loop.proofs.searches.Search.round.Goals as goal

pub find_candidates-requires-clause-search : goal.find_candidates-requires-clause-search
find_candidates-requires-clause-search g c = (c.args.checker.now, c.requires.search)

pub returns-in_err-outputs-clause-inputs : goal.returns-in_err-outputs-clause-inputs
returns-in_err-outputs-clause-inputs g c = c.find_candidates.ensures.extends.inputs

pub returns-in_err-outputs-clause-ended : goal.returns-in_err-outputs-clause-ended
returns-in_err-outputs-clause-ended g c = search (arith, ended_by)

pub returns-in_err-outputs-clause-way : goal.returns-in_err-outputs-clause-way
returns-in_err-outputs-clause-way g c other = search arith

pub returns-in_err-outputs-clause-rows : goal.returns-in_err-outputs-clause-rows
returns-in_err-outputs-clause-rows g c other = c.find_candidates.ensures.rows

pub returns-in_err-outputs-clause-stopped : goal.returns-in_err-outputs-clause-stopped
returns-in_err-outputs-clause-stopped g c = search (arith, on_err)

pub returns-in-Refuted-clause-inputs : goal.returns-in-Refuted-clause-inputs
returns-in-Refuted-clause-inputs g c = c.find_candidates.ensures.extends.inputs

pub returns-in-Refuted-clause-ended : goal.returns-in-Refuted-clause-ended
returns-in-Refuted-clause-ended g c = search (arith, ended_by)

pub returns-in-Refuted-clause-way : goal.returns-in-Refuted-clause-way
returns-in-Refuted-clause-way g c other = search arith

pub returns-in-Refuted-clause-rows : goal.returns-in-Refuted-clause-rows
returns-in-Refuted-clause-rows g c other = c.find_candidates.ensures.rows

pub returns-in-Refuted-clause-shown_false : goal.returns-in-Refuted-clause-shown_false
returns-in-Refuted-clause-shown_false g c id e =
    let same : c.in-Refuted.id ≡ id = cc in
    subst (IsAnsweredFalse c.find_candidates.new.database c.find_candidates.new.log) same
    (c.find_candidates.ensures.refuted c.in-Refuted.id (c.in_ok-outputs.was ∙ ap Ok c.in-Refuted.is))

pub judge-requires-clause-search : goal.judge-requires-clause-search
judge-requires-clause-search g c = search arith

pub judge-requires-clause-candidates : goal.judge-requires-clause-candidates
judge-requires-clause-candidates g c = search arith

pub returns-in_err-id-clause-ended : goal.returns-in_err-id-clause-ended
returns-in_err-id-clause-ended g c =
    let s = c.args.self.now in
    let judged = went_then s.f.now c.args.database.now c.find_candidates.new.database c.find_candidates.new.database
    c.args.checker.now c.args.checker.now c.judge.new.checker s.definability.now s.may_ask c.args.log.now
    c.find_candidates.new.log c.judge.new.log
    (c.find_candidates.ensures.went c.args.checker.now c.requires.search) c.judge.ensures.went in
    ended_by s.f.now c.args.database.now c.find_candidates.new.database c.args.checker.now c.judge.new.checker s.definability.now
    s.may_ask c.args.log.now c.judge.new.log judged

pub returns-in_err-id-clause-way : goal.returns-in_err-id-clause-way
returns-in_err-id-clause-way g c other = c.judge.ensures.went.way

pub returns-in_err-id-clause-stopped : goal.returns-in_err-id-clause-stopped
returns-in_err-id-clause-stopped g c = search (arith, on_err)

pub returns-in_err-id-clause-rows : goal.returns-in_err-id-clause-rows
returns-in_err-id-clause-rows g c other = search (arith, stop_left)

pub returns-in-Hold-clause-ended : goal.returns-in-Hold-clause-ended
returns-in-Hold-clause-ended g c =
    let s = c.args.self.now in
    let judged = went_then s.f.now c.args.database.now c.find_candidates.new.database c.find_candidates.new.database
    c.args.checker.now c.args.checker.now c.judge.new.checker s.definability.now s.may_ask c.args.log.now
    c.find_candidates.new.log c.judge.new.log
    (c.find_candidates.ensures.went c.args.checker.now c.requires.search) c.judge.ensures.went in
    ended_by s.f.now c.args.database.now c.find_candidates.new.database c.args.checker.now c.judge.new.checker s.definability.now
    s.may_ask c.args.log.now c.judge.new.log judged

pub returns-in-Hold-clause-way : goal.returns-in-Hold-clause-way
returns-in-Hold-clause-way g c other = c.judge.ensures.went.way

pub returns-in-Hold-clause-rows : goal.returns-in-Hold-clause-rows
returns-in-Hold-clause-rows g c other = c.judge.ensures.rows c.in-Hold.id (c.in_ok-id.was ∙ ap Ok c.in-Hold.is)

pub returns-in-Hold-clause-shown_true : goal.returns-in-Hold-clause-shown_true
returns-in-Hold-clause-shown_true g c nodes id e =
    let f = c.args.self.now.f.now in
    let same : c.in-Hold.id ≡ id = cc in
    let same_nodes : c.in-Candidates.outputs ≡ nodes = cc in
    subst (λ ns. IsAnsweredTrue f c.find_candidates.new.graph ns c.judge.new.log id) same_nodes
    (subst (IsAnsweredTrue f c.find_candidates.new.graph c.in-Candidates.outputs c.judge.new.log) same
    (c.judge.ensures.hold c.in-Hold.id (c.in_ok-id.was ∙ ap Ok c.in-Hold.is)))

pub add_row-requires-clause-database : goal.add_row-requires-clause-database
add_row-requires-clause-database g c = search arith

pub add_row-requires-clause-rows : goal.add_row-requires-clause-rows
add_row-requires-clause-rows g c = search arith

pub add_row-requires-clause-row_length : goal.add_row-requires-clause-row_length
add_row-requires-clause-row_length g c = search arith

pub add_row-requires-clause-few : goal.add_row-requires-clause-few
add_row-requires-clause-few g c = search arith

pub returns-in_err-add_row-in-Fail-clause-ended : goal.returns-in_err-add_row-in-Fail-clause-ended
returns-in_err-add_row-in-Fail-clause-ended g c =
    let s = c.args.self.now in
    let judged = went_then s.f.now c.args.database.now c.find_candidates.new.database c.find_candidates.new.database
    c.args.checker.now c.args.checker.now c.judge.new.checker s.definability.now s.may_ask c.args.log.now
    c.find_candidates.new.log c.judge.new.log
    (c.find_candidates.ensures.went c.args.checker.now c.requires.search) c.judge.ensures.went in
    let round = c.judge.ensures.fail c.in-Fail.row (c.in_ok-id.was ∙ ap Ok c.in-Fail.is) in
    row_refused c.instances_leave_logs.ensures s.f.now c.find_candidates.new.database c.add_row.new.self c.judge.new.checker
    s.definability.now s.may_ask c.in-Fail.row c.args.log.now c.judge.new.log c.add_row.new.log c.args.database.now
    (ended_by s.f.now c.args.database.now c.find_candidates.new.database c.args.checker.now c.judge.new.checker s.definability.now
    s.may_ask c.args.log.now c.judge.new.log judged) round.logged c.add_row.ensures.grew c.add_row.ensures.same

pub returns-in_err-add_row-in-Fail-clause-stopped : goal.returns-in_err-add_row-in-Fail-clause-stopped
returns-in_err-add_row-in-Fail-clause-stopped g c = search (arith, on_err, row_undecided)

pub returns-in_ok-add_row-in-Fail-clause-open : goal.returns-in_ok-add_row-in-Fail-clause-open
returns-in_ok-add_row-in-Fail-clause-open g c e =
    let s = c.args.self.now in
    let found = c.find_candidates.ensures.went c.args.checker.now c.requires.search in
    let judged = went_then s.f.now c.args.database.now c.find_candidates.new.database c.find_candidates.new.database
    c.args.checker.now c.args.checker.now c.judge.new.checker s.definability.now s.may_ask c.args.log.now
    c.find_candidates.new.log c.judge.new.log found c.judge.ensures.went in
    let round = c.judge.ensures.fail c.in-Fail.row (c.in_ok-id.was ∙ ap Ok c.in-Fail.is) in
    let proposed = c.find_candidates.ensures.proposed c.args.checker.now c.in-Candidates.outputs c.requires.search
    (c.in_ok-outputs.was ∙ ap Ok c.in-Candidates.is) in
    let next = row_search c.instances_leave_searches.ensures s.f.now c.find_candidates.new.graph
    c.find_candidates.new.database c.add_row.new.self c.judge.new.checker s.definability.now s.may_ask c.in-Fail.row c.judge.new.log
    c.add_row.new.log round.logged c.add_row.ensures.grew c.add_row.ensures.same c.add_row.ensures.group
    c.in_ok-add_row-in-Fail.ensures.database proposed.search.inputs in
    let left = c.instances_leave_logs.ensures _ _ _ _ _ c.add_row.ensures.grew in
    record {
      search = next.1;
      known_there = proposed.known;
      went = search (arith, went_then);
      step = fewer_left c.args.log.now c.find_candidates.new.log c.judge.new.log c.add_row.new.log found.grew left.grew
          c.judge.ensures.went.grew round.step round.within;
    }

pub returns-in_ok-add_row-in-Fail-clause-way : goal.returns-in_ok-add_row-in-Fail-clause-way
returns-in_ok-add_row-in-Fail-clause-way g c other =
    (returns-in_ok-add_row-in-Fail-clause-open g c refl).went.way

pub returns-in_ok-add_row-in-Fail-clause-ended : goal.returns-in_ok-add_row-in-Fail-clause-ended
returns-in_ok-add_row-in-Fail-clause-ended g c =
    let s = c.args.self.now in
    ended_by s.f.now c.args.database.now c.add_row.new.self c.args.checker.now c.judge.new.checker s.definability.now s.may_ask
    c.args.log.now c.add_row.new.log (returns-in_ok-add_row-in-Fail-clause-open g c refl).went
