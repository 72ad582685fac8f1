use Rattle.std.proofs.Common.{rules, ◌≡◌, ◌∙◌, ap, sym, subst, Ok, Err, arith}
use Rattle.list_laws.proofs.Results.{on_err}
use Rattle.oracle.proofs.SomeLimits.{some_limit}
use Rattle.std.specs.List.{All}
use Rattle.hint_log.specs.declared.stops.Stop.TheVariants.{Limit}
use Rattle.circuit_cnf.specs.Failing.{is_silent, IsFailure}
use Rattle.circuit_cnf.specs.Shown.{HoldEverywhere, IsShownSince}
use Rattle.aig_graph.specs.Outputs.{ReadsUniversals, outputs_of}
use Rattle.repair_loop.specs.SearchStates.{IsAnsweredTrue}
use Rattle.repair_loop.proofs.LiveGrowth.{same_prefix}
use Rattle.repair_loop.proofs.Stops.{by_lemma}
use Rattle.repair_loop.proofs.Turned.{answered_true, left_open, round_after, went_then}
use Rattle.repair_loop.proofs.UniversalInputs.{outputs_read_universals}
use Rattle.repair_loop.proofs.searches.Search.judge_by_solver.Goals as goal

pub turn-requires-clause-checker : goal.turn-requires-clause-checker
turn-requires-clause-checker g c = search (arith, same_prefix)

pub turn-requires-clause-formula : goal.turn-requires-clause-formula
turn-requires-clause-formula g c = c.requires.search.here.way.formula

pub turn-requires-clause-read_universals : goal.turn-requires-clause-read_universals
turn-requires-clause-read_universals g c =
    let f = c.args.self.now.f.now in
    subst (All (ReadsUniversals f c.args.candidates.now.graph.now)) (sym c.items-nodes.ensures)
    (outputs_read_universals f c.requires.search.here.way.formula.prefix c.args.candidates.now.graph.now
    c.args.candidates.now.outputs.now c.requires.candidates.one_each c.requires.candidates.reads)

pub returns-in_err-id-clause-went : goal.returns-in_err-id-clause-went
returns-in_err-id-clause-went g c =
    let s = c.args.self.now in
    let left = c.turns_leave_searches.ensures s.f.now c.args.database.now c.args.checker.now c.turn.new.self s.definability.now s.may_ask
    (is_silent c.turn.result) c.args.log.now c.turn.new.log c.turn.ensures.turned c.requires.search.here.way in
    left.went

pub returns-in_err-id-clause-stopped : goal.returns-in_err-id-clause-stopped
returns-in_err-id-clause-stopped g c =
    let s = c.args.self.now in
    let left = c.turns_leave_searches.ensures s.f.now c.args.database.now c.args.checker.now c.turn.new.self s.definability.now s.may_ask
    (is_silent c.turn.result) c.args.log.now c.turn.new.log c.turn.ensures.turned c.requires.search.here.way in
    record {
      undecided = on_err _ (left.undecided (ap is_silent c.in_err-id.was) c.requires.search.here.undecided);
      limit = λ is.
          let stop : c.in_err-id.field-0.0 ≡ Limit = search rules in
          by_lemma s.f.now c.turn.new.log (some_limit c.turn.new.log
          (c.in_err-id.ensures.limit (ap (λ e. Err e) stop)).2);
      rows = λ is. left.rows ∙ c.requires.search.here.rows;
    }

pub returns-in-Holds-clause-went : goal.returns-in-Holds-clause-went
returns-in-Holds-clause-went g c =
    let s = c.args.self.now in
    let left = c.turns_leave_searches.ensures s.f.now c.args.database.now c.args.checker.now c.turn.new.self s.definability.now s.may_ask
    (is_silent c.turn.result) c.args.log.now c.turn.new.log c.turn.ensures.turned c.requires.search.here.way in
    left.went

pub returns-in-Holds-clause-hold : goal.returns-in-Holds-clause-hold
returns-in-Holds-clause-hold g c id e =
    let s = c.args.self.now in
    let left = c.turns_leave_searches.ensures s.f.now c.args.database.now c.args.checker.now c.turn.new.self s.definability.now s.may_ask
    (is_silent c.turn.result) c.args.log.now c.turn.new.log c.turn.ensures.turned c.requires.search.here.way in
    let f = s.f.now in
    let graph = c.args.candidates.now.graph.now in
    let nodes = c.args.candidates.now.outputs.now in
    let was = c.in_ok-id.was ∙ ap Ok c.in-Holds.is in
    let items : c.items-nodes.result.now ≡ nodes = c.items-nodes.ensures in
    let holds = subst (λ ns. HoldEverywhere f (outputs_of f graph ns)) items (c.turn.ensures.holds c.in-Holds.id was) in
    let shown = subst (λ ns. IsShownSince f graph ns c.args.log.now.entries c.turn.new.log.entries c.in-Holds.id) items
    (c.turn.ensures.shown c.in-Holds.id was) in
    let same : c.in-Holds.id ≡ id = cc in
    subst (IsAnsweredTrue f graph nodes c.turn.new.log) same
    (answered_true c.outputs_are_supported.ensures c.shown_outputs_decide.ensures f graph c.args.database.now.table.rows nodes
    c.args.log.now c.turn.new.log c.in-Holds.id c.requires.candidates holds left.before shown)

pub returns-in-Holds-clause-rows : goal.returns-in-Holds-clause-rows
returns-in-Holds-clause-rows g c id e =
    let s = c.args.self.now in
    let left = c.turns_leave_searches.ensures s.f.now c.args.database.now c.args.checker.now c.turn.new.self s.definability.now s.may_ask
    (is_silent c.turn.result) c.args.log.now c.turn.new.log c.turn.ensures.turned c.requires.search.here.way in
    left.rows ∙ c.requires.search.here.rows

pub log_failure-requires-clause-here : goal.log_failure-requires-clause-here
log_failure-requires-clause-here g c =
    let s = c.args.self.now in
    let left = c.turns_leave_searches.ensures s.f.now c.args.database.now c.args.checker.now c.turn.new.self s.definability.now s.may_ask
    (is_silent c.turn.result) c.args.log.now c.turn.new.log c.turn.ensures.turned c.requires.search.here.way in
    left_open s.f.now c.args.database.now c.args.database.now c.args.checker.now c.turn.new.self s.definability.now s.may_ask
    (is_silent c.turn.result) c.args.log.now c.turn.new.log (ap is_silent (c.in_ok-id.was ∙ ap Ok c.in-Fails.is)) left
    (left.rows ∙ c.requires.search.here.rows) c.requires.search.here.undecided

pub find_worse-failure-requires-clause-failure : goal.find_worse-failure-requires-clause-failure
find_worse-failure-requires-clause-failure g c =
    let f = c.args.self.now.f.now in
    let x = c.in-Fails in
    subst (λ ns. IsFailure f (outputs_of f c.args.candidates.now.graph.now ns) x.row x.values x.j)
    c.items-nodes.ensures (c.turn.ensures.fails x.row x.values x.j (c.in_ok-id.was ∙ ap Ok x.is))

pub returns-in_err-log_failure-in-Fails-clause-went : goal.returns-in_err-log_failure-in-Fails-clause-went
returns-in_err-log_failure-in-Fails-clause-went g c =
    let s = c.args.self.now in
    let left = c.turns_leave_searches.ensures s.f.now c.args.database.now c.args.checker.now c.turn.new.self s.definability.now s.may_ask
    (is_silent c.turn.result) c.args.log.now c.turn.new.log c.turn.ensures.turned c.requires.search.here.way in
    went_then s.f.now c.args.database.now c.args.database.now c.args.database.now c.args.checker.now c.turn.new.self
    c.turn.new.self s.definability.now s.may_ask c.args.log.now c.turn.new.log c.log_failure.new.log left.went c.log_failure.ensures.went

pub returns-in_ok-log_failure-in-Fails-clause-went : goal.returns-in_ok-log_failure-in-Fails-clause-went
returns-in_ok-log_failure-in-Fails-clause-went g c =
    let s = c.args.self.now in
    let left = c.turns_leave_searches.ensures s.f.now c.args.database.now c.args.checker.now c.turn.new.self s.definability.now s.may_ask
    (is_silent c.turn.result) c.args.log.now c.turn.new.log c.turn.ensures.turned c.requires.search.here.way in
    went_then s.f.now c.args.database.now c.args.database.now c.args.database.now c.args.checker.now c.turn.new.self
    c.turn.new.self s.definability.now s.may_ask c.args.log.now c.turn.new.log c.log_failure.new.log left.went c.log_failure.ensures.went

pub returns-in_ok-log_failure-in-Fails-clause-fail : goal.returns-in_ok-log_failure-in-Fails-clause-fail
returns-in_ok-log_failure-in-Fails-clause-fail g c row e =
    let s = c.args.self.now in
    let left = c.turns_leave_searches.ensures s.f.now c.args.database.now c.args.checker.now c.turn.new.self s.definability.now s.may_ask
    (is_silent c.turn.result) c.args.log.now c.turn.new.log c.turn.ensures.turned c.requires.search.here.way in
    let same : c.find_worse-failure.result.row ≡ row = cc in
    round_after s.f.now c.args.database.now c.turn.new.self s.definability.now s.may_ask c.find_worse-failure.result.row row c.args.log.now
    c.turn.new.log c.log_failure.new.log same left.went.grew c.in_ok-log_failure-in-Fails.ensures.round

pub returns-in_err-log_failure-in-Fails-clause-stopped : goal.returns-in_err-log_failure-in-Fails-clause-stopped
returns-in_err-log_failure-in-Fails-clause-stopped g c = search (arith, on_err)
