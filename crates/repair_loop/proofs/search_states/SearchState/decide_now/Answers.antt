use Rattle.std.proofs.Common.{◌∙◌, false, [], sym, ap, subst, arith}
use Rattle.std.specs.Option.{unwrap_or}
use Rattle.list_laws.proofs.Results.{on_err}
use Rattle.dq_session.specs.Databases.{live_of}
use Rattle.known_functions.specs.Searching.{HasInputs}
use Rattle.repair_loop.specs.Turning.{AreFaultsNew}
use Rattle.repair_loop.proofs.Beginnings.{start_undecided, start_faults}
use Rattle.repair_loop.proofs.EndedSearchStates.{answered_back, ready_again}
use Rattle.repair_loop.proofs.LogGrowth.{begun_on, begun_before}
use Rattle.repair_loop.proofs.search_states.SearchState.decide_now.Goals as goal

pub begin-requires-clause-ready : goal.begin-requires-clause-ready
begin-requires-clause-ready g c = (c.args.graph.now, c.requires.ready)

pub returns-in_err-begin-clause-kept : goal.returns-in_err-begin-clause-kept
returns-in_err-begin-clause-kept g c = c.begin.ensures.started.standing.kept

pub returns-in_err-begin-clause-selectors : goal.returns-in_err-begin-clause-selectors
returns-in_err-begin-clause-selectors g c = search arith

pub returns-in_err-begin-clause-limit_same : goal.returns-in_err-begin-clause-limit_same
returns-in_err-begin-clause-limit_same g c = c.begin.ensures.started.limit

pub returns-in_err-begin-clause-undecided : goal.returns-in_err-begin-clause-undecided
returns-in_err-begin-clause-undecided g c begun = search (arith, on_err, start_undecided)

pub returns-in_err-begin-clause-new_faults : goal.returns-in_err-begin-clause-new_faults
returns-in_err-begin-clause-new_faults g c begun = search (arith, start_faults)

pub search-requires-clause-search : goal.search-requires-clause-search
search-requires-clause-search g c =
    c.in_ok-begin.ensures.ready c.args.graph.now
    (subst (λ f. HasInputs f c.args.graph.now) (sym c.requires.now) c.requires.ready.inputs)

pub returns-clause-ready : goal.returns-clause-ready
returns-clause-ready g c other =
    let b = c.args.database.now in
    let begun = c.in_ok-begin.ensures.begun.begun in
    let ended = c.search.ensures.ended in
    let named = c.search.ensures.begun ∙ c.begin.ensures.started.named ∙ ap (λ o. unwrap_or o []) begun.named in
    ready_again c.search_states_are_grouped.ensures c.args.f.now b c.search.new.database c.args.self.now _ false c.args.graph.now
    c.search.new.graph c.args.log.now c.search.new.log c.requires.ready
    (begun_on (live_of b) c.args.log.now c.begin.new.log c.search.new.log begun ended.grew) ended.database
    (c.search.ensures.way other) (c.search.ensures.rows other)
    (g.met.O.Oracle.searched c.search.new.oracle c.search.new.log c.search.ensures.fit) named c.search.ensures.inputs

pub returns-clause-began : goal.returns-clause-began
returns-clause-began g c = search (arith, begun_on)

pub returns-clause-shown_false : goal.returns-clause-shown_false
returns-clause-shown_false g c id e =
    answered_back c.args.database.now c.search.new.database c.search.new.log id c.search.ensures.ended.database
    (c.search.ensures.shown_false id e)

pub returns-clause-new_faults : goal.returns-clause-new_faults
returns-clause-new_faults g c begun =
    subst (λ es. AreFaultsNew es c.search.new.log.entries)
    (begun_before (live_of c.args.database.now) c.args.log.now.entries c.search.new.log.entries begun)
    c.search.ensures.ended.new_faults

pub search-requires-clause-begun : goal.search-requires-clause-begun
search-requires-clause-begun g c = search arith
