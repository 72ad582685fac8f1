use Rattle.std.proofs.Common.{◌≡◌, false, sym, subst}
use Rattle.hint_log.specs.Entries.{Begun, with_entry}
use Rattle.dq_session.specs.Databases.{live_of}
use Rattle.definability.specs.declared.definability.Definability.{Definability}
use Rattle.circuit_cnf.specs.declared.checkers.Checker.{Checker}
use Rattle.repair_loop.specs.Beginning.{HasStarted}
use Rattle.repair_loop.specs.Turning.{IsSearch}
use Rattle.repair_loop.proofs.Beginnings.{begun_search, begun_undecided, either_way, no_start, only_begun}
use Rattle.list_laws.proofs.Results.{on_ok}
use Rattle.repair_loop.proofs.search_states.SearchState.begin.Goals as goal

pub returns-clause-started : goal.returns-clause-started
returns-clause-started g c =
    let b = c.args.database.now in
    let k = c.log_beginning.ensures in
    let (graph, ready) = c.requires.ready in
    either_way c.log_beginning.result (c.log_beginning.new.log ≡ with_entry c.args.log.now (Begun (live_of b)))
    (c.log_beginning.new.log ≡ c.args.log.now) (HasStarted b c.log_beginning.new.self c.args.log.now c.log_beginning.new.log)
    (λ logged. only_begun c.beginnings_leave_databases.ensures c.beginnings_leave_stores.ensures c.args.f.now b c.args.self.now
    graph c.args.log.now c.log_beginning.new.log ready logged c.requires.now c.log_beginning.new.self k.checker k.definability
    k.named)
    (λ same. no_start b c.args.self.now c.log_beginning.new.self graph c.args.log.now c.log_beginning.new.log ready k.checker
    k.definability k.named same) k.logged k.err

pub returns-clause-begun : goal.returns-clause-begun
returns-clause-begun g c =
    let b = c.args.database.now in
    let (graph, ready) = c.requires.ready in
    on_ok c.log_beginning.result (λ logged. begun_undecided c.beginnings_leave_databases.ensures c.beginnings_leave_stores.ensures c.args.f.now b
    c.args.self.now graph c.args.log.now c.log_beginning.new.log ready logged c.requires.now) c.log_beginning.ensures.logged

pub returns-clause-ready : goal.returns-clause-ready
returns-clause-ready g c more inputs =
    let b = c.args.database.now in
    let k = c.log_beginning.ensures in
    let es = c.log_beginning.new.log.entries in
    let (graph, ready) = c.requires.ready in
    on_ok c.log_beginning.result (λ logged. subst (λ (q : Checker). IsSearch c.args.f.now more b q c.log_beginning.new.self.definability false es) (sym k.checker)
    (subst (λ (p : Definability). IsSearch c.args.f.now more b c.args.self.now.checker p false es) (sym k.definability)
    (begun_search c.beginnings_leave_databases.ensures c.beginnings_leave_stores.ensures c.args.f.now b c.args.self.now graph
    c.args.log.now c.log_beginning.new.log ready logged c.requires.now more inputs))) k.logged
