use Rattle.std.proofs.Common.{◌∙◌, Some, sym, ap, arith}
use Rattle.list_laws.proofs.Results.{on_ok, on_both, on_err}
use Rattle.script_text.specs.Commands.{command_seen}
use Rattle.session_runs.proofs.SearchedLogs.{ready-so-far}
use Rattle.session_runs.proofs.SearchedSessions.{on-err-weaker}
use Rattle.session_runs.proofs.TakenCommands.{search-is, may-take, work-of, standing-change, standing-search}
use Rattle.session_runs.proofs.sessions.Session.take_at.Goals as goal

pub search-requires-clause-room : goal.search-requires-clause-room
search-requires-clause-room g c = search arith

pub change-requires-clause-may_come : goal.change-requires-clause-may_come
change-requires-clause-may_come g c = search (arith, may-take)

pub returns-then-is_search-clause-ok : goal.returns-then-is_search-clause-ok
returns-then-is_search-clause-ok g c =
    let at = c.get-command.ensures
    ∙ ap Some (search-is (command_seen c.get-command.result) (sym c.is_search.ensures ∙ c.if-is_search.true)) in
    on_ok c.search.result
    (λ on. standing-search c.following_databases_stand.ensures c.undecided_takes_clauses.ensures c.args.script.now
    c.args.place c.args.self.now c.args.log.now at c.requires.standing c.search.new.self c.search.new.log on
    c.search.ensures.limit)
    c.search.ensures.ok

pub returns-then-is_search-clause-err : goal.returns-then-is_search-clause-err
returns-then-is_search-clause-err g c = search (arith, on-err-weaker, work-of)

pub returns-else-is_search-clause-ok : goal.returns-else-is_search-clause-ok
returns-else-is_search-clause-ok g c =
    on_both c.change.result
    (λ database current. standing-change c.databases_follow.ensures c.following_databases_stand.ensures
    c.opened_frames_leave_search_states.ensures c.closed_frames_leave_search_states.ensures c.added_clauses_leave_search_states.ensures
    c.args.script.now c.args.place c.args.self.now c.args.log.now (command_seen c.get-command.result)
    c.get-command.ensures c.requires.standing (sym c.is_search.ensures ∙ c.if-is_search.false) c.change.new.self
    c.change.ensures.same database current)
    c.change.ensures.database c.change.ensures.current

pub returns-else-is_search-clause-err : goal.returns-else-is_search-clause-err
returns-else-is_search-clause-err g c = search (arith, on_err, work-of, ready-so-far)
