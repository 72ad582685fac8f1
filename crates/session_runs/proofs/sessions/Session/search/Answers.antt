use Rattle.std.proofs.Common.{refl}
use Rattle.list_laws.proofs.Results.{on_ok}
use Rattle.session_runs.proofs.SearchedSessions.{searched-on}
use Rattle.session_runs.proofs.sessions.Session.search.Goals as goal

pub returns-clause-ok : goal.returns-clause-ok
returns-clause-ok g c =
    on_ok c.write_block.result
    (λ written. searched-on c.args.self.now c.renew.new.self _ c.args.log.now c.search_text.new.log c.in-Some.f
    c.in_ok-text.text.items c.deref.result.now c.in_ok-renew.ensures.same c.in_ok-renew.ensures.now c.in-Some.is
    c.in_ok-text.ensures.found c.deref.ensures.value c.in_ok-text.ensures.ready c.in_ok-text.ensures.database
    refl refl refl written)
    c.write_block.ensures
