use Rattle.std.proofs.Common.{◌+◌, ◌∙◌, length, refl, ap, arith}
use Rattle.std.proofs.lemmas.List.{length-map}
use Rattle.aig_graph.specs.Graph.{AigGraph}
use Rattle.session_runs.proofs.FirstLogs.{first-productive, none-begun-yet, first-database}
use Rattle.session_runs.proofs.sessions.Session.begin.Goals as goal

pub returns-in_err-database-clause-log : goal.returns-in_err-database-clause-log
returns-in_err-database-clause-log g c = search (arith, first-productive)

pub returns-clause-begun : goal.returns-clause-begun
returns-clause-begun g c =
    let f = c.args.f.now in
    let old = c.args.log.now in
    let mid = c.new.new.log in
    let b = c.in_ok-database.database in
    let first = first-database f old mid b c.requires.empty c.new.ensures.grew c.in_ok-database.ensures.begun
    c.in_ok-database.ensures.rows c.in_ok-database.ensures.database in
    let inputs =
    ap (λ (g : AigGraph). g.inputs) c.new-graph.ensures
    ∙ ap (λ us. length us + length c.existentials.result.now) c.universals.ensures
    ∙ ap (λ ys. length f.universals + length ys) c.existentials.ensures
    ∙ ap (λ n. length f.universals + n) (length-map f.existentials (λ e. e.variable)) in
    record {
      file = refl;
      database = c.in_ok-database.ensures.begun;
      ready = c.in_ok-search_state.ensures.ready b c.new-graph.result first inputs;
      none_began = none-begun-yet c.new-2.new.log.entries c.new-2.ensures.none;
      none_kept = tt;
      no_text = c.new-3.ensures.items;
      no_count = refl;
    }
