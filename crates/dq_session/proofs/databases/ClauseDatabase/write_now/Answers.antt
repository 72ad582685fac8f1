use Rattle.std.proofs.Common.{◌≡◌, [], ◌∷◌, ◌++◌, length, get_or, slice_get, Some, sym, ◌∙◌, ap, subst, arith}
use Rattle.std.specs.List.{filter_map}
use Rattle.std.proofs.lemmas.List.{take_all}
use Rattle.std.proofs.lemmas.Option.{slice_get-get_or}
use Rattle.dq_lits.specs.Formula.{Dqbf}
use Rattle.hint_log.specs.Live.{with_matrix}
use Rattle.hint_log.specs.Naming.{numbered_from_one}
use Rattle.dq_session.specs.Databases.{DatabaseState, all_of}
use Rattle.dq_session.specs.declared.live.Live.{Live}
use Rattle.dq_session.proofs.LiveFormulas.{live_within, one_more, few_so_far, all_clauses, clause_bound}
use Rattle.dq_session.proofs.databases.ClauseDatabase.write_now.Goals as goal

pub loop-live-init : goal.loop-live-init
loop-live-init c = c.requires.empty

pub clause-requires-clause-from_one : goal.clause-requires-clause-from_one
clause-requires-clause-from_one c = search (arith, slice_get-get_or, live_within)

pub clause-requires-clause-last : goal.clause-requires-clause-last
clause-requires-clause-last c = search (arith, slice_get-get_or, live_within)

pub add_clause-requires-clause-in_range : goal.add_clause-requires-clause-in_range
add_clause-requires-clause-in_range c = search (arith, slice_get-get_or, clause_bound)

pub add_clause-requires-clause-few : goal.add_clause-requires-clause-few
add_clause-requires-clause-few c = search (arith, slice_get-get_or, live_within, few_so_far)

pub loop-live-preserved : goal.loop-live-preserved
loop-live-preserved c =
    let b = c.args.self.now in
    let i = c.loop-live.live-index in
    let items = c.deref-live-items.result.now in
    let none : Live = record { clause = 0; frame = 0 } in
    let l = get_or items i none in
    let are = c.deref-live-items.ensures.value ∙ ap (λ (x : DatabaseState). x.live) c.self.view_is in
    let there = subst (λ xs. slice_get xs i ≡ Some l) are (slice_get-get_or items i none c.loop-live-test.true) in
    let lits = c.clause.result.now in
    c.in_ok-add_clause.ensures.ok
    ∙ ap (λ (f : Dqbf). record f { matrix = f.matrix ++ lits ∷ [] }) c.loop-live.invariant
    ∙ ap (with_matrix b.file) (sym (one_more b c.requires.database.0 c.requires.database.1 i l there lits c.clause.ensures))

pub returns : goal.returns
returns c =
    let b = c.args.self.now in
    let i = c.loop-live.live-index in
    let are = c.deref-live-items.ensures.value ∙ ap (λ (x : DatabaseState). x.live) c.self.view_is in
    let test = c.loop-live-test.false in
    let long = ap length are in
    c.loop-live.invariant
    ∙ ap (λ ls. with_matrix b.file (filter_map (λ (l : Live). numbered_from_one (all_of b).matrix l.clause) ls))
    (take_all i b.live (omega (arith, test, long)))
    ∙ ap (with_matrix b.file) (all_clauses b)
